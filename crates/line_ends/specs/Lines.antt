-- A line of some bytes: those up to a line feed.
use Rattle.std.specs.Prelude.{List, Bool, true, false, cond, ℕ, ◌+◌, ◌-◌, ltb, eqb, length, get_or, take}
use Rattle.words.specs.Bytes.{index_of}

-- the bytes of s before its first line feed, or all where it has none
unfoldable pub before_feed : List ℕ → List ℕ
before_feed s = take (index_of 0x0A s) s

unfoldable pub has_feed : List ℕ → Bool
has_feed s = ltb (index_of 0x0A s) (length s)

-- how many bytes of s the line takes, its line feed among them
unfoldable pub used : List ℕ → ℕ
used s = cond (has_feed s) (index_of 0x0A s + 1) (length s)

-- s without a carriage return at its end
unfoldable pub without_return : List ℕ → List ℕ
without_return s = cond (eqb (get_or s (length s - 1) 0) 0x0D) (take (length s - 1) s) s

-- a line without its line end; a carriage return before the line feed is dropped
abbrev pub line_of : Bool → List ℕ → List ℕ
line_of true s = without_return s
line_of false s = s
