-- The lines of an input, and the words of a line.
use Rattle.std.specs.Prelude.{◌≡◌, ℕ, ◌+◌, ◌%◌, ◌^◌, ◌<◌, ◌≤◌, Bool, true, cond, not, List, [], ◌++◌, length, take, drop, nat_le}
use Rattle.words.specs.Bytes.{slice, index_of}
use Rattle.texts.specs.Text.{Adds}
use Rattle.words.specs.Lines.{trimmed, skipped}
use Rattle.line_ends.specs.Lines.{before_feed, has_feed, line_of}
use Rattle.input.specs.declared.Left.{Left}
use Rattle.input.specs.declared.Input.{Input}

-- the line in hand: n bytes at the front of a buffer b, without the line end
unfoldable pub in_hand : Bool → ℕ → List ℕ → List ℕ
in_hand whole n b = line_of whole (take n b)

-- the words of a line that is to be answered; none where it is skipped
unfoldable pub words_in : List ℕ → List ℕ
words_in s = cond (skipped (trimmed s)) [] (trimmed s)

-- the bytes of a chunk that are still to be taken; none where they do not lie within it
unfoldable pub left_in : Left → List ℕ → List ℕ
left_in left chunk = cond (nat_le left.end (length chunk)) (slice left.from left.end chunk) []

-- the first line of s, without its line end
unfoldable pub first_line : List ℕ → List ℕ
first_line s = line_of (has_feed s) (before_feed s)

-- the bytes of s behind its first line feed; none where it has none
unfoldable pub behind_feed : List ℕ → List ℕ
behind_feed s = drop (index_of 0x0A s + 1) s

-- what is left of a chunk lies within it
pub record Within (left : Left) (chunk : List ℕ) : Type 0 where
  pub ordered : left.from ≤ left.end
  pub ends : left.end ≤ length chunk

-- some of a chunk is left, or a read has changed the chunk: nothing is read where bytes are left
pub record Refills (left : Left) (chunk : List ℕ) (r : Left) (changed : List ℕ) : Type 0 where
  -- the bytes that the read brought
  pub brought : List ℕ
  pub unread : 0 < length (left_in left chunk) → (brought ≡ []) × (changed ≡ chunk)
  pub left_is : left_in r changed ≡ left_in left chunk ++ brought
  pub within : Within r changed

-- a line of n bytes takes what is left of a chunk and what reads bring, up to the first line feed; it grows by the bytes before that, as far as there
-- is room. What stands behind the line feed is left, so no byte is lost between two lines and none is taken twice. Where what is left holds
-- a line feed, nothing is read.
pub record Takes (left : Left) (chunk : List ℕ) (n : ℕ) (line : List ℕ) (r : Input) (changed grown : List ℕ) : Type 0 where
  -- the bytes that reads brought
  pub brought : List ℕ
  pub unread : has_feed (left_in left chunk) ≡ true → (brought ≡ []) × (changed ≡ chunk)
  pub line_is : Adds (before_feed (left_in left chunk ++ brought)) n line r.len grown
  pub whole_is : r.whole ≡ has_feed (left_in left chunk ++ brought)
  pub left_is : left_in r.left changed ≡ behind_feed (left_in left chunk ++ brought)
  pub within : Within r.left changed

-- the next line of an input: it is whole, or else the input has ended. An input has ended, too, where 2^64 - 1 reads for one line brought no line feed.
pub record NextLine (input : Input) (chunk line : List ℕ) (r : Input) (changed grown : List ℕ) : Type 0 where
  pub number_is : r.number ≡ (input.number + 1) % 2 ^ 64
  pub file_is : r.file ≡ input.file
  pub ended_is : r.ended ≡ not r.whole
  pub takes : Takes input.left chunk 0 line r changed grown
