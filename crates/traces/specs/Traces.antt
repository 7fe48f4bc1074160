-- What the private functions promise: the order in which traces are taken, and one pass of the search for a free one.
use Rattle.std.specs.Prelude.{◌≡◌, List, [], ◌∷◌, Bool, true, false, not, ◌&&◌, ◌||◌, ℕ, ◌≤◌, ◌<◌, ltb, eqb, length, get_or}
use Rattle.digits.specs.Lists.{all}
use Rattle.entry.specs.declared.Entry.{Entry}
use Rattle.journal.specs.Journal.{entry_at, absent, taken_from}

unfoldable pub trace_at : List Entry → ℕ → ℕ
trace_at es i = (entry_at es i).trace.0

-- t may come after x: above it, or the one wrap; what comes after the wrap stays below the first, f
unfoldable pub may_follow : ℕ → Bool → ℕ → ℕ → Bool
may_follow f wrapped x t = (ltb x t && (not wrapped || ltb t f)) || (not wrapped && ltb t f)

-- the entries go on in order after x
abbrev pub rising : ℕ → Bool → ℕ → List Entry → Bool
rising f wrapped x [] = true
rising f wrapped x (e ∷ es) =
    may_follow f wrapped x e.trace.0 && rising f (wrapped || not (ltb x e.trace.0)) e.trace.0 es

-- ascending, with at most one wrap, and after it below the first
abbrev pub ordered : List Entry → Bool
ordered [] = true
ordered (e ∷ es) = rising e.trace.0 false e.trace.0 es

-- none of the numbers is t
unfoldable pub unseen : ℕ → List ℕ → Bool
unseen t xs = all (length xs) (λ k. not (eqb (get_or xs k 0) t))

-- a search for the number x has come to y, with so many numbers left to leave behind; where it has left none behind, y is free
pub record Pass (es : List Entry) (x left y rest : ℕ) : Type 0 where
  pub same : x ≡ taken_from rest es y
  pub fewer : rest ≤ left
  pub free : left ≤ rest → 0 < rest → absent y es ≡ true
