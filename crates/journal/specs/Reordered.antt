-- Document 02, request 5: no sum changes when entries are reordered.
use Rattle.std.specs.Prelude.{◌≡◌, List, [], ◌∷◌, ◌++◌, Bool, ℕ, ◌<◌, length}
use Rattle.entry.specs.declared.Entry.{Entry}
use Rattle.journal.specs.Journal.{entry_at, sums_of}

-- fs are the entries of es in any order: place i has the entry that had place `from i`, and no place is taken twice
pub record Reordered (es fs : List Entry) : Type 0 where
  pub from : ℕ → ℕ
  pub same_length : length fs ≡ length es
  pub within : (i : ℕ) → i < length es → from i < length es
  pub once : (i k : ℕ) → i < length es → k < length es → from i ≡ from k → i ≡ k
  pub same : (i : ℕ) → i < length es → entry_at fs i ≡ entry_at es (from i)

abbrev pub SumsInAnyOrder : Type 0
SumsInAnyOrder = (p : Entry → Bool) (es fs : List Entry) → Reordered es fs → sums_of p fs ≡ sums_of p es

-- every order is among them: the first entry may go last, the first two may be exchanged, and an order may follow another
pub record EveryOrder : Type 0 where
  pub first_last : (e : Entry) (es : List Entry) → Reordered (e ∷ es) (es ++ (e ∷ []))
  pub first_two : (d e : Entry) (es : List Entry) → Reordered (d ∷ e ∷ es) (e ∷ d ∷ es)
  pub then : (es fs gs : List Entry) → Reordered es fs → Reordered fs gs → Reordered es gs
