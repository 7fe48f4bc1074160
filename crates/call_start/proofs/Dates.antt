-- The date of an entry as a number.
use mathlib.Core.Path.{◌≡◌, ◌∙◌}
use Prim.Native.Nat.{ℕ, ◌*◌}
use lib.ListN.{length}
use Rattle.digits.specs.Packed.{packed_number}
use Rattle.entry.specs.declared.Entry.{Entry}

pub named-date : (e : Entry) (x : ℕ) → length e.date ≡ 2 → x ≡ packed_number (2 * length e.date) e.date → x ≡ packed_number 4 e.date
named-date e x l h = h ∙ rw l
