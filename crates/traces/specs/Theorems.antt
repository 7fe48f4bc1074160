-- What is proved of the number that is taken next.
use Rattle.std.specs.Prelude.{◌≡◌, List, true, ℕ, ◌≤◌, ◌<◌, length}
use Rattle.numbers.specs.Limits.{last_number}
use Rattle.entry.specs.declared.Entry.{Entry}
use Rattle.journal.specs.Journal.{absent, taken}

-- from a trace number on, and with fewer entries than there are trace numbers: it is a trace number, and no entry has it
pub record Free (es : List Entry) (x : ℕ) : Type 0 where
  pub least : 1 ≤ taken es x
  pub most : taken es x ≤ last_number
  pub free : absent (taken es x) es ≡ true

abbrev pub TakenIsFree : Type 0
TakenIsFree = (es : List Entry) (x : ℕ) → 1 ≤ x → x ≤ last_number → length es < last_number → Free es x
