-- `journal::set_byte` meets its contract.
use mathlib.Core.Path.{sym}
use native.Mathlib.Omega.{arith}
use lib.Seq.{set_out}
use Rattle.journal.specs.Journal.{set_byte}
use Rattle.journal.proofs.set_byte.Goals as goal

pub returns-then-at-journal : goal.returns-then-at-journal
unfolding set_byte
returns-then-at-journal c = rw (c.from.ensures, c.from-2.ensures)

pub returns-else-at-journal : goal.returns-else-at-journal
unfolding set_byte
returns-else-at-journal c = sym (set_out _ _ _ (omega arith))
