-- `journal::put_entry` meets its contract.
use Rattle.digits.proofs.Copies.{copied_whole}
use mathlib.Core.Path.{sym}
use borrow.Author.Rules.{rules}
use native.Mathlib.Omega.{arith}
use Rattle.journal.proofs.Entries.{put_copied, put_short}
use Rattle.journal.proofs.put_entry.Goals as goal

pub returns-then-end-journal : goal.returns-then-end-journal
returns-then-end-journal c =
    put_copied _ _ _ _ _ _ c.from-at.ensures (omega arith) (search rules) c.bytes_of.ensures (copied_whole _ _ c.copy.ensures (search rules))

pub returns-else-end-journal : goal.returns-else-end-journal
returns-else-end-journal c = sym (put_short _ _ _ (omega arith))
