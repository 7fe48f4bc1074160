-- `desk::chip_of` meets its contract.
use borrow.Author.Rules.{rules}
use Rattle.digits.proofs.Copies.{copied_short}
use Rattle.desk.proofs.chip_of.Goals as goal

pub returns : goal.returns
returns c = λ h. rw (c.none-2.ensures, copied_short _ _ c.copy.ensures (search rules))
