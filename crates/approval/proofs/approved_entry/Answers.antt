-- `approval::approved_entry` meets its contract.
use Rattle.approval.specs.Approval.{approved_entry}
use Rattle.approval.proofs.approved_entry.Goals as goal

pub returns : goal.returns
unfolding approved_entry
returns c = rw c.zero_filled.ensures
