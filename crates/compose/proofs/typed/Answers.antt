-- `compose::typed` meets its contract.
use Rattle.field.specs.Table.{formats}
use Rattle.compose.proofs.typed.Goals as goal

pub returns : goal.returns
unfolding formats
returns c = rw c.new.ensures
