-- `field::is_allowed` meets its contract.
use Rattle.field.specs.Contents.{allowed}
use Rattle.field.proofs.is_allowed.Goals as goal

pub returns : goal.returns
unfolding allowed
returns c = rw (c.from.ensures, c.from-2.ensures, c.is_listed_length.ensures)
