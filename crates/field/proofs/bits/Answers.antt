-- `field::bits` meets its contract.
use mathlib.Core.Path.{refl}
use Rattle.field.specs.Table.{formats}
use Rattle.field.proofs.bits.Goals as goal

pub returns : goal.returns
unfolding formats
returns c = refl
