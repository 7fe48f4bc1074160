-- `unpack_into` meets its contract.
use Rattle.std.proofs.Common.{arith}
use Rattle.digits.specs.Digits.{unpack}
use Rattle.digits.proofs.Lists.{filled-done}
use Rattle.digits.proofs.unpack_into.Goals as goal

pub returns : goal.returns
unfolding unpack
returns c = filled-done c.loop-i.invariant (omega arith)
