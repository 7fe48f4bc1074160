-- `pack_digits` meets its contract.
use Rattle.std.proofs.Common.{arith, ◌∙◌}
use Rattle.digits.specs.Digits.{pack}
use Rattle.digits.proofs.Lists.{filled-done}
use Rattle.digits.proofs.pack_digits.Goals as goal

pub returns : goal.returns
unfolding pack
returns c = filled-done c.loop-j.invariant (omega arith) ∙ rw c.requires.0
