-- `hexadecimal::put_digits` meets its contract.
use Rattle.std.proofs.Common.{rules}
use Rattle.hexadecimal.specs.Hexadecimal.{to_hex}
use Rattle.digits.proofs.Lists.{filled_none, filled_more, filled-done}
use Rattle.hexadecimal.proofs.put_digits.Goals as goal

pub loop-i-init : goal.loop-i-init
loop-i-init c = filled_none _ _

pub loop-i-preserved : goal.loop-i-preserved
loop-i-preserved c =
    filled_more c.loop-i.invariant (search rules) c.hex_at.ensures

pub returns : goal.returns
unfolding to_hex
returns c =
    rw (← c.requires) (filled-done c.loop-i.invariant (search rules))
