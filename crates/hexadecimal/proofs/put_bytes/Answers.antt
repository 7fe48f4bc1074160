-- `hexadecimal::put_bytes` meets its contract.
use Rattle.std.proofs.Common.{rules}
use Rattle.hexadecimal.specs.Hexadecimal.{from_hex}
use Rattle.digits.proofs.Lists.{filled_none, filled_more, filled-done}
use Rattle.hexadecimal.proofs.put_bytes.Goals as goal

pub loop-j-init : goal.loop-j-init
loop-j-init c = filled_none _ _

pub loop-j-preserved : goal.loop-j-preserved
loop-j-preserved c =
    filled_more c.loop-j.invariant (search rules) c.hex_byte.ensures

pub returns : goal.returns
unfolding from_hex
returns c =
    rw (← c.requires.0) (filled-done c.loop-j.invariant (search rules))
