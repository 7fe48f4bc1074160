-- `texts::add_hex` meets its contract.
use Rattle.std.proofs.Common.{arith}
use lib.Seq.{take_all}
use Rattle.texts.proofs.Texts.{hex_none, hex_next}
use Rattle.texts.proofs.add_hex.Goals as goal

pub loop-b-init : goal.loop-b-init
loop-b-init c = hex_none

pub loop-b-preserved : goal.loop-b-preserved
loop-b-preserved c =
    hex_next c.args.s.now c.loop-b.b-index (omega arith) c.loop-b.invariant c.add_hex_byte-at.ensures

pub returns : goal.returns
returns c =
    rw (take_all c.loop-b.b-index c.args.s.now (omega arith)) at c.loop-b.invariant
