-- `image::put_number` meets its contract: what is stored so far is the end of the bytes.
use Rattle.std.proofs.Common.{arith}
use Rattle.image_definitions.proofs.Laid.{spelled_more, spelled_done}
use Rattle.image.proofs.put_number.Goals as goal

pub loop-i-preserved : goal.loop-i-preserved
loop-i-preserved c = spelled_more c.loop-i.invariant (omega arith)

pub returns : goal.returns
returns c = spelled_done c.loop-i.invariant (omega arith)
