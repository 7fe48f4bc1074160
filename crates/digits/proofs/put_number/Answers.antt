-- `put_number` meets its contract.
use Rattle.std.proofs.Common.{arith}
use Rattle.digits.proofs.Packed.{spelled_more, spelled_done}
use Rattle.digits.proofs.put_number.Goals as goal

pub loop-k-preserved : goal.loop-k-preserved
loop-k-preserved c = spelled_more c.loop-k.invariant (omega arith)

pub returns : goal.returns
returns c = spelled_done c.loop-k.invariant (omega arith)
