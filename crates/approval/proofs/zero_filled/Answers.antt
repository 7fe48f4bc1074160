-- `approval::zero_filled` meets its contract: the digits stand at the front of zeros, and 20 of them are packed.
use Rattle.std.proofs.Common.{arith}
use Rattle.approval.proofs.Approval.{filled}
use Rattle.approval.proofs.zero_filled.Goals as goal

pub returns : goal.returns
returns c = filled c.args.card _ c.from.ensures (omega arith) c.digits_into.ensures c.pack_into.ensures.1
