-- `answer_match::indicator_sent` meets its contract.
use Rattle.std.proofs.Common.{arith}
use Rattle.kinds.proofs.Types.{indicator-bound}
use Rattle.answer_match.proofs.indicator_sent.Goals as goal

pub returns-in-Request : goal.returns-in-Request
returns-in-Request c =
    (rw (c.indicator_of.ensures, c.in-Request.is), rw c.indicator_of.ensures (omega (arith, indicator-bound c.in-Request.q.kind)))
