-- `whistlaurel::whistlaurel_sums` meets its contract.
use Rattle.interface_definitions.proofs.Leaves.{no_sums, sums-refused, sums-read}
use Rattle.whistlaurel.proofs.whistlaurel_sums.Goals as goal

pub returns-in-None : goal.returns-in-None
returns-in-None c = rw c.into-in-None.ensures (no_sums _ c.read.ensures _ _ c.in-None.is)

pub returns-in-Err : goal.returns-in-Err
returns-in-Err c = rw c.into.ensures (sums-refused _ c.read.ensures _ _ c.in-Some.is c.judge_report.ensures c.in-Err.is)

pub returns-in-Ok : goal.returns-in-Ok
returns-in-Ok c =
    sums-read _ c.read.ensures _ _ c.in-Some.is c.judge_report.ensures c.in-Ok.is c.sums_of.ensures c.sums_values.ensures
