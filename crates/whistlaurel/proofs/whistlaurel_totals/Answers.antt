-- `whistlaurel::whistlaurel_totals` meets its contract.
use Rattle.interface_definitions.proofs.Leaves.{no_totals, totals-read}
use Rattle.whistlaurel.proofs.whistlaurel_totals.Goals as goal

pub returns-in-None : goal.returns-in-None
returns-in-None c = rw c.into.ensures (no_totals _ c.read.ensures _ c.in-None.is)

pub returns-in-Some : goal.returns-in-Some
returns-in-Some c = totals-read _ c.read.ensures _ c.in-Some.is
