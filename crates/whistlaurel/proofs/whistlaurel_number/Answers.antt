-- `whistlaurel::whistlaurel_number` meets its contract.
use Rattle.interface_definitions.proofs.Leaves.{no_row, no_number, number_read}
use Rattle.whistlaurel.proofs.whistlaurel_number.Goals as goal

pub returns-then-row-ge-ROWS : goal.returns-then-row-ge-ROWS
returns-then-row-ge-ROWS c = rw c.into.ensures (no_row _ _ _ c.if-row-ge-ROWS.true)

pub returns-in-None : goal.returns-in-None
returns-in-None c = rw c.into-in-None.ensures (no_number _ c.read.ensures _ _ c.if-row-ge-ROWS.false c.in-None.is)

pub returns-in-Some : goal.returns-in-Some
returns-in-Some c = number_read _ c.read.ensures _ _ c.if-row-ge-ROWS.false c.in-Some.is c.values_of-values.ensures
