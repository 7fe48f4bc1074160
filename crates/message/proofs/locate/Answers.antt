-- `message::locate` meets its contract.
use Rattle.std.proofs.Common.{sym}
use Rattle.message.proofs.Standing.{sought_none, sought_here, sought_more, sought_done}
use Rattle.message.proofs.locate.Goals as goal

pub loop-row-init : goal.loop-row-init
loop-row-init c = sought_none _

pub returns-then-form-n : goal.returns-then-form-n
returns-then-form-n c =
    sym (sought_here _ c.table-table.ensures c.loop-row.invariant c.loop-row-test.true
    c.places-places.ensures c.from-from.ensures c.if-form-n.true)

pub loop-row-preserved : goal.loop-row-preserved
loop-row-preserved c =
    sought_more _ c.table-table.ensures c.loop-row.invariant c.loop-row-test.true c.if-form-n.false

pub returns : goal.returns
returns c = sym (sought_done c.loop-row.invariant c.loop-row-test.false)
