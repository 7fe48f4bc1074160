-- `take` meets its contract.
use Rattle.std.proofs.Common.{sym}
use lib.ListN.{length-map}
use Rattle.entry.specs.Entry.{decode}
use Rattle.traces.proofs.Passing.{search_done}
use Rattle.traces.proofs.take.Goals as goal

pub returns : goal.returns
returns c =
    rw (← c.entries_of-entries.ensures)
    (search_done c.args.next.0 (sym (length-map c.entries_of-entries.result.now decode)) c.pass-p.ensures c.loop-p.invariant c.loop-p-test.false)
