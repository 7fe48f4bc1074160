-- `pass`: the search goes on from where the entries passed have led it.
use Rattle.std.proofs.Common.{map}
use Rattle.entry.specs.Entry.{decode}
use Rattle.journal.specs.Journal.{taken_from}
use Rattle.traces.proofs.Passing.{Passing}
use Rattle.traces.proofs.pass.Given as goal

abbrev pub invariant-loop-b : goal.invariant-loop-b
invariant-loop-b l =
    let es = map decode l.entries in Passing es (taken_from l.initial.left es l.initial.next.0) l.initial.left l.b-index l.next.0 l.left
