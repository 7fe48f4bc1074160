-- `take`: a pass that leaves no number behind is the last.
use Rattle.std.proofs.Common.{map}
use Rattle.entry.specs.Entry.{decode}
use Rattle.journal.specs.Journal.{taken_from}
use Rattle.traces.specs.Traces.{Pass}
use Rattle.traces.proofs.take.Given as goal

abbrev pub invariant-loop-p : goal.invariant-loop-p
invariant-loop-p l =
    let es = map decode l.entries in Pass es (taken_from l.initial.p.left es l.initial.p.next.0) l.left l.p.next.0 l.p.left

abbrev pub decreases-loop-p : goal.decreases-loop-p
decreases-loop-p l = l.left
