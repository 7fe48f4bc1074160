-- `are_apart`: the entries passed have other traces than those after them.
use Rattle.std.proofs.Common.{◌≡◌, map, length}
use Rattle.entry.specs.Entry.{decode}
use Rattle.journal.specs.Journal.{distinct}
use Rattle.traces.proofs.are_apart.Given as goal

abbrev pub invariant-loop-b : goal.invariant-loop-b
invariant-loop-b l = distinct (map decode l.entries) ≡ distinct (map decode l.left)

abbrev pub decreases-loop-b : goal.decreases-loop-b
decreases-loop-b l = length l.left
