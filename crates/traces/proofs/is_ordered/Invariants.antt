-- `is_ordered`: the entries passed stand in order.
use Rattle.std.proofs.Common.{◌≡◌, map, drop}
use Rattle.entry.specs.Entry.{decode}
use Rattle.traces.specs.Traces.{ordered, rising}
use Rattle.traces.proofs.is_ordered.Given as goal

abbrev pub invariant-loop-b : goal.invariant-loop-b
invariant-loop-b l = ordered (map decode l.entries) ≡ rising l.first l.wrapped l.last (map decode (drop l.b-index l.rest))
