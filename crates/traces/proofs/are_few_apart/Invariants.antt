-- `are_few_apart`: the traces passed are noted, and differ.
use Rattle.std.proofs.Common.{map}
use Rattle.entry.specs.Entry.{decode}
use Rattle.traces.proofs.Noted.{Noted}
use Rattle.traces.proofs.are_few_apart.Given as goal

abbrev pub invariant-loop-i : goal.invariant-loop-i
invariant-loop-i l = Noted (map decode l.entries) l.i l.seen
