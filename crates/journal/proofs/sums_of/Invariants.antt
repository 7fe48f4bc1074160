-- `journal::sums_of`: the sums of the entries passed, with those left.
use Rattle.std.proofs.Common.{map, drop}
use Rattle.entry.specs.Entry.{decode}
use Rattle.journal.proofs.Sums.{Gathering}
use Rattle.journal.proofs.sums_of.Given as goal

abbrev pub invariant-loop-b : goal.invariant-loop-b
invariant-loop-b l = Gathering (map decode l.entries) l.b-index (map decode (drop l.b-index l.entries)) l.sums
