-- `dump::add_lines` meets its contract.
use Rattle.dump.proofs.Shown.{ShownTo}
use Rattle.dump.proofs.add_lines.Given as goal

abbrev pub invariant-loop-k : goal.invariant-loop-k
invariant-loop-k l = ShownTo l.m.bitmap l.m.counts l.m.contents l.at l.initial.out l.k l.end l.out
