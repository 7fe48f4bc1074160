-- `words::trim_end` meets its contract.
use Rattle.std.proofs.Common.{◌≡◌, length}
use Rattle.words.specs.Lines.{cut}
use Rattle.words.proofs.trim_end.Given as goal

abbrev pub invariant-loop-s : goal.invariant-loop-s
invariant-loop-s l = cut l.s ≡ cut l.fn.s

abbrev pub decreases-loop-s : goal.decreases-loop-s
decreases-loop-s l = length l.s
