-- `words::trim_start` meets its contract.
use Rattle.std.proofs.Common.{◌≡◌, length, drop}
use Rattle.words.specs.Lines.{spaces}
use Rattle.words.proofs.trim_start.Given as goal

abbrev pub invariant-loop-s : goal.invariant-loop-s
invariant-loop-s l = drop (spaces l.s) l.s ≡ drop (spaces l.fn.s) l.fn.s

abbrev pub decreases-loop-s : goal.decreases-loop-s
decreases-loop-s l = length l.s
