-- `copy` meets its contract: the places passed are copied, the others stay.
use Rattle.std.proofs.Common.{◌≡◌, take, drop}
use Rattle.digits.proofs.copy.Given as goal

abbrev pub invariant-loop-i : goal.invariant-loop-i
invariant-loop-i l = (take l.i l.out ≡ take l.i l.from) × (drop l.i l.out ≡ drop l.i l.initial.out)
