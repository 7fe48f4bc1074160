-- `digits_into` meets its contract: what is stored so far is the end of the digits.
use Rattle.std.proofs.Common.{length}
use Rattle.digits.proofs.Numbers.{Spelled}
use Rattle.digits.proofs.digits_into.Given as goal

abbrev pub invariant-loop-i : goal.invariant-loop-i
invariant-loop-i l = Spelled (length l.initial.out) l.x l.i l.y l.out
