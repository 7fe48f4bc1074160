-- `put_number` meets its contract: what is stored so far is the end of the packed digits.
use Rattle.std.proofs.Common.{length}
use Rattle.digits.proofs.Packed.{Spelled}
use Rattle.digits.proofs.put_number.Given as goal

abbrev pub invariant-loop-k : goal.invariant-loop-k
invariant-loop-k l = Spelled (length l.initial.out) l.x l.k l.v l.out
