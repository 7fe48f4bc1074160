-- `packed_number` meets its contract: 18 digits fit 64 bits.
use Rattle.digits.proofs.Packed.{Told}
use Rattle.digits.proofs.packed_number.Given as goal

abbrev pub invariant-loop-b : goal.invariant-loop-b
invariant-loop-b l = Told l.s l.b-index l.v
