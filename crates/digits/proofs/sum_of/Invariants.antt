-- `sum_of` meets its contract: 19 digits fit 64 bits.
use Rattle.digits.proofs.Numbers.{Summed}
use Rattle.digits.proofs.sum_of.Given as goal

abbrev pub invariant-loop-d : goal.invariant-loop-d
invariant-loop-d l = Summed l.ds l.d-index l.v
