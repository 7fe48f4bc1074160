-- `sum_of` meets its contract.
use Rattle.std.proofs.Common.{arith}
use Rattle.digits.proofs.Numbers.{summed-fits, summed-done}
use Rattle.digits.proofs.sum_of.Goals as goal

pub overflow_mul-v : goal.overflow_mul-v
overflow_mul-v c = omega (arith, summed-fits c.loop-d.invariant (omega arith) c.requires.0 c.requires.1)

pub overflow_add-v : goal.overflow_add-v
overflow_add-v c = omega (arith, summed-fits c.loop-d.invariant (omega arith) c.requires.0 c.requires.1)

pub returns : goal.returns
returns c = summed-done c.loop-d.invariant (omega arith)
