-- `image::number_in` meets its contract: the bytes passed are the number's.
use Rattle.std.proofs.Common.{arith}
use Rattle.field.proofs.Words.{word_fits}
use Rattle.image.proofs.number_in.Goals as goal

pub overflow_mul-word : goal.overflow_mul-word
overflow_mul-word c = omega (arith, word_fits c.loop-x.invariant (omega arith))

pub overflow_add-word : goal.overflow_add-word
overflow_add-word c =
    omega (arith, word_fits c.loop-x.invariant (omega arith), c.type_inv.b c.loop-x.x-index)
