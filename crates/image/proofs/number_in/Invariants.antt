-- `image::number_in` meets its contract: the bytes passed are the number's.
use Rattle.field.proofs.Words.{Word}
use Rattle.image.proofs.number_in.Given as goal

abbrev pub invariant-loop-x : goal.invariant-loop-x
invariant-loop-x l = Word l.b l.x-index l.word
