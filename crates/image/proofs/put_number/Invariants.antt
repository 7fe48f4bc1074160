-- `image::put_number` meets its contract: what is stored so far is the end of the bytes.
use Rattle.std.proofs.Common.{length}
use Rattle.image_definitions.proofs.Laid.{Spelled}
use Rattle.image.proofs.put_number.Given as goal

abbrev pub invariant-loop-i : goal.invariant-loop-i
invariant-loop-i l = Spelled (length l.initial.out) l.x l.i l.y l.out
