-- `image::numbers_in` meets its contract: the rows passed are read.
use Rattle.image_definitions.specs.Layout.{widths}
use Rattle.image_definitions.proofs.Laid.{ReadTo}
use Rattle.image.proofs.numbers_in.Given as goal

abbrev pub invariant-loop-k : goal.invariant-loop-k
invariant-loop-k l = ReadTo widths l.b l.at l.k l.numbers
