-- `image::put_rows` meets its contract: the rows passed are written.
use Rattle.image_definitions.specs.Layout.{widths}
use Rattle.image_definitions.proofs.Laid.{WrittenTo}
use Rattle.image.proofs.put_rows.Given as goal

abbrev pub invariant-loop-k : goal.invariant-loop-k
invariant-loop-k l = WrittenTo widths l.values l.at l.k l.out
