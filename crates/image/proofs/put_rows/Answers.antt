-- `image::put_rows` meets its contract: the rows passed are written.
use Rattle.std.proofs.Common.{arith, rules}
use Rattle.image_definitions.specs.Layout.{widths}
use Rattle.image_definitions.proofs.Laid.{written_none, written-more, written-done, placed-within}
use Rattle.image.proofs.put_rows.Goals as goal

pub loop-k-init : goal.loop-k-init
unfolding widths
loop-k-init c = written_none _ _ _ c.requires

pub overflow_add-end : goal.overflow_add-end
unfolding widths
overflow_add-end c = omega (arith, placed-within c.loop-k.invariant.place (search rules))

pub slice_bounds-put_number-end : goal.slice_bounds-put_number-end
unfolding widths
slice_bounds-put_number-end c =
    omega (arith, placed-within c.loop-k.invariant.place (search rules), c.loop-k.invariant.len)

pub loop-k-preserved : goal.loop-k-preserved
unfolding widths
loop-k-preserved c = written-more c.loop-k.invariant (search rules) c.put_number.ensures

pub returns : goal.returns
unfolding widths
returns c = written-done c.loop-k.invariant (search rules)
