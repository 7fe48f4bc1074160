-- `image::numbers_in` meets its contract: the rows passed are read.
use Rattle.std.proofs.Common.{get_or, refl, arith, rules}
use Rattle.image_definitions.specs.Layout.{widths}
use Rattle.image_definitions.proofs.Laid.{read_none, read_more, read_done, placed-within}
use Rattle.image_definitions.proofs.Bounds.{width_small}
use Rattle.image.proofs.Rows.{row-short, row-number}
use Rattle.image.proofs.numbers_in.Goals as goal

pub loop-k-init : goal.loop-k-init
unfolding widths
loop-k-init c = read_none _ _ _ refl

pub overflow_add-end : goal.overflow_add-end
unfolding widths
overflow_add-end c = omega (arith, placed-within c.loop-k.invariant.place (search rules))

pub slice_bounds-number_in-end : goal.slice_bounds-number_in-end
unfolding widths
slice_bounds-number_in-end c = omega (arith, placed-within c.loop-k.invariant.place (search rules))

pub number_in-requires : goal.number_in-requires
unfolding widths
number_in-requires c = row-short c.loop-k.at _ _ (width_small c.loop-k.k)

pub loop-k-preserved : goal.loop-k-preserved
unfolding widths
loop-k-preserved c =
    let w = get_or widths c.loop-k.k 0 in
    let h = placed-within c.loop-k.invariant.place (search rules) in
    rw (c.number_in.ensures, row-number c.loop-k.at w c.args.b.now (omega (arith, h))) (read_more c.loop-k.invariant (search rules))

pub returns : goal.returns
unfolding widths
returns c = read_done c.loop-k.invariant (search rules)
