-- `dump::add_lines` meets its contract.
use Rattle.std.proofs.Common.{rules, arith}
use Rattle.message.proofs.Places.{at_place, place_rest, place_of}
use Rattle.dump.proofs.Shown.{shown-none, shown-more, shown-done}
use Rattle.dump.proofs.add_lines.Goals as goal

pub loop-k-init : goal.loop-k-init
loop-k-init c = shown-none _ _ _ _ _ (search rules)

pub loop-k-preserved : goal.loop-k-preserved
loop-k-preserved c =
    shown-more c.loop-k.invariant (at_place c.table-table.ensures c.loop-k-test.true)
    (place_of c.places-places.ensures c.from-from.ensures c.loop-k-test.true c.loop-k.invariant.size) (search rules) c.add_named-end.ensures

pub shape_of-out : goal.shape_of-out
shape_of-out c = c.loop-k.invariant.len

pub returns : goal.returns
returns c = shown-done c.loop-k.invariant c.loop-k-test.false

pub slice_bounds-add_named-count : goal.slice_bounds-add_named-count
slice_bounds-add_named-count c = omega (arith, place_rest c.places-places.ensures c.from-from.ensures c.loop-k-test.true)

pub slice_bounds-add_named-start : goal.slice_bounds-add_named-start
slice_bounds-add_named-start c = omega (arith, place_rest c.places-places.ensures c.from-from.ensures c.loop-k-test.true)
