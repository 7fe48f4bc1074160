-- `elements::has_tag` meets its contract.
use mathlib.Core.Path.{sym, ◌∙◌}
use Prim.Native.Nat.{◌-◌}
use native.Mathlib.Omega.{arith}
use Rattle.elements.proofs.Elements.{at_place, step_fits, step_tag, sought_first, sought_done, sought_stop, sought_here, sought_more}
use Rattle.elements.proofs.has_tag.Goals as goal

pub loop-at-init : goal.loop-at-init
loop-at-init c = sought_first _ _

pub returns-then-size-eq0 : goal.returns-then-size-eq0
returns-then-size-eq0 c =
    let w = at_place c.args.b.now c.loop-at-test.true in
    sym (sought_stop c.loop-at.invariant w c.element_size-size.ensures c.if-size-eq0.true)

pub slice_bounds-same-end : goal.slice_bounds-same-end
slice_bounds-same-end c =
    let w = at_place c.args.b.now c.loop-at-test.true in
    step_tag w c.element_size-size.ensures c.if-size-eq0.false c.tag_size-end.ensures

pub returns-then-same : goal.returns-then-same
returns-then-same c =
    let w = at_place c.args.b.now c.loop-at-test.true in
    sym (sought_here c.loop-at.invariant w
    c.element_size-size.ensures c.if-size-eq0.false
    c.tag_size-end.ensures (sym c.same.ensures ∙ c.if-same.true))

pub overflow_add-at : goal.overflow_add-at
overflow_add-at c =
    let w = at_place c.args.b.now c.loop-at-test.true in
    omega (
      arith,
      step_fits w c.element_size-size.ensures c.if-size-eq0.false,
    )

pub loop-at-preserved : goal.loop-at-preserved
loop-at-preserved c =
    let w = at_place c.args.b.now c.loop-at-test.true in
    sought_more c.loop-at.invariant w c.element_size-size.ensures c.if-size-eq0.false
    c.tag_size-end.ensures (sym c.same.ensures ∙ c.if-same.false)

pub returns : goal.returns
returns c = sym (sought_done c.loop-at.invariant c.loop-at-test.false)
