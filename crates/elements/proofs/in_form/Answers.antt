-- `elements::in_form` meets its contract.
use mathlib.Core.Path.{sym, ◌∙◌}
use Prim.Native.Nat.{◌-◌}
use native.Mathlib.Omega.{arith}
use Rattle.elements.proofs.Elements.{at_place, step_fits, step_tag, walked_first, walked_done, walked_stop, walked_twice, walked_more}
use Rattle.elements.proofs.in_form.Goals as goal

pub loop-at-init : goal.loop-at-init
loop-at-init c = walked_first _

pub returns-then-size-eq0 : goal.returns-then-size-eq0
returns-then-size-eq0 c =
    let w = at_place c.args.b.now c.loop-at-test.true in
    sym (walked_stop c.loop-at.invariant w c.element_size-size.ensures
    c.loop-at-test.true c.if-size-eq0.true)

pub slice_bounds-has_tag-end : goal.slice_bounds-has_tag-end
slice_bounds-has_tag-end c =
    let w = at_place c.args.b.now c.loop-at-test.true in
    step_tag w c.element_size-size.ensures c.if-size-eq0.false c.tag_size-end.ensures

pub slice_bounds-has_tag-count : goal.slice_bounds-has_tag-count
slice_bounds-has_tag-count c =
    let w = at_place c.args.b.now c.loop-at-test.true in
    omega (arith, step_fits w c.element_size-size.ensures c.if-size-eq0.false)

pub slice_bounds-has_tag-start : goal.slice_bounds-has_tag-start
slice_bounds-has_tag-start c =
    let w = at_place c.args.b.now c.loop-at-test.true in
    omega (arith, step_fits w c.element_size-size.ensures c.if-size-eq0.false)

pub returns-then-has_tag : goal.returns-then-has_tag
returns-then-has_tag c =
    let w = at_place c.args.b.now c.loop-at-test.true in
    sym (walked_twice c.loop-at.invariant w
    c.element_size-size.ensures c.if-size-eq0.false
    c.tag_size-end.ensures (sym c.has_tag.ensures ∙ c.if-has_tag.true))

pub overflow_add-at : goal.overflow_add-at
overflow_add-at c =
    let w = at_place c.args.b.now c.loop-at-test.true in
    omega (
      arith,
      step_fits w c.element_size-size.ensures
          c.if-size-eq0.false,
    )

pub loop-at-preserved : goal.loop-at-preserved
loop-at-preserved c =
    let w = at_place c.args.b.now c.loop-at-test.true in
    walked_more c.loop-at.invariant w c.element_size-size.ensures c.if-size-eq0.false
    c.tag_size-end.ensures (sym c.has_tag.ensures ∙ c.if-has_tag.false)

pub returns : goal.returns
returns c = sym (walked_done c.loop-at.invariant c.loop-at-test.false)
