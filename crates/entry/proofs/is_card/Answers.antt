-- `is_card` meets its contract.
use mathlib.Core.Path.{◌≡◌, sym, ◌∙◌}
use native.Mathlib.Omega.{arith}
use lib.Seq.{length-take-le}
use Rattle.digits.proofs.Lists.{tail_part}
use Rattle.digits.specs.Digits.{bytes_for}
use Rattle.entry.specs.Form.{card_in_form}
use Rattle.numbers.proofs.Bounds.{within-bounds}
use Rattle.entry.proofs.is_card.Goals as goal

pub returns-then-not-is_within : goal.returns-then-not-is_within
unfolding card_in_form
returns-then-not-is_within c = rw (rw c.from.ensures at (sym c.is_within.ensures ∙ c.if-not-is_within.true))

pub slice_bounds-is_packed-end : goal.slice_bounds-is_packed-end
slice_bounds-is_packed-end c =
    let w = within-bounds 13 _ 19 (sym c.is_within.ensures ∙ c.if-not-is_within.false) in
    sym (length-take-le _ _ (omega arith))

pub slice_bounds-is_zero-count : goal.slice_bounds-is_zero-count
slice_bounds-is_zero-count c =
    let w = within-bounds 13 _ 19 (sym c.is_within.ensures ∙ c.if-not-is_within.false) in
    omega arith

pub slice_bounds-is_zero-start : goal.slice_bounds-is_zero-start
slice_bounds-is_zero-start c =
    let w = within-bounds 13 _ 19 (sym c.is_within.ensures ∙ c.if-not-is_within.false) in
    omega arith

pub returns : goal.returns
unfolding card_in_form
returns c =
    let size : c.div_ceil-size.result ≡ bytes_for c.args.n = omega arith in
    rw (
      rw c.from.ensures at (sym c.is_within.ensures ∙ c.if-not-is_within.false),
      c.is_packed.ensures,
      c.is_zero.ensures,
      tail_part,
      size,
      c.from-count.ensures,
    )
