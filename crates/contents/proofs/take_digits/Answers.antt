-- `contents::take_digits` meets its contract. The loop's invariant: the bytes passed are two digits each, and copied.
use mathlib.Core.Path.{refl, sym}
use mathlib.Core.Bool.{true≢false}
use Prim.Native.Nat.{◌-◌}
use borrow.Author.Rules.{rules}
use borrow.Author.Tests.{ne_eqb}
use Rattle.digits.specs.Digits.{is_packed}
use Rattle.digits.proofs.Lists.{passed_none, filled_none, filled_more}
use Rattle.contents.proofs.Packed.{copied_all, high_fails, low_fails, byte_passes, whole_even, whole_odd}
use Rattle.contents.proofs.take_digits.Goals as goal

pub returns-then-b-count : goal.returns-then-b-count
unfolding is_packed
returns-then-b-count c = (rw (ne_eqb _ _ c.if-b-count.true), λ e. absurd (true≢false (sym e)))

pub loop-i-init : goal.loop-i-init
loop-i-init c = (passed_none, filled_none _ _)

pub shape_of-out-then-x-gt159 : goal.shape_of-out-then-x-gt159
shape_of-out-then-x-gt159 c =
    c.loop-i.invariant.1.len

pub returns-then-x-gt159 : goal.returns-then-x-gt159
returns-then-x-gt159 c =
    (sym (high_fails c.args.n c.args.b.now c.loop-i.i (search rules) c.if-x-gt159.true), λ e. absurd (true≢false (sym e)))

pub shape_of-out-then-x-gt9 : goal.shape_of-out-then-x-gt9
shape_of-out-then-x-gt9 c =
    c.loop-i.invariant.1.len

pub returns-then-x-gt9 : goal.returns-then-x-gt9
returns-then-x-gt9 c =
    (sym (low_fails c.args.n c.args.b.now c.loop-i.i (search rules) c.if-x-gt9.true), λ e. absurd (true≢false (sym e)))

pub loop-i-preserved : goal.loop-i-preserved
loop-i-preserved c = (
  byte_passes c.args.n c.args.b.now c.loop-i.i c.loop-i.invariant.0 (search rules) c.if-x-gt159.false c.if-x-gt9.false,
  filled_more c.loop-i.invariant.1 (search rules) refl,
)

pub shape_of-out-then-count-eq0 : goal.shape_of-out-then-count-eq0
shape_of-out-then-count-eq0 c =
    c.loop-i.invariant.1.len

pub returns-then-count-eq0 : goal.returns-then-count-eq0
returns-then-count-eq0 c = (
  sym (whole_even c.args.n c.args.b.now c.loop-i.i c.loop-i.invariant.0 (search rules) (search rules) c.if-count-eq0.true),
  λ e. copied_all c.loop-i.invariant.1 (search rules) c.requires,
)

pub shape_of-out : goal.shape_of-out
shape_of-out c =
    c.loop-i.invariant.1.len

pub returns : goal.returns
returns c = (
  sym (whole_odd c.args.n c.args.b.now c.loop-i.i c.loop-i.invariant.0 (search rules) (search rules) c.if-count-eq0.false),
  λ e. copied_all c.loop-i.invariant.1 (search rules) c.requires,
)
