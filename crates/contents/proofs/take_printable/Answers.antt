-- `contents::take_printable` meets its contract. The loop's invariant: the bytes passed are printable, and copied.
use mathlib.Core.Path.{◌≡◌, refl, sym}
use mathlib.Core.Bool.{and-false, true≢false}
use Prim.Native.Nat.{◌-◌}
use borrow.Author.Rules.{rules}
use borrow.Author.Tests.{le-leb, lt-leb}
use lib.ListN.{length}
use Rattle.digits.proofs.Lists.{all_fails, passed_none, passed-more, filled_none, filled_more}
use Rattle.field.specs.Contents.{all_printable}
use Rattle.contents.proofs.Packed.{copied_all}
use Rattle.contents.proofs.take_printable.Goals as goal

pub loop-i-init : goal.loop-i-init
loop-i-init c = (passed_none, filled_none _ _)

pub shape_of-out-then-x-lt32 : goal.shape_of-out-then-x-lt32
shape_of-out-then-x-lt32 c =
    c.loop-i.invariant.1.len

pub returns-then-x-lt32 : goal.returns-then-x-lt32
unfolding all_printable
returns-then-x-lt32 c =
    (sym (all_fails _ (length c.args.b.now) c.loop-i.i (search rules) (rw (lt-leb _ _ c.if-x-lt32.true))), λ e. absurd (true≢false (sym e)))

pub shape_of-out-then-x-gt126 : goal.shape_of-out-then-x-gt126
shape_of-out-then-x-gt126 c =
    c.loop-i.invariant.1.len

pub returns-then-x-gt126 : goal.returns-then-x-gt126
unfolding all_printable
returns-then-x-gt126 c =
    (sym (all_fails _ (length c.args.b.now) c.loop-i.i (search rules) (rw (lt-leb _ _ c.if-x-gt126.true, and-false))), λ e. absurd (true≢false (sym e)))

pub loop-i-preserved : goal.loop-i-preserved
loop-i-preserved c =
    let p = passed-more c.loop-i.invariant.0 (rw (le-leb _ _ c.if-x-lt32.false, le-leb _ _ c.if-x-gt126.false)) in
    (p, filled_more c.loop-i.invariant.1 (search rules) refl)

pub shape_of-out : goal.shape_of-out
shape_of-out c = c.loop-i.invariant.1.len

pub returns : goal.returns
unfolding all_printable
returns c =
    let e : c.loop-i.i ≡ length c.args.b.now = search rules in
    (sym (rw e at c.loop-i.invariant.0.holds), λ e. copied_all c.loop-i.invariant.1 (search rules) c.requires)
