-- `field_writing::put_held` meets its contract.
use Rattle.std.proofs.Common.{rules, ◌≡◌, Err, refl, ap, sym, ◌∙◌}
use borrow.Author.Tests.{lt-ltb, le-ltb}
use native.Mathlib.Omega.{arith}
use lib.Seq.{length-take-le}
use Rattle.checks.specs.Refusals.{number_of, refused_by}
use Rattle.checks.proofs.Refusals.{number_positive}
use Rattle.field.proofs.Contents.{size-le}
use Rattle.span.proofs.Held.{skip_le}
use Rattle.field_writing.specs.Placing.{held_fault}
use Rattle.field_writing.proofs.Parts.{placing_refused, placed}
use Rattle.field_writing.proofs.put_held.Goals as goal

pub overflow_add-end : goal.overflow_add-end
overflow_add-end c =
    omega (
      arith,
      size-le c.args.f.class c.args.n,
      skip_le c.args.f.prefix,
      c.size_of-size.ensures,
      c.skip_of-skip.ensures,
    )

pub returns-then-bs-size : goal.returns-then-bs-size
unfolding held_fault
returns-then-bs-size c = placing_refused (rw (← c.size_of-size.ensures, lt-ltb _ _ c.if-bs-size.true))

pub returns-then-out-end : goal.returns-then-out-end
unfolding held_fault
returns-then-out-end c =
    placing_refused (rw (
      ← c.size_of-size.ensures,
      ← c.skip_of-skip.ensures,
      le-ltb _ _ c.if-bs-size.false,
      lt-ltb _ _ c.if-out-end.true,
    ))

pub slice_bounds-put_count-end-2 : goal.slice_bounds-put_count-end-2
slice_bounds-put_count-end-2 c = sym (length-take-le _ _ (omega arith))

pub put_count-requires : goal.put_count-requires
put_count-requires c = length-take-le _ _ (omega arith) ∙ c.skip_of-skip.ensures

pub slice_bounds-take-end : goal.slice_bounds-take-end
slice_bounds-take-end c = sym (length-take-le _ _ c.if-bs-size.false)

pub returns-in_err-take : goal.returns-in_err-take
returns-in_err-take c =
    let e = c.in_err-take.field-0.0 in
    let q : c.from_residual.result ≡ Err e = search rules in
    let w : refused_by c.take.result ≡ number_of e = ap refused_by c.in_err-take.was in
    rw q (placed c.put_count.new.out c.args.out.now c.skip_of-skip.result c.size_of-size.result c.put_count.auto.out c.if-out-end.false c.args.f c.args.n
    c.args.bs.now (sym w) (λ z. absurd (number_positive e (sym w ∙ z)))
    c.skip_of-skip.ensures c.size_of-size.ensures c.if-bs-size.false c.put_count.ensures c.take.ensures)

pub returns : goal.returns
returns c =
    placed c.put_count.new.out c.args.out.now c.skip_of-skip.result c.size_of-size.result c.put_count.auto.out c.if-out-end.false c.args.f c.args.n
    c.args.bs.now (sym (ap refused_by c.in_ok-take.was)) (λ z. refl)
    c.skip_of-skip.ensures c.size_of-size.ensures c.if-bs-size.false c.put_count.ensures c.take.ensures
