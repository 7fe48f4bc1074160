-- `reading::read_field` meets its contract.
use Rattle.std.proofs.Common.{rules, arith, ◌≡◌, Err, ap, sym, ◌∙◌}
use lib.Seq.{length-take-le}
use Rattle.checks.specs.Refusals.{number_of, refused_by, numbered}
use Rattle.checks.proofs.Refusals.{number_positive}
use Rattle.reading.proofs.Field.{field-refused, field_fits, field_fault, field-copied}
use Rattle.reading.proofs.read_field.Goals as goal

pub returns-in_err-t : goal.returns-in_err-t
returns-in_err-t c =
    let e = c.in_err-t.field-0.0 in
    let q : c.from_residual.result ≡ Err e = search rules in
    rw q (field-refused _ _ _ c.frame_of.ensures (ap numbered c.in_err-t.was))

pub overflow_add-end : goal.overflow_add-end
overflow_add-end c = omega (arith, (field_fits _ _ c.frame_of.ensures (ap numbered c.in_ok-t.was)).within)

pub slice_bounds-take-end : goal.slice_bounds-take-end
slice_bounds-take-end c = omega (arith, (field_fits _ _ c.frame_of.ensures (ap numbered c.in_ok-t.was)).within)

pub slice_bounds-take-end-2 : goal.slice_bounds-take-end-2
slice_bounds-take-end-2 c = omega (arith, c.requires, (field_fits _ _ c.frame_of.ensures (ap numbered c.in_ok-t.was)).placed)

pub slice_bounds-take-end-3 : goal.slice_bounds-take-end-3
slice_bounds-take-end-3 c =
    sym (length-take-le _ _ (omega (arith, c.requires, (field_fits _ _ c.frame_of.ensures (ap numbered c.in_ok-t.was)).placed)))

pub returns-in_err-take : goal.returns-in_err-take
returns-in_err-take c =
    let e = c.in_err-take.field-0.0 in
    let q : c.from_residual-in_err-take.result ≡ Err e = search rules in
    let w : refused_by c.take.result ≡ number_of e = ap refused_by c.in_err-take.was in
    rw (q, ← w) (field_fault _ _ _ c.frame_of.ensures (ap numbered c.in_ok-t.was) c.requires c.take.ensures (λ z. number_positive e (sym w ∙ z)))

pub returns : goal.returns
returns c =
    field-copied _ _ _ c.frame_of.ensures (ap numbered c.in_ok-t.was) c.requires c.take.ensures (ap refused_by c.in_ok-take.was)
