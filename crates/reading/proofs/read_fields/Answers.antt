-- `reading::read_fields` meets its contract.
use Rattle.std.proofs.Common.{rules, arith, ◌≡◌, Err, refl, ap, sym, ◌∙◌}
use Rattle.reading.proofs.read_fields.Goals.{then-is_set+in_ok-t, else-is_set}
use Rattle.checks.specs.Refusals.{numbered}
use Rattle.field.proofs.Words.{row_named}
use Rattle.message.proofs.Places.{no_format, at_place}
use Rattle.reading.proofs.Fields.{place-start, counts-kept, contents-kept, read_none, place-room}
use Rattle.reading.proofs.Fields.{read_past, within, read_stop, read_next, read-long, read_done}
use Rattle.reading.proofs.read_fields.Goals as goal

pub loop-k-init : goal.loop-k-init
loop-k-init c = (rw (c.requires.no_counts, c.requires.no_contents) (read_none _ _), refl, refl)

pub slice_bounds-read_field-count-then-is_set : goal.slice_bounds-read_field-count-then-is_set
slice_bounds-read_field-count-then-is_set c =
    omega (arith, place-start c.places-places.ensures c.loop-k-test.true, c.from-to.ensures)

pub slice_bounds-read_field-start-then-is_set : goal.slice_bounds-read_field-start-then-is_set
slice_bounds-read_field-start-then-is_set c =
    omega (arith, place-start c.places-places.ensures c.loop-k-test.true, c.from-to.ensures)

pub read_field-requires : goal.read_field-requires
read_field-requires c =
    place-room c.loop-k.invariant.0 (at_place c.table-table.ensures c.loop-k-test.true)
    (c.from-to.ensures ∙ place-start c.places-places.ensures c.loop-k-test.true)

pub returns-in_err-t-clause-fields : goal.returns-in_err-t-clause-fields
returns-in_err-t-clause-fields c =
    let e = c.in_err-t.field-0.0 in
    let q : c.from_residual.result ≡ Err e = search rules in
    let named = row_named _ c.word_of-word.ensures.bytes c.table-table.ensures c.bits-bits.ensures no_format c.loop-k-test.true
    c.word_of-word.ensures.word c.is_set.ensures in
    rw q (read_stop c.loop-k.invariant.0 (at_place c.table-table.ensures c.loop-k-test.true) _ c.read_field.ensures (named ∙ c.if-is_set.true)
    (ap numbered c.in_err-t.was))

pub overflow_add-at : goal.overflow_add-at
overflow_add-at c =
    omega (arith, within c.loop-k.invariant.0 (at_place c.table-table.ensures c.loop-k-test.true) _ c.read_field.ensures (ap numbered c.in_ok-t.was))

pub overflow_add-at-then-is_set : goal.overflow_add-at-then-is_set
overflow_add-at-then-is_set c =
    omega (arith, within c.loop-k.invariant.0 (at_place c.table-table.ensures c.loop-k-test.true) _ c.read_field.ensures (ap numbered c.in_ok-t.was))

pub loop-k-preserved : goal.loop-k-preserved
loop-k-preserved c =
    let a = at_place c.table-table.ensures c.loop-k-test.true in
    let named = row_named _ c.word_of-word.ensures.bytes c.table-table.ensures c.bits-bits.ensures no_format c.loop-k-test.true
    c.word_of-word.ensures.word c.is_set.ensures in
    elim c.if-is_set.branch [
      | then-is_set+in_ok-t w ↦ rw (w.m-is, w.at-is) (
        read_next c.loop-k.invariant.0 a _ w.read_field.ensures (named ∙ w.if-is_set.true)
            (w.from-to.ensures ∙ place-start c.places-places.ensures c.loop-k-test.true) (ap numbered w.in_ok-t.was),
        c.loop-k.invariant.1,
        c.loop-k.invariant.2,
      )
      | else-is_set w ↦ rw (w.m-is, w.at-is) (read_past c.loop-k.invariant.0 a (named ∙ w.if-is_set.false), c.loop-k.invariant.1, c.loop-k.invariant.2)
    ]

pub returns-then-at-s-clause-fields : goal.returns-then-at-s-clause-fields
returns-then-at-s-clause-fields c = read-long c.loop-k.invariant.0 (search rules) c.if-at-s.true

pub returns-clause-fields : goal.returns-clause-fields
returns-clause-fields c = read_done c.loop-k.invariant.0 (search rules) c.if-at-s.false
