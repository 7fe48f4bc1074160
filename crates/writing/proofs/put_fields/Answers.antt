-- `writing::put_fields` meets its contract: the fields passed have no fault, and those named are written.
use Rattle.std.proofs.Common.{rules, arith, ◌≡◌, length, Err, sym}
use Rattle.writing.proofs.put_fields.Goals.{then-is_set+in_ok-at, else-is_set}
use Rattle.field.proofs.Words.{row_named}
use Rattle.message.specs.Message.{rooms}
use Rattle.message.proofs.Places.{no_format, at_place, place_rest, place_of}
use Rattle.writing.proofs.Putting.{putting_none, putting_within, putting_skip, putting_stop, putting_more, putting_done}
use Rattle.writing.proofs.put_fields.Goals as goal

pub loop-k-init : goal.loop-k-init
loop-k-init c =
    let l : length c.args.m.now.contents ≡ rooms = search rules in
    putting_none _ _ _ _ l c.requires

pub slice_bounds-put_field-count : goal.slice_bounds-put_field-count
slice_bounds-put_field-count c = omega (arith, place_rest c.places-places.ensures c.from-from.ensures c.loop-k-test.true)

pub slice_bounds-put_field-start : goal.slice_bounds-put_field-start
slice_bounds-put_field-start c = omega (arith, place_rest c.places-places.ensures c.from-from.ensures c.loop-k-test.true)

pub returns-in_err-at : goal.returns-in_err-at
returns-in_err-at c =
    let e = c.in_err-at.field-0.0 in
    let q : c.from_residual.result ≡ Err e = search rules in
    let a = at_place c.table-table.ensures c.loop-k-test.true in
    let st = place_of c.places-places.ensures c.from-from.ensures c.loop-k-test.true c.loop-k.invariant.place.len in
    rw q (putting_stop c.loop-k.invariant a
    (sym (row_named _ c.word_of-word.ensures.bytes c.table-table.ensures c.bits-bits.ensures no_format c.loop-k-test.true c.word_of-word.ensures.word c.is_set.ensures))
    c.if-is_set.true st c.put_field.ensures e c.in_err-at.was)

pub overflow_add-at : goal.overflow_add-at
overflow_add-at c =
    let a = at_place c.table-table.ensures c.loop-k-test.true in
    let st = place_of c.places-places.ensures c.from-from.ensures c.loop-k-test.true c.loop-k.invariant.place.len in
    let r = putting_more c.loop-k.invariant a
    (sym (row_named _ c.word_of-word.ensures.bytes c.table-table.ensures c.bits-bits.ensures no_format c.loop-k-test.true c.word_of-word.ensures.word c.is_set.ensures))
    c.if-is_set.true st c.put_field.ensures c.in_ok-at.was c.put_field.auto.out in
    omega (arith, r.fits)

pub loop-k-preserved : goal.loop-k-preserved
loop-k-preserved c =
    let a = at_place c.table-table.ensures c.loop-k-test.true in
    let n = sym (row_named _ c.word_of-word.ensures.bytes c.table-table.ensures c.bits-bits.ensures no_format c.loop-k-test.true c.word_of-word.ensures.word c.is_set.ensures) in
    elim c.if-is_set.branch [
      | then-is_set+in_ok-at w ↦
          let st = place_of c.places-places.ensures w.from-from.ensures c.loop-k-test.true c.loop-k.invariant.place.len in
          rw (w.out-is, w.at-is) (putting_more c.loop-k.invariant a n w.if-is_set.true st w.put_field.ensures w.in_ok-at.was w.put_field.auto.out)
      | else-is_set w ↦ rw (w.out-is, w.at-is) (putting_skip c.loop-k.invariant a n w.if-is_set.false)
    ]

pub returns : goal.returns
returns c = putting_done c.loop-k.invariant (search rules)
