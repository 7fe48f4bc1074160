-- `reading::read_into` meets its contract.
use Rattle.std.proofs.Common.{rules, arith, ◌≡◌, Err, refl, ap, sym, ◌∙◌}
use borrow.Author.Tests.{lt-ltb, le-ltb}
use Rattle.digits.proofs.Copies.{copied_whole}
use Rattle.digits.proofs.Lists.{tail_part}
use Rattle.reading.specs.Reading.{read_message, bitmap_of}
use Rattle.reading.proofs.Fields.{fields-refused, fields-judged}
use Rattle.reading.proofs.read_into.Goals as goal

pub returns-then-s-lt10 : goal.returns-then-s-lt10
unfolding read_message
returns-then-s-lt10 c = rw (lt-ltb _ _ c.if-s-lt10.true)

pub returns-then-not-listed_indicator : goal.returns-then-not-listed_indicator
unfolding read_message
returns-then-not-listed_indicator c =
    let i = sym c.listed_indicator.ensures ∙ c.if-not-listed_indicator.true in
    rw (le-ltb _ _ c.if-s-lt10.false, rw c.from_be_bytes-m.ensures at i)

pub returns-then-not-all_listed : goal.returns-then-not-all_listed
unfolding read_message
returns-then-not-all_listed c =
    let i = sym c.listed_indicator.ensures ∙ c.if-not-listed_indicator.false in
    let b : c.copy.new.out ≡ bitmap_of c.args.s.now = copied_whole _ _ c.copy.ensures (search rules) in
    rw (le-ltb _ _ c.if-s-lt10.false, rw c.from_be_bytes-m.ensures at i, rw b at (sym c.all_listed.ensures ∙ c.if-not-all_listed.true))

pub returns-in_err-read_fields : goal.returns-in_err-read_fields
unfolding read_message
returns-in_err-read_fields c =
    let s = c.args.s.now in
    let e = c.in_err-read_fields.field-0.0 in
    let q : c.from_residual.result ≡ Err e = search rules in
    let i = sym c.listed_indicator.ensures ∙ c.if-not-listed_indicator.false in
    let b : c.copy.new.out ≡ bitmap_of s = copied_whole _ _ c.copy.ensures (search rules) in
    let f = rw (b, tail_part) at c.read_fields.ensures.fields in
    rw (q, le-ltb _ _ c.if-s-lt10.false, rw c.from_be_bytes-m.ensures at i, rw b at (sym c.all_listed.ensures ∙ c.if-not-all_listed.false))
    (fields-refused s c.read_fields.new.m f c.in_err-read_fields.was)

pub returns : goal.returns
unfolding read_message
returns c =
    let s = c.args.s.now in
    let i = sym c.listed_indicator.ensures ∙ c.if-not-listed_indicator.false in
    let b : c.copy.new.out ≡ bitmap_of s = copied_whole _ _ c.copy.ensures (search rules) in
    let f = rw (b, tail_part) at c.read_fields.ensures.fields in
    rw (le-ltb _ _ c.if-s-lt10.false, rw c.from_be_bytes-m.ensures at i, rw b at (sym c.all_listed.ensures ∙ c.if-not-all_listed.false))
    (fields-judged s c.read_fields.new.m f c.judge.result c.in_ok-read_fields.was (c.read_fields.ensures.indicator ∙ c.from_be_bytes-m.ensures)
    (c.read_fields.ensures.bitmap ∙ b) c.judge.ensures)
