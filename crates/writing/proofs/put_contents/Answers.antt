-- `writing::put_contents` meets its contract.
use Rattle.std.proofs.Common.{rules, ◌≡◌, Err, refl, ap, sym, ◌∙◌}
use Rattle.checks.specs.Refusals.{number_of, refused_by}
use Rattle.checks.proofs.Refusals.{number_positive}
use Rattle.field_writing.proofs.Parts.{placing_refused}
use Rattle.writing.specs.Writing.{message_fault}
use Rattle.writing.proofs.Putting.{contents-late, contents_stop}
use Rattle.writing.proofs.put_contents.Goals as goal

pub returns-then-not-listed_indicator : goal.returns-then-not-listed_indicator
unfolding message_fault
returns-then-not-listed_indicator c =
    let i = sym c.listed_indicator.ensures ∙ c.if-not-listed_indicator.true in
    placing_refused (rw i)

pub returns-then-not-all_listed : goal.returns-then-not-all_listed
unfolding message_fault
returns-then-not-all_listed c =
    let i = sym c.listed_indicator.ensures ∙ c.if-not-listed_indicator.false in
    let l = sym c.all_listed.ensures ∙ c.if-not-all_listed.true in
    placing_refused (rw (i, l))

pub returns-in_err-n : goal.returns-in_err-n
returns-in_err-n c =
    let i = sym c.listed_indicator.ensures ∙ c.if-not-listed_indicator.false in
    let l = sym c.all_listed.ensures ∙ c.if-not-all_listed.false in
    let e = c.in_err-n.field-0.0 in
    let q : c.from_residual.result ≡ Err e = search rules in
    rw q (contents_stop c.args.m.now i l c.put_fields.ensures e c.in_err-n.was)

pub returns-in_err-judge : goal.returns-in_err-judge
returns-in_err-judge c =
    let i = sym c.listed_indicator.ensures ∙ c.if-not-listed_indicator.false in
    let l = sym c.all_listed.ensures ∙ c.if-not-all_listed.false in
    let e = c.in_err-judge.field-0.0 in
    let q : c.from_residual-in_err-judge.result ≡ Err e = search rules in
    let w : refused_by c.judge.result ≡ number_of e = ap refused_by c.in_err-judge.was in
    rw q (contents-late c.args.m.now i l c.put_fields.ensures _ c.in_ok-n.was c.judge.ensures (sym w) (λ z. absurd (number_positive e (sym w ∙ z))))

pub returns : goal.returns
returns c =
    let i = sym c.listed_indicator.ensures ∙ c.if-not-listed_indicator.false in
    let l = sym c.all_listed.ensures ∙ c.if-not-all_listed.false in
    contents-late c.args.m.now i l c.put_fields.ensures _ c.in_ok-n.was c.judge.ensures (sym (ap refused_by c.in_ok-judge.was)) (λ z. refl)
