-- `call_answer::answer_in` meets its contract.
use Rattle.call_answer.proofs.Steps.{answer_to_card, answer-to_sign_on, answer_unawaited, answer_changes, answer_unmatched}
use Rattle.call_answer.proofs.answer_in.Goals as goal

pub returns-then-s : goal.returns-then-s
returns-then-s c = answer_to_card _ _ _ _ _ c.if-s.true (rw c.into.ensures at c.refused.ensures)

pub returns-then-signs_on : goal.returns-then-signs_on
returns-then-signs_on c =
    answer-to_sign_on _ _ _ _ _ c.if-s.false _ c.signs_on.ensures c.if-signs_on.true c.sign_on_answer.ensures

pub returns-in_default : goal.returns-in_default
returns-in_default c =
    answer_unawaited _ _ c.args.s _ _ c.if-s.false _ c.signs_on.ensures c.if-signs_on.false
    c.in_default.not-Waiting (rw c.into-in_default.ensures at c.refused-in_default.ensures)

pub returns-then-is_answer : goal.returns-then-is_answer
returns-then-is_answer c =
    answer_changes _ _ _ _ _ c.if-s.false _ c.signs_on.ensures c.if-signs_on.false _ c.in-Waiting.is _
    (rw c.trace_sent-trace.ensures at c.is_answer.ensures) _ _ c.if-is_answer.true
    (c.answered.ensures c.requires) c.quiet.ensures

pub returns : goal.returns
returns c =
    answer_unmatched _ _ _ _ _ c.if-s.false _ c.signs_on.ensures c.if-signs_on.false _ c.in-Waiting.is _
    (rw c.trace_sent-trace.ensures at c.is_answer.ensures) c.if-is_answer.false (rw c.into-2.ensures at c.refused-2.ensures)
