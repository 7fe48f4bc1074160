-- `call_answer::answer` meets its contract.
use mathlib.Core.Path.{refl}
use mathlib.Core.List.{[]}
use Rattle.approval.proofs.Approval.{answered-small}
use Rattle.rules.proofs.Judged.{refuses_by}
use Rattle.call_definitions.specs.Answer.{answer}
use Rattle.call_definitions.proofs.Quietly.{roomy}
use Rattle.call_answer.proofs.Steps.{answer-unread, answer-read}
use Rattle.call_answer.proofs.answer.Goals as goal

pub returns-in-Err : goal.returns-in-Err
unfolding answer
returns-in-Err c = rw (c.refused.ensures, c.into.ensures) (refuses_by _ _ _ _ _ c.in-Err.ensures)

pub answer_in-requires : goal.answer_in-requires
answer_in-requires c =
    roomy _ _ [] _ c.in_default.ensures refl _ (answered-small _)

pub returns : goal.returns
returns c =
    answer-read _ _ c.in_default.ensures _ _ _ _ _ _ c.read-reading.ensures c.in-Ok.is c.answer_in.ensures

pub returns-in_default-reading : goal.returns-in_default-reading
returns-in_default-reading c =
    answer-unread _ _ c.in_default.ensures _ _ _ c.read-reading.result c.read-reading.ensures (λ m z. let t = c.in_default-reading.not-Ok m z in absurd t)
    (rw (c.refused-in_default-reading.ensures, c.refusal_number.ensures))
