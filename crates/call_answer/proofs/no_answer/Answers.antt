-- `call_answer::no_answer` meets its contract.
use mathlib.Core.Path.{refl}
use mathlib.Core.List.{[]}
use native.Mathlib.Omega.{arith}
use Rattle.rules.specs.Rules.{rules12}
use Rattle.rules.proofs.Judged.{first_refuses}
use Rattle.call_definitions.specs.Answer.{no_answer}
use Rattle.call_definitions.proofs.Quietly.{roomy}
use Rattle.call_answer.proofs.Steps.{no_answer_unawaited, no_answer_changes}
use Rattle.call_answer.proofs.no_answer.Goals as goal

pub returns-in-Err : goal.returns-in-Err
unfolding no_answer
returns-in-Err c = rw (c.refused.ensures, c.into.ensures) (first_refuses (rules12 _ _) _ _ _ _ _ c.in-Err.ensures)

pub returns-then-not-is_waiting : goal.returns-then-not-is_waiting
returns-then-not-is_waiting c =
    rw (c.refused-then-not-is_waiting.ensures, c.into-then-not-is_waiting.ensures)
    (no_answer_unawaited _ _ c.in_default.ensures _ c.is_waiting.ensures c.if-not-is_waiting.true)

pub returns : goal.returns
returns c =
    no_answer_changes _ _ c.in_default.ensures _ c.is_waiting.ensures _ _ _ c.if-not-is_waiting.false
    (c.unanswered.ensures (roomy _ _ [] _ c.in_default.ensures refl 0 (omega arith)).counts) c.quiet.ensures
