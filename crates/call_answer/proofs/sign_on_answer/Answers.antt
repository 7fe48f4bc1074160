-- `call_answer::sign_on_answer` meets its contract.
use Rattle.call_answer.proofs.Steps.{sign_on_quiet, sign_on-refused}
use Rattle.call_answer.proofs.sign_on_answer.Goals as goal

pub returns-then-is_sign_on_answer : goal.returns-then-is_sign_on_answer
returns-then-is_sign_on_answer c =
    sign_on_quiet _ _ _ _ c.is_sign_on_answer.ensures _ c.if-is_sign_on_answer.true c.on_sign_on.ensures c.quiet.ensures

pub returns : goal.returns
returns c =
    sign_on-refused _ _ _ _ c.is_sign_on_answer.ensures c.if-is_sign_on_answer.false (rw c.into.ensures at c.refused.ensures)
