-- `call_answer::power_returned` meets its contract.
use mathlib.Core.Path.{refl}
use mathlib.Core.List.{[]}
use native.Mathlib.Omega.{arith}
use Rattle.rules.proofs.Judged.{refuses_by}
use Rattle.call_definitions.specs.Answer.{power_returned}
use Rattle.call_definitions.proofs.Quietly.{roomy}
use Rattle.call_answer.proofs.Steps.{power_changes}
use Rattle.call_answer.proofs.power_returned.Goals as goal

pub returns-in-Err : goal.returns-in-Err
unfolding power_returned
returns-in-Err c = rw (c.refused.ensures, c.into.ensures) (refuses_by _ _ _ _ _ c.in-Err.ensures)

pub returns : goal.returns
returns c =
    power_changes _ _ c.in_default.ensures _ _ _ _
    (c.unanswered.ensures (roomy _ _ [] _ c.in_default.ensures refl 0 (omega arith)).counts) c.signed.ensures c.quiet.ensures
