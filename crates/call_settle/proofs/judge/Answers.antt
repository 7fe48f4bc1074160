-- `call_settle::judge` meets its contract.
use Rattle.rules.specs.Rules.{idle_rules}
use Rattle.rules.proofs.Judged.{stops}
use Rattle.call_settle.proofs.judge.Goals as goal

pub returns-in_err-judge_idle : goal.returns-in_err-judge_idle
returns-in_err-judge_idle c = stops (idle_rules _ _) _ _ _ c.from_residual.ensures.1 c.in_err-judge_idle.ensures
