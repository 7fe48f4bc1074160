-- `rules::judge_idle` meets its contract.
use Rattle.rules.specs.Rules.{rules12}
use Rattle.rules.proofs.Judged.{stops}
use Rattle.rules.proofs.judge_idle.Goals as goal

pub returns-in_err-judge : goal.returns-in_err-judge
returns-in_err-judge c = stops (rules12 _ _) _ _ _ c.from_residual.ensures.1 c.in_err-judge.ensures
