-- `rules::request_kept` meets its contract.
use Rattle.std.proofs.Common.{arith}
use Rattle.std.proofs.lemmas.Grind.{common_steps}
use Rattle.rules.specs.Rules.{request_kept}
use Rattle.rules.proofs.Tests.{none_absent}
use Rattle.rules.proofs.request_kept.Goals as goal

pub returns-then-original_unvoided : goal.returns-then-original_unvoided
unfolding request_kept
returns-then-original_unvoided c found =
    let a = none_absent _ _ c.find.ensures c.is_none.ensures in
    rw a (grind (arith, common_steps))
