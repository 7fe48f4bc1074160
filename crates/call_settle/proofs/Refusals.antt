-- Laws of the rules of settle.
use mathlib.Core.Path.{◌≡◌, refl}
use mathlib.Core.List.{[], ◌∷◌}
use Rattle.state.specs.declared.State.{State}
use Rattle.state.specs.State.{is_pending, is_uploading}
use Rattle.state.specs.Calls.{Lent}
use Rattle.checks.specs.Checks.{rule, first_broken}
use Rattle.checks.proofs.Choices.{first-none}
use Rattle.rules.specs.Rules.{idle_rules}
use Rattle.rules.proofs.InOrder.{Fit}
use Rattle.rules.proofs.Idle.{idle_fit}
use Rattle.call_definitions.specs.Settle.{settle_rules}

-- what rules 1 and 2 give, where no rule refuses
pub fits : (s : State) (lent : Lent) → first_broken (settle_rules s lent) ≡ 0 → Fit s lent
fits s lent e = idle_fit s lent (first-none (idle_rules s lent) (rule 12 (is_pending s) ∷ rule 13 (is_uploading s) ∷ []) refl e)
