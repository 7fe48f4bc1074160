-- Laws of the rules of sign on.
use mathlib.Core.Path.{◌≡◌, refl}
use mathlib.Core.List.{[], ◌∷◌}
use Rattle.state.specs.declared.State.{State}
use Rattle.state.specs.State.{is_waiting}
use Rattle.state.specs.Calls.{Lent}
use Rattle.checks.specs.Checks.{rule, first_broken}
use Rattle.checks.proofs.Choices.{first-none}
use Rattle.rules.specs.Rules.{rules12}
use Rattle.rules.proofs.InOrder.{Fit, fit}
use Rattle.call_definitions.specs.SignOn.{sign_on_rules}

-- what rules 1 and 2 give, where no rule refuses
pub fits : (s : State) (lent : Lent) → first_broken (sign_on_rules s lent) ≡ 0 → Fit s lent
fits s lent e = fit s lent (first-none (rules12 s lent) (rule 11 (is_waiting s) ∷ []) refl e)
