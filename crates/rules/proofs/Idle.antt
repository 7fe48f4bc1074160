-- Rules 1, 2, 10 and 11, one after another.
use mathlib.Core.Path.{◌≡◌, refl}
use mathlib.Core.List.{List, [], ◌∷◌}
use mathlib.Core.Bool.{not}
use Rattle.checks.specs.Checks.{Rule, rule, first_broken}
use Rattle.checks.proofs.Choices.{first-none}
use Rattle.state.specs.State.{is_waiting}
use Rattle.state.specs.declared.State.{State}
use Rattle.state.specs.Calls.{Lent}
use Rattle.rules.specs.Rules.{rules12, idle_rules}
use Rattle.rules.proofs.InOrder.{Fit, fit}

-- the rules after 1 and 2
abbrev own : State → List Rule
own s = rule 10 (not s.signed_on) ∷ rule 11 (is_waiting s) ∷ []

-- what rules 1 and 2 give where none of these is broken
pub idle_fit : (s : State) (lent : Lent) → first_broken (idle_rules s lent) ≡ 0 → Fit s lent
idle_fit s lent z = fit s lent (first-none (rules12 s lent) (own s) refl z)
