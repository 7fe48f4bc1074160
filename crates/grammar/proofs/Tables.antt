-- Laws of what a table holds.
use Rattle.std.proofs.Common.{◌≡◌, ℕ, ◌<◌, ◌≤◌, List, length, get_or, arith, Option, Some, None, MatchOption, HoldsAt, option_copied, Bor}
use Rattle.std.specs.Prelude.{unwrap_or}
use Rattle.std.proofs.lemmas.Grind.{common_steps}

-- the entry that `get` finds, or d past the end
pub entry_or : {X : Type 0} (xs : List X) (k : ℕ) (d : X) (r : Option (Bor X))
    → MatchOption r (length xs ≤ k) (λ x. (k < length xs) × HoldsAt (λ y. x.now ≡ y) xs k) → unwrap_or (option_copied r) d ≡ get_or xs k d
entry_or xs k d None h = grind (arith, common_steps)
entry_or xs k d (Some x) h = grind (arith, common_steps)
