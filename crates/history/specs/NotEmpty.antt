-- That demand 3 is not empty: a terminal in order is never refused by rules 1 or 2.
use Rattle.std.specs.Prelude.{◌≡◌, List, [], ◌∷◌, true, ℕ, ◌*◌, ◌≤◌, length}
use Rattle.message.specs.Message.{largest}
use Rattle.entry.specs.Entry.{entry_size}
use Rattle.state.specs.declared.Settings.{Settings}
use Rattle.state_rules.specs.StateRules.{settings_in_form}
use Rattle.history.specs.History.{refused}
use Rattle.history.specs.Demand.{Invocation, runs, begun, Each}

-- each message buffer lent has room
abbrev pub BuffersSuffice : List Invocation → Type 0
BuffersSuffice [] = Unit {0}
BuffersSuffice (t ∷ ts) = (largest ≤ length t.message) × BuffersSuffice ts

-- from a fresh terminal with settings in range and buffers large enough, no call of any list is refused by 1 or 2
abbrev pub NeverRefusedByRules12 : Type 0
NeverRefusedByRules12 = (x : Settings) (j : List ℕ) (ts : List Invocation) → settings_in_form x ≡ true → entry_size * x.limit ≤ length j → BuffersSuffice ts
    → Each (λ c h. (c.given ≡ refused 1 → ⊥) × (c.given ≡ refused 2 → ⊥)) (runs ts (begun x j)).history
