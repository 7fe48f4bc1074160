-- Traces, from the history: each new message takes the next trace; one that an approved request of the batch has is skipped.
use Rattle.std.specs.Prelude.{◌≡◌, List, [], ◌∷◌, Bool, true, false, ◌||◌, ℕ, zero, suc, ◌<◌, eqb}
use Rattle.state.specs.declared.Settings.{Settings}
use Rattle.call_definitions.specs.Shapes.{SettingsShaped}
use Rattle.history.specs.Words.{message_in}
use Rattle.history.specs.History.{sent}
use Rattle.history.specs.Demand.{Invocation, runs, begun, InvocationsShaped, Each}
use Rattle.history_theorems.specs.Standing.{trace_in, is_new, next, standing}
use Rattle.history_theorems.specs.Approvals.{Approval, approvals}

-- an approved request of the batch has this trace
abbrev pub is_used : ℕ → List Approval → Bool
is_used t [] = false
is_used t (x ∷ xs) = eqb (trace_in x.request) t || is_used t xs

-- the number k after x
abbrev pub after : ℕ → ℕ → ℕ
after zero x = x
after (suc k) x = next (after k x)

-- t is the first number after the last one taken that is not used
pub record IsTaken (xs : List Approval) (last t : ℕ) : Type 0 where
  pub skipped : ℕ
  pub reached : t ≡ after (suc skipped) last
  pub used : (k : ℕ) → k < skipped → is_used (after (suc k) last) xs ≡ true
  pub free : is_used t xs ≡ false

-- every new message of every list of calls from a fresh terminal of any settings
abbrev pub TracesTaken : Type 0
TracesTaken = (x : Settings) (j : List ℕ) (ts : List Invocation) → SettingsShaped x → InvocationsShaped ts
    → Each (λ c h. (b : List ℕ) → c.given ≡ sent b → is_new (message_in b) ≡ true → IsTaken (approvals h) (standing h).taken (trace_in (message_in b)))
    (runs ts (begun x j)).history
