-- Document 02, request 2: the sums that the state holds, in the history's words.
use Rattle.std.specs.Prelude.{◌≡◌, List, ℕ}
use Rattle.kinds.specs.declared.Totals.{Totals}
use Rattle.state.specs.declared.Settings.{Settings}
use Rattle.call_definitions.specs.Shapes.{SettingsShaped}
use Rattle.history.specs.History.{Request, batch_of, count, amount, approved_debit, approved_credit}
use Rattle.history.specs.Demand.{Invocation, runs, begun, InvocationsShaped}

-- both amounts and both counts of the batch's approved requests
pub record SumsOf (rs : List Request) (t : Totals) : Type 0 where
  pub debit_amount : t.debit ≡ amount approved_debit rs
  pub debit_count : t.debits ≡ count approved_debit rs
  pub credit_amount : t.credit ≡ amount approved_credit rs
  pub credit_count : t.credits ≡ count approved_credit rs

-- after every list of calls from a fresh terminal of any settings, so at any moment, the stored sums are those of the approved requests of
-- the batch in the history
abbrev pub StoredSums : Type 0
StoredSums = (x : Settings) (j : List ℕ) (ts : List Invocation) → SettingsShaped x → InvocationsShaped ts
    → (let r = runs ts (begun x j) in SumsOf (batch_of x.sendings r.history) r.state.totals)
