-- Document 02, request 5, from the history: each of the journal's five sums is that of the approved card requests of its kind.
use Rattle.std.specs.Prelude.{◌≡◌, List, ℕ, eqb}
use Rattle.kinds.specs.declared.sums.Sum.{Sum}
use Rattle.kinds.specs.declared.sums.Sums.{Sums}
use Rattle.journal.specs.Journal.{entries_of, batch_sums}
use Rattle.state.specs.declared.Settings.{Settings}
use Rattle.call_definitions.specs.Shapes.{SettingsShaped}
use Rattle.history.specs.Demand.{Invocation, runs, begun, InvocationsShaped}
use Rattle.history_theorems.specs.Approvals.{Approval, approvals, sum_for, answered}

-- the answered amounts of the approvals of a kind, and how many they are
pub record SumOf (kind : ℕ) (vs : List Approval) (x : Sum) : Type 0 where
  pub amount_is : x.amount ≡ sum_for (λ k. eqb k kind) answered vs
  pub count_is : x.count ≡ sum_for (λ k. eqb k kind) (λ v. 1) vs

-- 22 sale, 20 completion, 25 refund, 23 sale void, 21 completion void
pub record FiveSums (vs : List Approval) (x : Sums) : Type 0 where
  pub sales : SumOf 22 vs x.sales
  pub completions : SumOf 20 vs x.completions
  pub refunds : SumOf 25 vs x.refunds
  pub sale_voids : SumOf 23 vs x.sale_voids
  pub completion_voids : SumOf 21 vs x.completion_voids

-- after every list of calls from a fresh terminal of any settings
abbrev pub SumsByKind : Type 0
SumsByKind = (x : Settings) (j : List ℕ) (ts : List Invocation) → SettingsShaped x → InvocationsShaped ts
    → (let r = runs ts (begun x j) in FiveSums (approvals r.history) (batch_sums (entries_of r.state.entries r.journal)))
