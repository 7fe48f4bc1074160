-- Document 02, request 4, by itself: no entry is larger than what was asked, and a void takes back exactly what its entry holds. The journal
-- as the list of approvals (Approvals.antt) says this with all else of an entry.
use Rattle.std.specs.Prelude.{List, [], ◌∷◌, ℕ, ◌≤◌}
use Rattle.entry.specs.declared.Entry.{Entry}
use Rattle.journal.specs.Journal.{entries_of}
use Rattle.state.specs.declared.Settings.{Settings}
use Rattle.call_definitions.specs.Shapes.{SettingsShaped}
use Rattle.history.specs.Words.{amount_in}
use Rattle.history.specs.Demand.{Invocation, runs, begun, InvocationsShaped}
use Rattle.history_theorems.specs.Approvals.{Approval, approvals, Repays}

-- of each entry and its approval, with those after it
abbrev pub EachPaid : List Entry → List Approval → Type 0
EachPaid [] [] = Unit {0}
EachPaid [] (x ∷ xs) = ⊥
EachPaid (e ∷ es) [] = ⊥
EachPaid (e ∷ es) (x ∷ xs) = ((e.amount ≤ amount_in x.request) × Repays e.amount x.request xs) × EachPaid es xs

-- after every list of calls from a fresh terminal of any settings
abbrev pub EntriesPaid : Type 0
EntriesPaid = (x : Settings) (j : List ℕ) (ts : List Invocation) → SettingsShaped x → InvocationsShaped ts
    → (let r = runs ts (begun x j) in EachPaid (entries_of r.state.entries r.journal) (approvals r.history))
