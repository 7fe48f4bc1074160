-- Sums over the journal are those over the approvals that its entries are of.
use mathlib.Core.Path.{◌≡◌, refl, ap, ◌∙◌}
use mathlib.Core.List.{List, [], ◌∷◌}
use mathlib.Core.Bool.{Bool, cond}
use Prim.Native.Nat.{ℕ, ◌+◌}
use lib.Dec.{eqb}
use Rattle.entry.specs.declared.Entry.{Entry}
use Rattle.journal.specs.Journal.{sum_of, amount, one, sum_over, sums_of, batch_sums}
use Rattle.history_theorems.specs.Approvals.{Approval, sum_for, answered, IsEntry, AreEntries}
use Rattle.history_theorems.specs.Summing.{SumOf, FiveSums}

-- what is summed of an entry is what its approval says
abbrev Alike : (Entry → ℕ) → (Approval → ℕ) → Type 0
Alike f g = (e : Entry) (v : Approval) (later : List Approval) → IsEntry e v later → f e ≡ g v

same-part : {x y : Bool} {a b c d : ℕ} → x ≡ y → a ≡ b → c ≡ d → cond x a 0 + c ≡ cond y b 0 + d
same-part p q r = rw (p, q, r)

sum_for_lem : (t : ℕ → Bool) (p : Entry → Bool) → ((e : Entry) → p e ≡ t e.kind) → (f : Entry → ℕ) (g : Approval → ℕ) → Alike f g
    → (es : List Entry) (vs : List Approval) → AreEntries es vs → sum_of p f es ≡ sum_for t g vs
sum_for_lem t p k f g q [] [] h = refl
sum_for_lem t p k f g q [] (v ∷ vs) h = absurd h
sum_for_lem t p k f g q (e ∷ es) [] h = absurd h
sum_for_lem t p k f g q (e ∷ es) (v ∷ vs) h = same-part (k e ∙ ap t h.0.kind_is) (q e v vs h.0) (sum_for_lem t p k f g q es vs h.1)

pub amounts_for : (t : ℕ → Bool) (p : Entry → Bool) → ((e : Entry) → p e ≡ t e.kind) → (es : List Entry) (vs : List Approval) → AreEntries es vs
    → sum_of p amount es ≡ sum_for t answered vs
amounts_for t p k es vs h = sum_for_lem t p k amount answered (λ e v later i. i.amount_is) es vs h

sum_of_lem : (kind : ℕ) (es : List Entry) (vs : List Approval) → AreEntries es vs → SumOf kind vs (sum_over (λ e. eqb e.kind kind) es)
sum_of_lem kind es vs h =
    record {
      amount_is = amounts_for (λ k. eqb k kind) (λ e. eqb e.kind kind) (λ e. refl) es vs h;
      count_is = sum_for_lem (λ k. eqb k kind) (λ e. eqb e.kind kind) (λ e. refl) one (λ v. 1) (λ e v later i. refl) es vs h;
    }

pub five_sums : (es : List Entry) (vs : List Approval) → AreEntries es vs → FiveSums vs (batch_sums es)
unfolding sums_of
five_sums es vs h =
    record {
      sales = sum_of_lem 22 es vs h;
      completions = sum_of_lem 20 es vs h;
      refunds = sum_of_lem 25 es vs h;
      sale_voids = sum_of_lem 23 es vs h;
      completion_voids = sum_of_lem 21 es vs h;
    }
