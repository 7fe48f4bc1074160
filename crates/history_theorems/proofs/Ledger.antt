-- Laws of the entries of approvals: one changed where it says nothing of the approval, one voided, one more.
use Rattle.std.specs.Prelude.{Some}
use mathlib.Core.Path.{◌≡◌, refl, sym, ◌∙◌}
use mathlib.Core.List.{List, [], ◌∷◌, ◌++◌}
use mathlib.Core.Bool.{Bool, true, false, cond, not, ◌||◌, and-eq-true_iff, and-false, or-false, true≢false}
use Prim.Native.Nat.{ℕ, zero, suc, ◌+◌}
use native.Mathlib.Omega.{arith}
use lib.Dec.{eqb}
use borrow.Author.Tests.{eqb-true}
use Rattle.entry.specs.declared.Entry.{Entry}
use Rattle.journal.specs.Journal.{entry_at, first_of, has_trace, is_original, absent, distinct, changed_at, with_voided, with_mark, with_resends}
use Rattle.journal.proofs.Searches.{first_at}
use Rattle.journal.proofs.Traces.{absent_more}
use Rattle.message.specs.declared.Message.{Message}
use Rattle.history.specs.Words.{amount_in}
use Rattle.history_theorems.specs.Approvals.{Approval, voids, voided_by, Repays, IsEntry, AreEntries}

not-true : (b : Bool) → not b ≡ true → b ≡ false
not-true true e = absurd (true≢false (sym e))
not-true false e = refl

-- a change of an entry that leaves what an approval says
abbrev pub Leaves : (Entry → Entry) → Type 0
Leaves f = (e : Entry) (x : Approval) (later : List Approval) → IsEntry e x later → IsEntry (f e) x later

marked-leaves : (mark resends : ℕ) → Leaves (λ e. with_resends resends (with_mark mark e))
unfolding with_mark with_resends
marked-leaves mark resends e x later h =
    record {
      kind_is = h.kind_is;
      trace_is = h.trace_is;
      amount_is = h.amount_is;
      amount_most = h.amount_most;
      amount_whole = h.amount_whole;
      digits_are = h.digits_are;
      card_is = h.card_is;
      date_is = h.date_is;
      authorisation_is = h.authorisation_is;
      reference_is = h.reference_is;
      voided_is = h.voided_is;
      repaid_is = h.repaid_is;
    }

pub mark_leaves : (n : ℕ) → Leaves (with_mark n)
unfolding with_mark with_resends
mark_leaves n e x later h = marked-leaves n e.resends e x later h

pub resends_leave : (n : ℕ) → Leaves (with_resends n)
unfolding with_mark with_resends
resends_leave n e x later h = marked-leaves e.mark n e x later h

pub changed-entries : (f : Entry → Entry) → Leaves f → (i : ℕ) (es : List Entry) (xs : List Approval) → AreEntries es xs
    → AreEntries (changed_at i f es) xs
changed-entries f l i [] [] h = h
changed-entries f l i [] (x ∷ xs) h = h
changed-entries f l zero (e ∷ es) [] h = h
changed-entries f l zero (e ∷ es) (x ∷ xs) h = (l e x xs h.0, h.1)
changed-entries f l (suc i) (e ∷ es) [] h = h
changed-entries f l (suc i) (e ∷ es) (x ∷ xs) h = (h.0, changed-entries f l i es xs h.1)

-- entries of approvals after which one more comes
abbrev pub WithOne : Approval → List Entry → List Approval → Type 0
WithOne v [] [] = Unit {0}
WithOne v [] (x ∷ xs) = ⊥
WithOne v (e ∷ es) [] = ⊥
WithOne v (e ∷ es) (x ∷ xs) = IsEntry e x (xs ++ (v ∷ [])) × WithOne v es xs

pub one_more : (v : Approval) (n : Entry) (es : List Entry) (xs : List Approval) → WithOne v es xs → IsEntry n v []
    → AreEntries (es ++ (n ∷ [])) (xs ++ (v ∷ []))
one_more v n [] [] h k = (k, tt)
one_more v n [] (x ∷ xs) h k = absurd h
one_more v n (e ∷ es) [] h k = absurd h
one_more v n (e ∷ es) (x ∷ xs) h k = (h.0, one_more v n es xs h.1 k)

-- voided by the approvals after it, or by the one more
voided-last : (m : Message) (v : Approval) (xs : List Approval) → voided_by m (xs ++ (v ∷ [])) ≡ (voided_by m xs || voids v.request m)
voided-last m v [] = or-false (voids v.request m)
voided-last m v (x ∷ xs) = rw (voided-last m v xs) (go (voids x.request m))
  where
    go : (b : Bool) → (b || (voided_by m xs || voids v.request m)) ≡ ((b || voided_by m xs) || voids v.request m)
    go true = refl
    go false = refl

-- one approval more
repays_more : (n : ℕ) (m : Message) (v : Approval) (vs : List Approval) → Repays n m vs → (voids v.request m ≡ true → amount_in v.answer ≡ n)
    → Repays n m (vs ++ (v ∷ []))
repays_more n m v [] h k = (k, tt)
repays_more n m v (x ∷ xs) h k = (h.0, repays_more n m v xs h.1 k)

-- an approval that voids nothing of this entry
unvoided : (v : Approval) (e : Entry) (x : Approval) (xs : List Approval) → voids v.request x.request ≡ false → IsEntry e x xs
    → IsEntry e x (xs ++ (v ∷ []))
unvoided v e x xs n h =
    record {
      kind_is = h.kind_is;
      trace_is = h.trace_is;
      amount_is = h.amount_is;
      amount_most = h.amount_most;
      amount_whole = h.amount_whole;
      digits_are = h.digits_are;
      card_is = h.card_is;
      date_is = h.date_is;
      authorisation_is = h.authorisation_is;
      reference_is = h.reference_is;
      voided_is = rw (voided-last x.request v xs, n, or-false) h.voided_is;
      repaid_is = repays_more e.amount x.request v xs h.repaid_is (λ q. absurd (true≢false (sym q ∙ n)));
    }

-- one that voids it, for what it holds
now_voided : (v : Approval) (e : Entry) (x : Approval) (xs : List Approval) → voids v.request x.request ≡ true
    → e.amount ≡ amount_in v.answer → IsEntry e x xs → IsEntry (with_voided 1 e) x (xs ++ (v ∷ []))
unfolding with_voided
now_voided v e x xs n p h =
    record {
      kind_is = h.kind_is;
      trace_is = h.trace_is;
      amount_is = h.amount_is;
      amount_most = h.amount_most;
      amount_whole = h.amount_whole;
      digits_are = h.digits_are;
      card_is = h.card_is;
      date_is = h.date_is;
      authorisation_is = h.authorisation_is;
      reference_is = h.reference_is;
      voided_is = rw (voided-last x.request v xs, n) (go (voided_by x.request xs));
      repaid_is = repays_more e.amount x.request v xs h.repaid_is (λ q. sym p);
    }
  where
    go : (b : Bool) → ◌≡◌ {A = ℕ} 1 (cond (b || true) 1 0)
    go true = refl
    go false = refl

-- an approval that voids none
pub none-voided : (v : Approval) (es : List Entry) (xs : List Approval) → ((m : Message) → voids v.request m ≡ false) → AreEntries es xs
    → WithOne v es xs
none-voided v [] [] n h = tt
none-voided v [] (x ∷ xs) n h = absurd h
none-voided v (e ∷ es) [] n h = absurd h
none-voided v (e ∷ es) (x ∷ xs) n h = (unvoided v e x xs (n x.request) h.0, none-voided v es xs n h.1)

-- an original has the trace by which it was found
pub original-trace : (kind trace : ℕ) (e : Entry) → is_original kind trace e ≡ true → e.trace.0 ≡ trace
unfolding is_original has_trace
original-trace kind trace e h = eqb-true e.trace.0 trace ((and-eq-true_iff (eqb e.kind kind) (eqb e.trace.0 trace)).0 h).1

-- an approval that voids the entry of a kind and a trace
module _ (v : Approval) (kind trace : ℕ)
    (alike : (e : Entry) (x : Approval) (later : List Approval) → IsEntry e x later → voids v.request x.request ≡ is_original kind trace e) where
  -- no entry has this trace
  other_trace : (e : Entry) → has_trace trace e ≡ false → is_original kind trace e ≡ false
  unfolding is_original
  other_trace e n = rw (n, and-false)

  none_more : (es : List Entry) (xs : List Approval) → absent trace es ≡ true → AreEntries es xs → WithOne v es xs
  none_more [] [] n h = tt
  none_more [] (x ∷ xs) n h = absurd h
  none_more (e ∷ es) [] n h = absurd h
  none_more (e ∷ es) (x ∷ xs) n h =
      let k = (and-eq-true_iff (not (has_trace trace e)) (absent trace es)).0 (rw (absent_more trace e es) at n) in
      (unvoided v e x xs (alike e x xs h.0 ∙ other_trace e (not-true (has_trace trace e) k.0)) h.0, none_more es xs k.1 h.1)

  pub one-voided : (k i : ℕ) (es : List Entry) (xs : List Approval) → first_of (is_original kind trace) k es ≡ Some (k + i) → distinct es ≡ true
      → (entry_at es i).amount ≡ amount_in v.answer → AreEntries es xs → WithOne v (changed_at i (with_voided 1) es) xs
  one-voided k i [] xs f d p h = let z : ◌≡◌ {A = ℕ} 0 1 = cc in absurd (omega arith)
  one-voided k i (e ∷ es) [] f d p h = absurd h
  one-voided k zero (e ∷ es) (x ∷ xs) f d p h = go (is_original kind trace e) refl f
    where
      apart : (absent e.trace.0 es ≡ true) × (distinct es ≡ true)
      apart = (and-eq-true_iff (absent e.trace.0 es) (distinct es)).0 d

      go : (b : Bool) → is_original kind trace e ≡ b → cond b (Some k) (first_of (is_original kind trace) (suc k) es) ≡ Some (k + 0)
          → WithOne v (changed_at zero (with_voided 1) (e ∷ es)) (x ∷ xs)
      go true q f =
          (now_voided v e x xs (alike e x xs h.0 ∙ q) p h.0, none_more es xs (rw (original-trace kind trace e q) at apart.0) h.1)
      go false q f = let z = (first_at (is_original kind trace) (suc k) es (k + 0) f).from in absurd (omega arith)
  one-voided k (suc i) (e ∷ es) (x ∷ xs) f d p h = go (one-voided (suc k) i es xs) (is_original kind trace e) refl f
    where
      apart : (absent e.trace.0 es ≡ true) × (distinct es ≡ true)
      apart = (and-eq-true_iff (absent e.trace.0 es) (distinct es)).0 d

      go : (first_of (is_original kind trace) (suc k) es ≡ Some (suc k + i) → distinct es ≡ true → (entry_at es i).amount ≡ amount_in v.answer → AreEntries es xs
          → WithOne v (changed_at i (with_voided 1) es) xs)
          → (b : Bool) → is_original kind trace e ≡ b → cond b (Some k) (first_of (is_original kind trace) (suc k) es) ≡ Some (k + suc i)
          → WithOne v (changed_at (suc i) (with_voided 1) (e ∷ es)) (x ∷ xs)
      go ih true q f = let z : k ≡ k + suc i = cc in absurd (omega arith)
      go ih false q f =
          let z : k + suc i ≡ suc k + i = omega arith in
          (unvoided v e x xs (alike e x xs h.0 ∙ q) h.0, ih (rw z at f) apart.1 p h.1)
