-- Laws of a journal outside the upload whose entries keep rule 2: one is voided, one is written after the last.
use Rattle.std.specs.Prelude.{Some, None, Option}
use mathlib.Core.Path.{◌≡◌, refl, ◌∙◌}
use mathlib.Core.List.{List, [], ◌∷◌, ◌++◌}
use mathlib.Core.Bool.{Bool, true, false, cond, ◌||◌, and-eq-true_iff, or-true}
use Prim.Native.Nat.{ℕ, ◌-◌, ◌≤◌}
use native.Mathlib.Omega.{arith}
use lib.Dec.{eqb}
use lib.ListN.{length}
use borrow.Author.Tests.{le-leb, eqb-true, ltb-false}
use Rattle.numbers.specs.Limits.{largest_total}
use Rattle.kinds.specs.Kinds.{side_of, takes_original, original_kind, is_voidable}
use Rattle.kinds.specs.declared.Side.{Side}
use Rattle.kinds.specs.declared.Side.TheVariants.{Debit, Credit, Neither}
use Rattle.entry.specs.Form.{in_form, keeps_voided, keeps_unmarked, keeps_resends, keeps_silent, due_entry}
use Rattle.entry.specs.declared.Entry.{Entry}
use Rattle.journal.specs.Journal.{entries_of, entry_at, every, first_of, has_trace, is_original, totals_of, absent, distinct, set_byte, with_voided, changed_at}
use Rattle.kinds.specs.declared.Totals.{Totals}
use Rattle.journal.specs.Sums.{with_entry}
use Rattle.journal.proofs.Entries.{set-voided, length-set_byte}
use Rattle.journal.proofs.Marks.{voided-form}
use Rattle.journal.proofs.Searches.{first_at, every-at, every-after, every-changed, every-last}
use Rattle.journal.proofs.Sums.{voided-totals, totals-changed, totals-last}
use Rattle.kinds.proofs.Booked.{booked-debit, booked-credit, booked_neither}
use Rattle.journal.proofs.Traces.{voided-trace, absent-changed, distinct-changed, distinct-last}
use Rattle.state.specs.declared.Request.{Request}
use Rattle.state_rules.specs.StateRules.{past, past_on}
use Rattle.effect_definitions.specs.JournalEffects.{voided_at, original_voided}

-- what rule 2 says of entries outside the upload, resent at most l times
pub record Plain (l : ℕ) (es : List Entry) : Type 0 where
  pub form : every (λ i e. in_form e) 0 es ≡ true
  pub voided : every (λ i e. keeps_voided e) 0 es ≡ true
  pub unmarked : every (λ i e. keeps_unmarked due_entry false e) 0 es ≡ true
  pub resends : every (λ i e. keeps_resends l e) 0 es ≡ true
  pub silent : every (λ i e. keeps_silent l false e) 0 es ≡ true
  pub apart : distinct es ≡ true

-- an entry with another voided flag
module _ (x : ℕ) (e : Entry) where
  voided_voidable : is_voidable e.kind ≡ true → keeps_voided (with_voided x e) ≡ true
  unfolding with_voided keeps_voided
  voided_voidable h = rw h (or-true (eqb x 0))

  voided-unmarked : keeps_unmarked due_entry false (with_voided x e) ≡ keeps_unmarked due_entry false e
  unfolding with_voided keeps_unmarked
  voided-unmarked = refl

  voided-resends : (l : ℕ) → keeps_resends l (with_voided x e) ≡ keeps_resends l e
  unfolding with_voided keeps_resends
  voided-resends l = refl

  voided-silent : (l : ℕ) → keeps_silent l false (with_voided x e) ≡ keeps_silent l false e
  unfolding with_voided keeps_silent
  voided-silent l = refl

-- the kind that a void is for is a sale or a completion
original_voidable : (k : ℕ) → is_voidable (original_kind k) ≡ true
unfolding is_voidable original_kind
original_voidable k = go (eqb k 23)
  where
    go : (b : Bool) → (eqb (cond b 22 20) 20 || eqb (cond b 22 20) 22) ≡ true
    go true = refl
    go false = refl

original_kind_lem : (k x : ℕ) (e : Entry) → is_original k x e ≡ true → e.kind ≡ k
unfolding is_original
original_kind_lem k x e h = eqb-true e.kind k ((and-eq-true_iff (eqb e.kind k) (has_trace x e)).0 h).0

plain-voided : (l i : ℕ) (es : List Entry) → Plain l es → is_voidable (entry_at es i).kind ≡ true
    → Plain l (changed_at i (with_voided 1) es)
plain-voided l i es h v =
    record {
      form =
          every-after (λ m e. in_form e) (λ m e. in_form e) (with_voided 1) 0 i es h.form (λ m k o p. p)
          (λ k. voided-form 1 (entry_at es i) (omega arith) (every-at (λ m e. in_form e) 0 es h.form i k));
      voided =
          every-after (λ m e. keeps_voided e) (λ m e. keeps_voided e) (with_voided 1) 0 i es h.voided (λ m k o p. p)
          (λ k. voided_voidable 1 (entry_at es i) v);
      unmarked = every-changed (λ m e. keeps_unmarked due_entry false e) (with_voided 1) (λ m e. voided-unmarked 1 e) i 0 es ∙ h.unmarked;
      resends = every-changed (λ m e. keeps_resends l e) (with_voided 1) (λ m e. voided-resends 1 e l) i 0 es ∙ h.resends;
      silent = every-changed (λ m e. keeps_silent l false e) (with_voided 1) (λ m e. voided-silent 1 e l) i 0 es ∙ h.silent;
      apart = distinct-changed (with_voided 1) (voided-trace 1) i es ∙ h.apart;
    }

-- what the voiding of an original keeps
pub record KeepsPlain (n l : ℕ) (j k : List ℕ) : Type 0 where
  pub room : length k ≡ length j
  pub plain : Plain l (entries_of n k)
  pub totals : totals_of (entries_of n k) ≡ totals_of (entries_of n j)
  pub absent_same : (x : ℕ) → absent x (entries_of n k) ≡ absent x (entries_of n j)

pub original-kept : (n l : ℕ) (q : Request) (j : List ℕ) → Plain l (entries_of n j)
    → KeepsPlain n l j (original_voided q (entries_of n j) j)
unfolding original_voided
original-kept n l q j h = go (takes_original q.kind) (first_of original 0 (entries_of n j)) refl
  where
    original : Entry → Bool
    original = is_original (original_kind q.kind) q.original.0

    none : KeepsPlain n l j j
    none = record { room = refl; plain = h; totals = refl; absent_same = λ x. refl }

    one : (i : ℕ) → first_of original 0 (entries_of n j) ≡ Some i → KeepsPlain n l j (set_byte i 1 1 j)
    one i e =
        let es = entries_of n j in
        let f = first_at original 0 es i e in
        let z : i - 0 ≡ i = omega arith in
        let k = original_kind_lem (original_kind q.kind) q.original.0 (entry_at es i) (rw z at f.holds) in
        let c = set-voided n i 1 j in
        record {
          room = length-set_byte i 1 1 j;
          plain = rw c (plain-voided l i es h (rw k (original_voidable q.kind)));
          totals = rw c (totals-changed (with_voided 1) (voided-totals 1) i es);
          absent_same = λ x. rw c (absent-changed (with_voided 1) (voided-trace 1) x i es);
        }

    go : (b : Bool) (f : Option ℕ) → first_of original 0 (entries_of n j) ≡ f → KeepsPlain n l j (cond b (voided_at f j) j)
    go true (Some i) e = one i e
    go true None e = none
    go false f e = none

-- a new entry: nothing of it is voided, marked or resent
pub record IsNew (e : Entry) : Type 0 where
  pub in_form : in_form e ≡ true
  pub unvoided : e.voided ≡ 0
  pub unmarked : e.mark ≡ 0
  pub unsent : e.resends ≡ 0

module _ (e : Entry) (n : IsNew e) where
  new-voided : keeps_voided e ≡ true
  unfolding keeps_voided
  new-voided = rw n.unvoided

  new-unmarked : keeps_unmarked due_entry false e ≡ true
  unfolding keeps_unmarked
  new-unmarked = rw (n.unmarked, n.unsent)

  new-resends : (l : ℕ) → keeps_resends l e ≡ true
  unfolding keeps_resends
  new-resends l = rw (n.unmarked, n.unsent, le-leb 0 l (omega arith))

  new-silent : (l : ℕ) → keeps_silent l false e ≡ true
  unfolding keeps_silent
  new-silent l = rw n.unmarked

every_more : (p : Entry → Bool) (es : List Entry) (e : Entry) → every (λ i e. p e) 0 es ≡ true → p e ≡ true
    → every (λ i e. p e) 0 (es ++ (e ∷ [])) ≡ true
every_more p es e a b = every-last (λ i e. p e) 0 es e ∙ rw (a, b)

pub plain-last : (l : ℕ) (es : List Entry) (e : Entry) → Plain l es → IsNew e → absent e.trace.0 es ≡ true
    → Plain l (es ++ (e ∷ []))
plain-last l es e h n a =
    record {
      form = every_more in_form es e h.form n.in_form;
      voided = every_more keeps_voided es e h.voided (new-voided e n);
      unmarked = every_more (keeps_unmarked due_entry false) es e h.unmarked (new-unmarked e n);
      resends = every_more (keeps_resends l) es e h.resends (new-resends e n l);
      silent = every_more (keeps_silent l false) es e h.silent (new-silent e n l);
      apart = distinct-last es e ∙ rw (h.apart, a);
    }

-- sums that one amount more does not carry past rule 21
pub sums-last : (es : List Entry) (e : Entry) → (totals_of es).debit ≤ largest_total → (totals_of es).credit ≤ largest_total
    → past e.kind e.amount (totals_of es) ≡ false
    → ((totals_of (es ++ (e ∷ []))).debit ≤ largest_total) × ((totals_of (es ++ (e ∷ []))).credit ≤ largest_total)
unfolding past
sums-last es e d c p = rw (totals-last es e) (go (totals_of es) (side_of e.kind) refl d c p)
  where
    go : (t : Totals) (k : Side) → side_of e.kind ≡ k → t.debit ≤ largest_total → t.credit ≤ largest_total
        → past_on k e.amount t ≡ false → ((with_entry t e).debit ≤ largest_total) × ((with_entry t e).credit ≤ largest_total)
    go t Debit s d c p = rw (booked-debit e.kind e.amount t s) (ltb-false _ _ p, c)
    go t Credit s d c p = rw (booked-credit e.kind e.amount t s) (d, ltb-false _ _ p)
    go t Neither s d c p = rw (booked_neither e.kind e.amount t s) (d, c)
