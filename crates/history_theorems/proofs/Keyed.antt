-- The rules of start after 13: each test of the terminal is the history's.
use Rattle.std.specs.Prelude.{Some, None, Option}
use mathlib.Core.Path.{◌≡◌, refl, sym, ap, ◌∙◌}
use mathlib.Core.List.{List, [], ◌∷◌, ◌++◌}
use mathlib.Core.Bool.{Bool, true, false, cond, not, ◌&&◌, ◌||◌, and_assoc, or-false, not-not, true≢false}
use Prim.Native.Nat.{ℕ, suc, ◌-◌, ◌<◌}
use native.Mathlib.Decide.{ℕ_discrete, dec_lt}
use native.Mathlib.Omega.{arith}
use lib.Dec.{leb, ltb, eqb}
use lib.ListN.{length}
use borrow.Author.Tests.{ne_eqb, lt-ltb, le-ltb, le-leb, lt-leb, eqb-true}
use Rattle.field.specs.Table.{among}
use Rattle.field.specs.Contents.{all_printable}
use Rattle.numbers.specs.Numbers.{within, is_amount}
use Rattle.kinds.specs.Kinds.{is_debit, is_credit, takes_original, original_kind, side_of}
use Rattle.kinds.specs.declared.Side.TheVariants.{Debit, Credit, Neither}
use Rattle.kinds.specs.declared.Totals.{Totals}
use Rattle.entry.specs.declared.Entry.{Entry}
use Rattle.journal.specs.Journal.{entry_at, first_of, totals_of, is_original, original_for, nowhere}
use Rattle.journal.specs.Sums.{debit_entry, credit_entry}
use Rattle.journal.proofs.Sums.{sides_add_up}
use Rattle.journal.proofs.Searches.{first_at}
use Rattle.checks.specs.Checks.{first_broken}
use Rattle.state.specs.declared.Card.{Card}
use Rattle.state.specs.declared.State.{State}
use Rattle.state_rules.specs.StateRules.{is_card, exceeds, past_on, past}
use Rattle.desk.specs.declared.Desk.{Desk}
use Rattle.desk.specs.DeskRules.{desk_in_form, desk_rules, journal_rules}
use Rattle.call_definitions.specs.Start.{original_of, entry_of}
use Rattle.history_theorems.specs.Standing.{Standing}
use Rattle.history_theorems.specs.Approvals.{Approval, voided_by, IsEntry, AreEntries}
use Rattle.history_theorems.specs.Requests.{is_void, is_named, is_there, is_voided, amount_named, amounts, card_in_form, date_in_form, text_in_form, keyed_in_form, amount_of, passes, start_number}
use Rattle.history_theorems.proofs.Summing.{amounts_for}
use Rattle.history_theorems.proofs.ByKind.{void_is, authorisation-keyed, date-keyed, kind_listed}
use Rattle.history_theorems.proofs.Requests.{named_alike}

-- 15: an amount that is no amount
amount-out : (x : ℕ) → not (is_amount x) ≡ (eqb x 0 || ltb 9999999999 x)
unfolding within
amount-out x = go (ℕ_discrete x 0) (dec_lt 9999999999 x)
  where
    go : Dec (x ≡ 0) → Dec (9999999999 < x) → not (leb 1 x && leb x 9999999999) ≡ (eqb x 0 || ltb 9999999999 x)
    go (yes e) l = rw e
    go (no n) (yes l) = rw (ne_eqb x 0 n, le-leb 1 x (omega arith), lt-leb x 9999999999 l, lt-ltb 9999999999 x l)
    go (no n) (no l) = rw (ne_eqb x 0 n, le-leb 1 x (omega arith), le-leb x 9999999999 (omega arith), le-ltb 9999999999 x (omega arith))

-- 16: what the desk keyed
card_alike : (c : Card) → is_card c ≡ card_in_form c
unfolding is_card card_in_form within
card_alike c = refl

date_alike : (d : Desk) → (within 1 d.month 12 && within 1 d.day 31) ≡ date_in_form d
unfolding date_in_form within
date_alike d = sym (and_assoc (leb 1 d.month && leb d.month 12) (leb 1 d.day) (leb d.day 31))

text_alike : (t : List ℕ) → all_printable t ≡ text_in_form t
unfolding all_printable text_in_form
text_alike t = refl

desk_alike : (d : Desk) → desk_in_form d ≡ keyed_in_form d
unfolding desk_in_form keyed_in_form
desk_alike d =
    rw (
      kind_listed d.kind,
      void_is d.kind,
      card_alike d.card,
      date-keyed d.kind,
      date_alike d,
      authorisation-keyed d.kind,
      text_alike d.reference,
      text_alike d.authorisation,
    )

-- 18: as many entries as approvals
pub same_length : (es : List Entry) (vs : List Approval) → AreEntries es vs → length es ≡ length vs
same_length [] [] h = refl
same_length [] (v ∷ vs) h = absurd h
same_length (e ∷ es) [] h = absurd h
same_length (e ∷ es) (v ∷ vs) h = ap suc (same_length es vs h.1)

-- 19 and 20: the entry that a void is for
record SameOriginal (d : Desk) (vs : List Approval) (there : Bool) (voided amount : ℕ) : Type 0 where
  there_is : is_there d vs ≡ there
  voided_is : is_voided d vs ≡ not (eqb voided 0)
  amount_is : amount_named d vs ≡ amount

abbrev FoundAs : Desk → ℕ → Option ℕ → List Entry → List Approval → Type 0
FoundAs d k (Some i) es vs = SameOriginal d vs true (entry_at es (i - k)).voided (entry_at es (i - k)).amount
FoundAs d k None es vs = SameOriginal d vs false 0 0

flag : (b : Bool) → b ≡ not (eqb (cond b 1 0) 0)
flag true = refl
flag false = refl

module _ (d : Desk) where
  abbrev sought : Entry → Bool
  sought e = is_original (original_kind d.kind) d.original.0 e

  -- the first one
  found_here : (k : ℕ) (e : Entry) (es : List Entry) (v : Approval) (vs : List Approval) → IsEntry e v vs → is_named d v ≡ true
      → FoundAs d k (Some k) (e ∷ es) (v ∷ vs)
  found_here k e es v vs h n =
      let z : k - k ≡ 0 = omega arith in
      rw z
      (record {
        there_is = rw n;
        voided_is = rw (n, h.voided_is) (flag (voided_by v.request vs));
        amount_is = rw n (sym h.amount_is);
      })

  -- one after it
  found_after : (k : ℕ) (e : Entry) (es : List Entry) (v : Approval) (vs : List Approval) → is_named d v ≡ false → (f : Option ℕ)
      → first_of sought (suc k) es ≡ f → FoundAs d (suc k) f es vs → FoundAs d k f (e ∷ es) (v ∷ vs)
  found_after k e es v vs n (Some i) q w =
      let from = (first_at sought (suc k) es i q).from in
      let z : i - k ≡ suc (i - suc k) = omega arith in
      rw z (record { there_is = rw n w.there_is; voided_is = rw n w.voided_is; amount_is = rw n w.amount_is })
  found_after k e es v vs n None q w =
      record { there_is = rw n w.there_is; voided_is = rw n w.voided_is; amount_is = rw n w.amount_is }

  found_as : (k : ℕ) (es : List Entry) (vs : List Approval) → AreEntries es vs → FoundAs d k (first_of sought k es) es vs
  found_as k [] [] h = record { there_is = refl; voided_is = refl; amount_is = refl }
  found_as k [] (v ∷ vs) h = absurd h
  found_as k (e ∷ es) [] h = absurd h
  found_as k (e ∷ es) (v ∷ vs) h = go (found_as (suc k) es vs h.1) (sought e) (sym (named_alike d e v vs h.0))
    where
      go : FoundAs d (suc k) (first_of sought (suc k) es) es vs → (t : Bool) → is_named d v ≡ t
          → FoundAs d k (cond t (Some k) (first_of sought (suc k) es)) (e ∷ es) (v ∷ vs)
      go w true n = found_here k e es v vs h.0 n
      go w false n = found_after k e es v vs n (first_of sought (suc k) es) refl w

-- 21: the totals
debits_alike : (es : List Entry) (vs : List Approval) → AreEntries es vs → (totals_of es).debit ≡ amounts (20 ∷ 22 ∷ []) vs
unfolding debit_entry is_debit
debits_alike es vs h = ap (λ (t : Totals). t.debit) (sides_add_up es) ∙ amounts_for (λ k. among k (20 ∷ 22 ∷ [])) debit_entry (λ e. refl) es vs h

credits_alike : (es : List Entry) (vs : List Approval) → AreEntries es vs → (totals_of es).credit ≡ amounts (21 ∷ 23 ∷ 25 ∷ []) vs
unfolding credit_entry is_credit
credits_alike es vs h = ap (λ (t : Totals). t.credit) (sides_add_up es) ∙ amounts_for (λ k. among k (21 ∷ 23 ∷ 25 ∷ [])) credit_entry (λ e. refl) es vs h

-- no kind is both
debit_only : (k : ℕ) → among k (20 ∷ 22 ∷ []) ≡ true → among k (21 ∷ 23 ∷ 25 ∷ []) ≡ false
debit_only k h = go (eqb 20 k) (eqb 22 k) refl refl h
  where
    go : (a b : Bool) → eqb 20 k ≡ a → eqb 22 k ≡ b → (a || (b || false)) ≡ true → among k (21 ∷ 23 ∷ 25 ∷ []) ≡ false
    go true b p q h = rw (← eqb-true 20 k p)
    go false true p q h = rw (← eqb-true 22 k q)
    go false false p q h = absurd (true≢false (sym h))

past_on_lem : (a b : Bool) (amount : ℕ) (t : Totals) → (a ≡ true → b ≡ false)
    → past_on (cond a Debit (cond b Credit Neither)) amount t ≡ (a && exceeds t.debit amount || b && exceeds t.credit amount)
past_on_lem true b amount t h = rw (h refl, or-false)
past_on_lem false true amount t h = refl
past_on_lem false false amount t h = refl

past_alike : (d : Desk) (es : List Entry) (vs : List Approval) → AreEntries es vs
    → past d.kind (amount_of d vs) (totals_of es) ≡ (passes d vs (20 ∷ 22 ∷ []) || passes d vs (21 ∷ 23 ∷ 25 ∷ []))
unfolding past side_of is_debit is_credit
past_alike d es vs h =
    rw (← debits_alike es vs h, ← credits_alike es vs h)
    (past_on_lem (among d.kind (20 ∷ 22 ∷ [])) (among d.kind (21 ∷ 23 ∷ 25 ∷ [])) (amount_of d vs) (totals_of es) (debit_only d.kind))

-- two tests or two numbers, asked of a void only
and_alike : (t a b : Bool) → (t ≡ true → a ≡ b) → (t && a) ≡ (t && b)
and_alike true a b h = h refl
and_alike false a b h = refl

cond_alike : (t : Bool) (a b c : ℕ) → (t ≡ true → a ≡ b) → cond t a c ≡ cond t b c
cond_alike true a b c h = h refl
cond_alike false a b c h = refl

module _ (d : Desk) (es : List Entry) (vs : List Approval) (h : AreEntries es vs) where
  abbrev o : Entry
  o = entry_of (original_of d es) es

  original_as : (f : Option ℕ) → FoundAs d 0 f es vs → SameOriginal d vs (not (nowhere f)) (entry_of f es).voided (entry_of f es).amount
  original_as (Some i) w = let z : i - 0 ≡ i = omega arith in rw z at w
  original_as None w = w

  same-original : takes_original d.kind ≡ true → SameOriginal d vs (not (nowhere (original_of d es))) o.voided o.amount
  unfolding original_of
  same-original t = rw t (original_as (original_for d.kind d.original.0 es) (found_as d 0 es vs h))

  there_alike : (takes_original d.kind && nowhere (original_of d es)) ≡ (is_void d.kind && not (is_there d vs))
  there_alike =
      rw (← void_is d.kind) (and_alike (takes_original d.kind) _ _ (λ t. rw (same-original t).there_is (sym (not-not (nowhere (original_of d es))))))

  voided_alike : (takes_original d.kind && not (eqb o.voided 0)) ≡ (is_void d.kind && is_voided d vs)
  voided_alike = rw (← void_is d.kind) (and_alike (takes_original d.kind) _ _ (λ t. sym (same-original t).voided_is))

  amount_alike : cond (takes_original d.kind) o.amount d.amount ≡ amount_of d vs
  unfolding amount_of
  amount_alike = rw (← void_is d.kind) (cond_alike (takes_original d.kind) _ _ d.amount (λ t. sym (same-original t).amount_is))

  -- 15 to 21
  pub number_alike : (s : State) (y : Standing) → s.entries ≡ length vs → s.counts.sent ≡ y.requests
      → first_broken (desk_rules d s.settings.refund ++ journal_rules d s (totals_of es) (original_of d es) o) ≡ start_number s.settings y vs d
  unfolding first_broken start_number
  number_alike s y n k =
      rw (
        there_alike,
        voided_alike,
        amount_alike,
        past_alike d es vs h,
        amount-out d.amount,
        desk_alike d,
        void_is d.kind,
        n,
        k,
      )
