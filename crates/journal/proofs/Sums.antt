-- Laws of sums over a journal's entries and of the totals.
use mathlib.Core.Path.{◌≡◌, refl, ap, sym, ◌∙◌}
use mathlib.Core.List.{List, [], ◌∷◌, ◌++◌}
use mathlib.Core.Bool.{Bool, true, false, cond, ◌&&◌, and-eq-true_iff}
use Prim.Native.Nat.{ℕ, zero, suc, ◌+◌, ◌*◌, ◌≤◌, ◌<◌}
use native.Mathlib.Omega.{arith}
use native.Mathlib.Decide.{dec_lt}
use lib.Dec.{leb, eqb}
use lib.ListN.{length, take, drop}
use borrow.Author.Tests.{leb-true}
use Rattle.kinds.specs.Sums.{each_kind, together, single, plus_sum, plus_sums, added, RoomFor, EachSum, Fits}
use Rattle.kinds.proofs.FiveSums.{debit_kinds, credit_kinds, same-totals, moves_its_side, each_alike, none_more, plus_assoc, each_implies, each-added}
use Rattle.entry.specs.Entry.{entry_size, decode}
use Rattle.entry.specs.declared.Entry.{Entry}
use Rattle.entry.proofs.Theorems.{decode-amount}
use Rattle.kinds.specs.declared.Totals.{Totals}
use Rattle.kinds.specs.declared.sums.Sum.{Sum}
use Rattle.kinds.specs.declared.sums.Sums.{Sums}
use Rattle.journal.specs.Journal.{entries_of, every, sum_of, amount, one, sum_over, of_kind, sums_of, batch_sums, totals_of, with_voided, with_mark, with_resends, changed_at}
use Rattle.journal.specs.Sums.{with_entry, sums_with, debit_entry, credit_entry, SidesAddUp, OneOfEach}
use Rattle.journal.proofs.Entries.{entries-more, entries-short, length-entries_le}

chosen_bounded : (f : Entry → ℕ) (m : ℕ) (b : Bool) (e : Entry) → f e ≤ m → cond b (f e) 0 ≤ m
chosen_bounded f m true e h = h
chosen_bounded f m false e h = omega arith

module _ (p : Entry → Bool) (f : Entry → ℕ) where
  pub sum-append : (es fs : List Entry) → sum_of p f (es ++ fs) ≡ sum_of p f es + sum_of p f fs
  sum-append [] fs = omega arith
  sum-append (e ∷ es) fs = omega (arith, sum-append es fs)

  pub sum-last : (es : List Entry) (e : Entry) → sum_of p f (es ++ (e ∷ [])) ≡ sum_of p f es + cond (p e) (f e) 0
  sum-last es e = sum-append es (e ∷ []) ∙ omega arith

  -- a change that keeps what is summed
  pub sum-changed : (g : Entry → Entry) → ((e : Entry) → p (g e) ≡ p e) → ((e : Entry) → f (g e) ≡ f e)
      → (i : ℕ) (es : List Entry) → sum_of p f (changed_at i g es) ≡ sum_of p f es
  sum-changed g h k i [] = refl
  sum-changed g h k zero (e ∷ es) = rw (h e, k e)
  sum-changed g h k (suc i) (e ∷ es) = rw (sum-changed g h k i es)

  -- where each summand is at most m
  pub sum_bounded : (m i : ℕ) (es : List Entry) → every (λ k e. leb (f e) m) i es ≡ true → sum_of p f es ≤ length es * m
  sum_bounded m i [] h = omega arith
  sum_bounded m i (e ∷ es) h =
      let b = (and-eq-true_iff (leb (f e) m) (every (λ k e. leb (f e) m) (suc i) es)).0 h in
      omega (arith, sum_bounded m (suc i) es b.1, chosen_bounded f m (p e) e (leb-true (f e) m b.0))

pub count_bounded : (p : Entry → Bool) (es : List Entry) → sum_of p (λ e. 1) es ≤ length es
count_bounded p [] = omega arith
count_bounded p (e ∷ es) = omega (arith, count_bounded p es, chosen_bounded (λ e. 1) 1 (p e) e (omega arith))

pub amounts_bounded : (p : Entry → Bool) (n : ℕ) (j : List ℕ) → sum_of p (λ e. e.amount) (entries_of n j) ≤ n * 1000000000000
amounts_bounded p zero j = omega arith
amounts_bounded p (suc n) j = go (amounts_bounded p n (drop entry_size j)) (dec_lt (length j) entry_size)
  where
    go : sum_of p (λ e. e.amount) (entries_of n (drop entry_size j)) ≤ n * 1000000000000 → Dec (length j < entry_size)
        → sum_of p (λ e. e.amount) (entries_of (suc n) j) ≤ suc n * 1000000000000
    go r (yes h) = rw (entries-short (suc n) j h) (omega arith)
    go r (no h) =
        let e = decode (take entry_size j) in
        rw (entries-more n j (omega arith))
        (omega (arith, chosen_bounded (λ e. e.amount) 1000000000000 (p e) e (omega (arith, decode-amount (take entry_size j)))))

-- a change that keeps what the totals are made of
pub record KeepsTotals (f : Entry → Entry) : Type 0 where
  pub kind_same : (e : Entry) → (f e).kind ≡ e.kind
  pub amount_same : (e : Entry) → (f e).amount ≡ e.amount

pub voided-totals : (x : ℕ) → KeepsTotals (with_voided x)
unfolding with_voided
voided-totals x = record { kind_same = λ e. refl; amount_same = λ e. refl }

pub mark_totals : (x : ℕ) → KeepsTotals (with_mark x)
unfolding with_mark
mark_totals x = record { kind_same = λ e. refl; amount_same = λ e. refl }

pub resends-totals : (x : ℕ) → KeepsTotals (with_resends x)
unfolding with_resends
resends-totals x = record { kind_same = λ e. refl; amount_same = λ e. refl }

-- the sum of a kind
kind-changed : (f : Entry → Entry) → KeepsTotals f → (i : ℕ) (es : List Entry) (kind : ℕ)
    → sum_over (λ e. eqb e.kind kind) (changed_at i f es) ≡ sum_over (λ e. eqb e.kind kind) es
kind-changed f h i es kind =
    rw (
      sum-changed (λ e. eqb e.kind kind) amount f (λ e. rw (h.kind_same e)) h.amount_same i es,
      sum-changed (λ e. eqb e.kind kind) one f (λ e. rw (h.kind_same e)) (λ e. refl) i es,
    )

pub totals-changed : (f : Entry → Entry) → KeepsTotals f → (i : ℕ) (es : List Entry) → totals_of (changed_at i f es) ≡ totals_of es
unfolding sums_of
totals-changed f h i es = ap together (each_alike _ _ (kind-changed f h i es))

-- one more entry in the sums of those that satisfy p
over_last : (p : Entry → Bool) (es : List Entry) (e : Entry)
    → sum_over p (es ++ (e ∷ [])) ≡ plus_sum (sum_over p es) (single (p e) e.amount)
over_last p es e = rw (sum-last p amount es e, sum-last p one es e)

pub sums-last : (p : Entry → Bool) (es : List Entry) (e : Entry) → sums_of p (es ++ (e ∷ [])) ≡ sums_with p (sums_of p es) e
unfolding sums_of sums_with added
sums-last p es e = each_alike _ _ (λ kind. over_last (of_kind p kind) es e) ∙ go (p e) (sums_of p es)
  where
    go : (b : Bool) (x : Sums) → plus_sums x (each_kind (λ kind. single (b && eqb e.kind kind) e.amount)) ≡ cond b (added e.kind e.amount x) x
    go true x = refl
    go false x = none_more x

pub totals-last : (es : List Entry) (e : Entry) → totals_of (es ++ (e ∷ [])) ≡ with_entry (totals_of es) e
unfolding sums_with
totals-last es e = ap together (sums-last (λ e. true) es e) ∙ moves_its_side e.kind e.amount (batch_sums es)

-- the sums of a side's kinds make up that side
debit-sums : (f : Entry → ℕ) (es : List Entry)
    → sum_of (λ e. eqb e.kind 22) f es + sum_of (λ e. eqb e.kind 20) f es ≡ sum_of debit_entry f es
unfolding debit_entry
debit-sums f [] = refl
debit-sums f (e ∷ es) = omega (arith, debit-sums f es, debit_kinds e.kind (f e))

credit-sums : (f : Entry → ℕ) (es : List Entry)
    → sum_of (λ e. eqb e.kind 25) f es + sum_of (λ e. eqb e.kind 23) f es + sum_of (λ e. eqb e.kind 21) f es ≡ sum_of credit_entry f es
unfolding credit_entry
credit-sums f [] = refl
credit-sums f (e ∷ es) = omega (arith, credit-sums f es, credit_kinds e.kind (f e))

pub sides_add_up : SidesAddUp
unfolding sums_of together
sides_add_up es = same-totals (debit-sums amount es) (debit-sums one es) (credit-sums amount es) (credit-sums one es)

pub one_of_each : OneOfEach
unfolding sums_of together
one_of_each =
    record { sales = refl; completions = refl; refunds = refl; sale_voids = refl; completion_voids = refl; totals = refl }

-- no more entries on a side than in all
pub debits-few : (es : List Entry) → (totals_of es).debits ≤ length es
debits-few es = rw (sides_add_up es) (count_bounded debit_entry es)

pub credits-few : (es : List Entry) → (totals_of es).credits ≤ length es
credits-few es = rw (sides_add_up es) (count_bounded credit_entry es)

-- the totals of a journal fit their numbers
pub totals_fit : (n : ℕ) (j : List ℕ) → n < 65536 → Fits (totals_of (entries_of n j))
totals_fit n j h =
    let few = length-entries_le n j in
    let es = entries_of n j in
    rw (sides_add_up es)
    (record {
      debit_fits = omega (arith, amounts_bounded debit_entry n j);
      debits_fit = omega (arith, count_bounded debit_entry es);
      credit_fits = omega (arith, amounts_bounded credit_entry n j);
      credits_fit = omega (arith, count_bounded credit_entry es);
    })

pub totals_of-sums : {x : Sums} {t : Totals} (n : ℕ) (j : List ℕ) → n < 65536 → x ≡ batch_sums (entries_of n j) → (Fits (together x) → t ≡ together x)
    → t ≡ totals_of (entries_of n j)
totals_of-sums n j h e f = f (rw e (totals_fit n j h)) ∙ ap together e

-- a sum of at most i entries
pub record Within (i : ℕ) (x : Sum) : Type 0 where
  pub amount_bound : x.amount ≤ i * 1000000000000
  pub count_bound : x.count ≤ i

within_more : (i a : ℕ) → a < 1000000000000 → (x : Sum) (b : Bool) → Within i x → Within (i + 1) (plus_sum x (single b a))
within_more i a h x true w = record { amount_bound = omega (arith, w.amount_bound); count_bound = omega (arith, w.count_bound) }
within_more i a h x false w = record { amount_bound = omega (arith, w.amount_bound); count_bound = omega (arith, w.count_bound) }

room_within : (i a : ℕ) → i < 65535 → a < 1000000000000 → (x : Sum) → Within i x → RoomFor a x
room_within i a h k x w =
    record { sum_small = omega (arith, w.amount_bound); count_small = omega (arith, w.count_bound); amount_small = k }

-- what a loop that sums keeps: the sums x of the first i entries of es, with those left
pub record Gathering (es : List Entry) (i : ℕ) (left : List Entry) (x : Sums) : Type 0 where
  pub eq : plus_sums x (batch_sums left) ≡ batch_sums es
  pub bounds : EachSum (Within i) x

pub gathering_room : {es left : List Entry} {i : ℕ} {x : Sums} (e : Entry) → Gathering es i left x
    → i < 65535 → e.amount < 1000000000000 → EachSum (RoomFor e.amount) x
gathering_room {es} {left} {i} {x} e r h a = each_implies (room_within i e.amount h a) x r.bounds

pub gathering_more : {es left : List Entry} {i : ℕ} {x : Sums} {e : Entry} → Gathering es i (e ∷ left) x → e.amount < 1000000000000
    → Gathering es (i + 1) left (added e.kind e.amount x)
unfolding added sums_of
gathering_more {es} {left} {i} {x} {e} r a =
    record {
      eq = moved ∙ r.eq;
      bounds = each-added e.kind e.amount (within_more i e.amount a) x r.bounds;
    }
  where
    moved : plus_sums (added e.kind e.amount x) (batch_sums left) ≡ plus_sums x (batch_sums (e ∷ left))
    moved = plus_assoc x (each_kind (λ kind. single (eqb e.kind kind) e.amount)) (batch_sums left)

pub gathering_done : {es : List Entry} {i : ℕ} {x : Sums} → Gathering es i [] x → x ≡ batch_sums es
unfolding sums_of
gathering_done {es} {i} {x} r = sym (none_more x) ∙ r.eq
