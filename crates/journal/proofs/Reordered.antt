-- Sums over entries in any order.
use mathlib.Core.Path.{◌≡◌, refl, ap, sym, ◌∙◌}
use mathlib.Core.List.{List, [], ◌∷◌, ◌++◌}
use mathlib.Core.Bool.{Bool, true, false, cond}
use Prim.Native.Nat.{ℕ, zero, suc, ◌+◌, ◌≤◌, ◌<◌}
use native.Mathlib.Nat.{zero-add}
use native.Mathlib.Omega.{arith}
use native.Mathlib.Decide.{ℕ_discrete, dec_lt}
use lib.Dec.{eqb, ltb}
use lib.ListN.{length, length-append}
use borrow.Author.Tests.{eqb-true, eq-eqb, ne_eqb, lt-ltb, le-ltb}
use Rattle.kinds.specs.Sums.{together}
use Rattle.kinds.proofs.FiveSums.{each_alike}
use Rattle.entry.specs.declared.Entry.{Entry}
use Rattle.journal.specs.Journal.{entry_at, sum_of, amount, one, sum_over, of_kind, sums_of, totals_of}
use Rattle.journal.specs.Reordered.{Reordered, SumsInAnyOrder, EveryOrder}

-- the sum of f over the numbers below n
abbrev sum_to : ℕ → (ℕ → ℕ) → ℕ
sum_to zero f = 0
sum_to (suc n) f = f 0 + sum_to n (λ i. f (suc i))

to_alike : (n : ℕ) (f g : ℕ → ℕ) → ((i : ℕ) → i < n → f i ≡ g i) → sum_to n f ≡ sum_to n g
to_alike zero f g h = refl
to_alike (suc n) f g h = rw (h 0 (omega arith), to_alike n (λ i. f (suc i)) (λ i. g (suc i)) (λ i l. h (suc i) (omega arith)))

to_zero : (n : ℕ) → sum_to n (λ i. 0) ≡ 0
to_zero zero = refl
to_zero (suc n) = rw (to_zero n)

to_plus : (n : ℕ) (f g : ℕ → ℕ) → sum_to n (λ i. f i + g i) ≡ sum_to n f + sum_to n g
to_plus zero f g = refl
to_plus (suc n) f g = omega (arith, to_plus n (λ i. f (suc i)) (λ i. g (suc i)))

-- rows first or columns first
to_turned : (n m : ℕ) (f : ℕ → ℕ → ℕ) → sum_to n (λ i. sum_to m (λ k. f i k)) ≡ sum_to m (λ k. sum_to n (λ i. f i k))
to_turned zero m f = sym (to_zero m)
to_turned (suc n) m f =
    rw (to_turned n m (λ i. f (suc i))) (sym (to_plus m (f 0) (λ k. sum_to n (λ i. f (suc i) k))))

-- the one number that is k
to_picked : (n k : ℕ) (f : ℕ → ℕ) → k < n → sum_to n (λ i. cond (eqb k i) (f i) 0) ≡ f k
to_picked zero k f h = absurd (omega arith)
to_picked (suc n) zero f h =
    let rest = to_alike n (λ i. cond (eqb 0 (suc i)) (f (suc i)) 0) (λ i. 0) (λ i l. rw (ne_eqb 0 (suc i) (λ e. omega arith))) ∙ to_zero n in
    omega (arith, rest)
to_picked (suc n) (suc k) f h =
    rw (ne_eqb (suc k) 0 (λ e. omega arith))
    (zero-add _ ∙ to_alike n (λ i. cond (eqb (suc k) (suc i)) (f (suc i)) 0) (λ i. cond (eqb k i) (f (suc i)) 0) (λ i l. stepped i (ℕ_discrete k i))
    ∙ to_picked n k (λ i. f (suc i)) (omega arith))
  where
    stepped : (i : ℕ) → Dec (k ≡ i) → cond (eqb (suc k) (suc i)) (f (suc i)) 0 ≡ cond (eqb k i) (f (suc i)) 0
    stepped i (yes e) = rw (eq-eqb k i e, eq-eqb (suc k) (suc i) (ap suc e))
    stepped i (no e) = rw (ne_eqb k i e, ne_eqb (suc k) (suc i) (λ q. e (omega arith)))

-- a test that at most one number below n passes
abbrev AtMostOne : ℕ → (ℕ → Bool) → Type 0
AtMostOne n b = (i k : ℕ) → i < n → k < n → b i ≡ true → b k ≡ true → i ≡ k

to_none : (n : ℕ) (b : ℕ → Bool) (x : ℕ) → ((i : ℕ) → i < n → b i ≡ false) → sum_to n (λ i. cond (b i) x 0) ≡ 0
to_none n b x h = to_alike n (λ i. cond (b i) x 0) (λ i. 0) (λ i l. rw (h i l)) ∙ to_zero n

is_false : (b : Bool) → (b ≡ true → ⊥) → b ≡ false
is_false true h = absurd (h refl)
is_false false h = refl

-- it is one number, and the sum its amount, or none
to_one : (n : ℕ) (b : ℕ → Bool) → AtMostOne n b
    → (sum_to n (λ i. cond (b i) 1 0) ≤ 1) × (sum_to n (λ i. cond (b i) 1 0) ≡ 1 → (x : ℕ) → sum_to n (λ i. cond (b i) x 0) ≡ x)
to_one zero b h = (omega arith, λ e x. absurd (omega arith))
to_one (suc n) b h = go (b 0) refl (to_one n (λ i. b (suc i)) (λ i k l m p q. omega (arith, h (suc i) (suc k) (omega arith) (omega arith) p q)))
  where
    go : (t : Bool) → b 0 ≡ t
        → (sum_to n (λ i. cond (b (suc i)) 1 0) ≤ 1) × (sum_to n (λ i. cond (b (suc i)) 1 0) ≡ 1 → (x : ℕ) → sum_to n (λ i. cond (b (suc i)) x 0) ≡ x)
        → (sum_to (suc n) (λ i. cond (b i) 1 0) ≤ 1) × (sum_to (suc n) (λ i. cond (b i) 1 0) ≡ 1 → (x : ℕ) → sum_to (suc n) (λ i. cond (b i) x 0) ≡ x)
    go true e r =
        let others : (i : ℕ) → i < n → b (suc i) ≡ false = λ i l. is_false (b (suc i)) (λ q. omega (arith, h 0 (suc i) (omega arith) (omega arith) e q)) in
        rw e (omega (arith, to_none n (λ i. b (suc i)) 1 others), λ z x. omega (arith, to_none n (λ i. b (suc i)) x others))
    go false e r = rw e (omega (arith, r.0), λ z x. zero-add _ ∙ r.1 (omega arith) x)

-- numbers of at most 1 that sum up to as many as they are
to_most : (n : ℕ) (f : ℕ → ℕ) → ((i : ℕ) → i < n → f i ≤ 1) → sum_to n f ≤ n
to_most zero f h = omega arith
to_most (suc n) f h = omega (arith, h 0 (omega arith), to_most n (λ i. f (suc i)) (λ i l. h (suc i) (omega arith)))

to_ones : (n : ℕ) (f : ℕ → ℕ) → ((i : ℕ) → i < n → f i ≤ 1) → sum_to n f ≡ n → (i : ℕ) → i < n → f i ≡ 1
to_ones zero f h e i l = absurd (omega arith)
to_ones (suc n) f h e zero l =
    omega (arith, h 0 (omega arith), to_most n (λ i. f (suc i)) (λ i l. h (suc i) (omega arith)))
to_ones (suc n) f h e (suc i) l =
    let m = to_most n (λ i. f (suc i)) (λ i l. h (suc i) (omega arith)) in
    to_ones n (λ i. f (suc i)) (λ i l. h (suc i) (omega arith)) (omega (arith, h 0 (omega arith))) i (omega arith)

to_count : (n : ℕ) → sum_to n (λ i. 1) ≡ n
to_count zero = refl
to_count (suc n) = omega (arith, to_count n)

-- a map of the numbers below n that takes none twice takes each
module _ (n : ℕ) (from : ℕ → ℕ) (within : (i : ℕ) → i < n → from i < n)
    (once : (i k : ℕ) → i < n → k < n → from i ≡ from k → i ≡ k) where
  taken-once : (k : ℕ) → AtMostOne n (λ i. eqb (from i) k)
  taken-once k i m l r p q = once i m l r (eqb-true _ _ p ∙ sym (eqb-true _ _ q))

  each-taken : (k : ℕ) → k < n → sum_to n (λ i. cond (eqb (from i) k) 1 0) ≡ 1
  each-taken =
      to_ones n (λ k. sum_to n (λ i. cond (eqb (from i) k) 1 0)) (λ k l. (to_one n (λ i. eqb (from i) k) (taken-once k)).0)
      (sym (to_turned n n (λ i k. cond (eqb (from i) k) 1 0))
      ∙ to_alike n _ (λ i. 1) (λ i l. to_picked n (from i) (λ k. 1) (within i l))
      ∙ to_count n)

  to_reordered : (f : ℕ → ℕ) → sum_to n (λ i. f (from i)) ≡ sum_to n f
  to_reordered f =
      to_alike n (λ i. f (from i)) (λ i. sum_to n (λ k. cond (eqb (from i) k) (f k) 0)) (λ i l. sym (to_picked n (from i) f (within i l)))
      ∙ to_turned n n (λ i k. cond (eqb (from i) k) (f k) 0)
      ∙ to_alike n _ f (λ k l. (to_one n (λ i. eqb (from i) k) (taken-once k)).1 (each-taken k l) (f k))

-- a sum over entries is one over their places
by_place : (p : Entry → Bool) (f : Entry → ℕ) (es : List Entry)
    → sum_of p f es ≡ sum_to (length es) (λ i. cond (p (entry_at es i)) (f (entry_at es i)) 0)
by_place p f [] = refl
by_place p f (e ∷ es) = rw (by_place p f es)

sum_reordered : (p : Entry → Bool) (f : Entry → ℕ) (es fs : List Entry) → Reordered es fs → sum_of p f fs ≡ sum_of p f es
sum_reordered p f es fs r =
    let value : Entry → ℕ = λ e. cond (p e) (f e) 0 in
    by_place p f fs
    ∙ ap (λ (n : ℕ). sum_to n (λ i. value (entry_at fs i))) r.same_length
    ∙ to_alike (length es) (λ i. value (entry_at fs i)) (λ i. value (entry_at es (r.from i))) (λ i l. ap value (r.same i l))
    ∙ to_reordered (length es) r.from r.within r.once (λ i. value (entry_at es i))
    ∙ sym (by_place p f es)

over_reordered : (p : Entry → Bool) (es fs : List Entry) → Reordered es fs → sum_over p fs ≡ sum_over p es
over_reordered p es fs r = rw (sum_reordered p amount es fs r, sum_reordered p one es fs r)

pub sums_in_any_order : SumsInAnyOrder
unfolding sums_of
sums_in_any_order p es fs r = each_alike _ _ (λ kind. over_reordered (of_kind p kind) es fs r)

pub totals_in_any_order : (es fs : List Entry) → Reordered es fs → totals_of fs ≡ totals_of es
totals_in_any_order es fs r = ap together (sums_in_any_order (λ e. true) es fs r)

at_before : (es fs : List Entry) (i : ℕ) → i < length es → entry_at (es ++ fs) i ≡ entry_at es i
at_before [] fs i h = absurd (omega arith)
at_before (e ∷ es) fs zero h = refl
at_before (e ∷ es) fs (suc i) h = at_before es fs i (omega arith)

at-end : (es : List Entry) (e : Entry) → entry_at (es ++ (e ∷ [])) (length es) ≡ e
at-end [] e = refl
at-end (x ∷ es) e = at-end es e

-- the place that an entry had before the first went last
from_first : ℕ → ℕ → ℕ
from_first n i = cond (ltb i n) (suc i) 0

first_last : (e : Entry) (es : List Entry) → Reordered (e ∷ es) (es ++ (e ∷ []))
unfolding from_first
first_last e es =
    record {
      from = from_first n;
      same_length = rw length-append (omega arith);
      within = λ i l. inside i (dec_lt i n);
      once = λ i k l m q. apart i k l m (dec_lt i n) (dec_lt k n) q;
      same = λ i l. there i l (dec_lt i n);
    }
  where
    n : ℕ
    n = length es

    inside : (i : ℕ) → Dec (i < n) → from_first n i < suc n
    inside i (yes h) = rw (lt-ltb i n h) (omega arith)
    inside i (no h) = rw (le-ltb i n (omega arith)) (omega arith)

    apart : (i k : ℕ) → i < suc n → k < suc n → Dec (i < n) → Dec (k < n) → from_first n i ≡ from_first n k → i ≡ k
    apart i k l m (yes h) (yes g) q = omega (arith, rw (lt-ltb i n h, lt-ltb k n g) at q)
    apart i k l m (yes h) (no g) q = absurd (omega (arith, rw (lt-ltb i n h, le-ltb k n (omega arith)) at q))
    apart i k l m (no h) (yes g) q = absurd (omega (arith, rw (le-ltb i n (omega arith), lt-ltb k n g) at q))
    apart i k l m (no h) (no g) q = omega arith

    there : (i : ℕ) → i < suc n → Dec (i < n) → entry_at (es ++ (e ∷ [])) i ≡ entry_at (e ∷ es) (from_first n i)
    there i l (yes h) = rw (lt-ltb i n h) (at_before es (e ∷ []) i h)
    there i l (no h) = let q : i ≡ n = omega arith in rw (q, le-ltb n n (omega arith)) (at-end es e)

exchanged : ℕ → ℕ
exchanged zero = 1
exchanged (suc zero) = 0
exchanged (suc (suc i)) = suc (suc i)

exchanged_back : (i : ℕ) → exchanged (exchanged i) ≡ i
unfolding exchanged
exchanged_back zero = refl
exchanged_back (suc zero) = refl
exchanged_back (suc (suc i)) = refl

first_two : (d e : Entry) (es : List Entry) → Reordered (d ∷ e ∷ es) (e ∷ d ∷ es)
unfolding exchanged
first_two d e es =
    record {
      from = exchanged;
      same_length = refl;
      within = inside;
      once = λ i k l m q. sym (exchanged_back i) ∙ ap exchanged q ∙ exchanged_back k;
      same = λ i l. there i;
    }
  where
    inside : (i : ℕ) → i < suc (suc (length es)) → exchanged i < suc (suc (length es))
    inside zero l = omega arith
    inside (suc zero) l = omega arith
    inside (suc (suc i)) l = l

    there : (i : ℕ) → entry_at (e ∷ d ∷ es) i ≡ entry_at (d ∷ e ∷ es) (exchanged i)
    there zero = refl
    there (suc zero) = refl
    there (suc (suc i)) = refl

then : (es fs gs : List Entry) → Reordered es fs → Reordered fs gs → Reordered es gs
then es fs gs r q =
    record {
      from = λ i. r.from (q.from i);
      same_length = q.same_length ∙ r.same_length;
      within = λ i l. r.within (q.from i) (inside i l);
      once = λ i k l m e. q.once i k (there i l) (there k m) (r.once (q.from i) (q.from k) (inside i l) (inside k m) e);
      same = λ i l. q.same i (there i l) ∙ r.same (q.from i) (inside i l);
    }
  where
    there : (i : ℕ) → i < length es → i < length fs
    there i l = rw r.same_length l

    inside : (i : ℕ) → i < length es → q.from i < length es
    inside i l = rw r.same_length at (q.within i (there i l))

pub every-order : EveryOrder
every-order = record { first_last = first_last; first_two = first_two; then = then }
