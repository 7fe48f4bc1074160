-- The number taken is free: among as many numbers as there are entries, and one more, one is free (the pigeonhole, by counting).
use mathlib.Core.Path.{◌≡◌, refl, sym, ◌∙◌}
use mathlib.Core.List.{List, [], ◌∷◌}
use mathlib.Core.Bool.{Bool, true, false, cond, not, ◌&&◌}
use Prim.Native.Nat.{ℕ, zero, suc, ◌+◌, ◌-◌, ◌%◌, ◌≤◌, ◌<◌}
use native.Mathlib.Omega.{arith}
use lib.Dec.{eqb, ltb}
use lib.ListN.{length}
use borrow.Author.Tests.{ne_eqb, eqb-true, eqb-false, ltb-true, ltb-false}
use Rattle.numbers.specs.Limits.{last_number}
use Rattle.numbers.specs.Numbers.{following}
use Rattle.entry.specs.declared.Entry.{Entry}
use Rattle.journal.specs.Journal.{absent, taken_from, taken}
use Rattle.traces.proofs.Absent.{absent_none, absent_cons}

-- 1 where x is y
abbrev hit : ℕ → ℕ → ℕ
hit x y = cond (eqb x y) 1 0

-- how many entries have trace v
count : List Entry → ℕ → ℕ
count [] v = 0
count (e ∷ es) v = count es v + hit e.trace.0 v

-- the sum of f below m
total : (ℕ → ℕ) → ℕ → ℕ
total f zero = 0
total f (suc m) = total f m + f m

hit_no : (x y : ℕ) → (x ≡ y → ⊥) → hit x y ≡ 0
hit_no x y h = rw (ne_eqb x y h)

hit_small : (x y : ℕ) → hit x y ≤ 1
hit_small x y = small (eqb x y)
  where
    small : (b : Bool) → cond b 1 0 ≤ 1
    small true = omega arith
    small false = omega arith

-- v 0, .. v (m - 1) are apart
unfoldable Apart : (ℕ → ℕ) → ℕ → Type 0
Apart v m = (i k : ℕ) → i < k → k < m → v i ≡ v k → ⊥

total_none : (x : ℕ) (v : ℕ → ℕ) (m : ℕ) → ((i : ℕ) → i < m → x ≡ v i → ⊥) → total (λ i. hit x (v i)) m ≡ 0
unfolding total
total_none x v zero h = refl
total_none x v (suc m) h = rw (total_none x v m (λ i p. h i (omega arith)), hit_no x (v m) (h m (omega arith)))

-- x is at most one of numbers that are apart
total_once : (x : ℕ) (v : ℕ → ℕ) (m : ℕ) → Apart v m → total (λ i. hit x (v i)) m ≤ 1
unfolding total Apart
total_once x v zero h = omega arith
total_once x v (suc m) h = last (eqb x (v m)) refl (total_once x v m (λ i k p q. h i k p (omega arith)))
  where
    last : (b : Bool) → eqb x (v m) ≡ b → total (λ i. hit x (v i)) m ≤ 1 → total (λ i. hit x (v i)) m + hit x (v m) ≤ 1
    last true e ih =
        rw (total_none x v m (λ i p f. h i m p (omega arith) (sym f ∙ eqb-true x (v m) e))) (omega (arith, hit_small x (v m)))
    last false e ih = rw (hit_no x (v m) (eqb-false x (v m) e)) (omega arith)

total-add : (f g : ℕ → ℕ) (m : ℕ) → total (λ i. f i + g i) m ≡ total f m + total g m
unfolding total
total-add f g zero = refl
total-add f g (suc m) = rw (total-add f g m) (omega arith)

total-zero : (m : ℕ) → total (λ i. 0) m ≡ 0
unfolding total
total-zero zero = refl
total-zero (suc m) = rw (total-zero m)

-- the entries meet no more than their number of numbers that are apart
met : (es : List Entry) (v : ℕ → ℕ) (m : ℕ) → Apart v m → total (λ i. count es (v i)) m ≤ length es
unfolding count
met [] v m h = rw (total-zero m) (omega arith)
met (e ∷ es) v m h =
    rw (total-add (λ i. count es (v i)) (λ i. hit e.trace.0 (v i)) m)
    (omega (arith, met es v m h, total_once e.trace.0 v m h))

total_least : (f : ℕ → ℕ) (m : ℕ) → ((i : ℕ) → i < m → 1 ≤ f i) → m ≤ total f m
unfolding total
total_least f zero h = omega arith
total_least f (suc m) h = omega (arith, total_least f m (λ i p. h i (omega arith)), h m (omega arith))

-- what is not absent is met
not_absent : (x : ℕ) (es : List Entry) → absent x es ≡ false → 1 ≤ count es x
unfolding count
not_absent x [] q = let z : ◌≡◌ {A = Bool} true false = sym (absent_none x) ∙ q in let y : ◌≡◌ {A = ℕ} 0 1 = cc in omega arith
not_absent x (e ∷ es) q = by (not_absent x es) (eqb e.trace.0 x) (sym (absent_cons x e es) ∙ q)
  where
    by : (absent x es ≡ false → 1 ≤ count es x) → (b : Bool) → (not b && absent x es) ≡ false → 1 ≤ count es x + cond b 1 0
    by ih true r = omega arith
    by ih false r = omega (arith, ih r)

-- the k-th number after x
later : ℕ → ℕ → ℕ
later x zero = x
later x (suc k) = later (following x) k

-- where the number taken is not free, no candidate is
none_free : (es : List Entry) (k x : ℕ) → absent (taken_from k es x) es ≡ false → (i : ℕ) → i < suc k → absent (later x i) es ≡ false
unfolding later
none_free es zero x q zero p = q
none_free es zero x q (suc i) p = absurd (omega arith)
none_free es (suc k) x q i p = by (none_free es k (following x)) (absent x es) refl i p
  where
    by : (absent (taken_from k es (following x)) es ≡ false → (i : ℕ) → i < suc k → absent (later (following x) i) es ≡ false)
        → (b : Bool) → absent x es ≡ b → (i : ℕ) → i < suc (suc k) → absent (later x i) es ≡ false
    by ih true f i p = let z : ◌≡◌ {A = Bool} true false = sym f ∙ (rw f at q) in let y : ◌≡◌ {A = ℕ} 0 1 = cc in absurd (omega arith)
    by ih false f zero p = f
    by ih false f (suc i) p = ih (rw f at q) i (omega arith)

following-is : (x : ℕ) → 1 ≤ x → x ≤ last_number → following x ≡ x % last_number + 1
unfolding following
following-is x a b = by (ltb x last_number) refl
  where
    by : (c : Bool) → ltb x last_number ≡ c → cond c (x + 1) 1 ≡ x % last_number + 1
    by true e = omega (arith, ltb-true x last_number e)
    by false e = omega (arith, ltb-false x last_number e)

later-is : (k x : ℕ) → 1 ≤ x → x ≤ last_number → later x k ≡ (x + k - 1) % last_number + 1
unfolding later
later-is zero x a b = omega arith
later-is (suc k) x a b =
    let w = following-is x a b in
    later-is k (following x) (rw w (omega arith)) (rw w (omega arith)) ∙ rw w (omega arith)

-- no more than 999999 of them are apart
apart : (x m : ℕ) → 1 ≤ x → x ≤ last_number → m ≤ last_number → Apart (later x) m
unfolding Apart
apart x m a b c i k p q e = omega (arith, sym (later-is i x a b) ∙ e ∙ later-is k x a b)

pub taken_free : (es : List Entry) (x : ℕ) → 1 ≤ x → x ≤ last_number → length es < last_number → absent (taken es x) es ≡ true
unfolding taken
taken_free es x a b c = by (absent (taken_from (length es) es x) es) refl
  where
    by : (f : Bool) → absent (taken_from (length es) es x) es ≡ f → f ≡ true
    by true q = refl
    by false q =
        absurd
        (omega (
          arith,
          met es (later x) (suc (length es)) (apart x (suc (length es)) a b (omega arith)),
          total_least (λ i. count es (later x i)) (suc (length es)) (λ i p. not_absent (later x i) es (none_free es (length es) x q i p)),
        ))

pub following_range : (x : ℕ) → (1 ≤ following x) × (following x ≤ last_number)
unfolding following
following_range x = by (ltb x last_number) refl
  where
    by : (c : Bool) → ltb x last_number ≡ c → (1 ≤ cond c (x + 1) 1) × (cond c (x + 1) 1 ≤ last_number)
    by true e = (omega arith, omega (arith, ltb-true x last_number e))
    by false e = (omega arith, omega arith)

from_range : (k : ℕ) (es : List Entry) (x : ℕ) → 1 ≤ x → x ≤ last_number → (1 ≤ taken_from k es x) × (taken_from k es x ≤ last_number)
from_range zero es x a b = (a, b)
from_range (suc k) es x a b = by (absent x es) (from_range k es (following x) (following_range x).0 (following_range x).1)
  where
    by : (c : Bool) → (1 ≤ taken_from k es (following x)) × (taken_from k es (following x) ≤ last_number)
        → (1 ≤ cond c x (taken_from k es (following x))) × (cond c x (taken_from k es (following x)) ≤ last_number)
    by true ih = (a, b)
    by false ih = ih

pub taken_range : (es : List Entry) (x : ℕ) → 1 ≤ x → x ≤ last_number → (1 ≤ taken es x) × (taken es x ≤ last_number)
unfolding taken
taken_range es x a b = from_range (length es) es x a b
