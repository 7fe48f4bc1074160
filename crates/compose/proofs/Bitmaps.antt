-- The bitmap of a list of items: which fields it names, and the bitmap of one item more.
use mathlib.Core.Path.{◌≡◌, refl, ap, sym, ◌∙◌, fun_ext}
use mathlib.Core.List.{List, ◌∷◌}
use mathlib.Core.Bool.{Bool, true, false, cond}
use Prim.Native.Nat.{ℕ, zero, suc, ◌+◌, ◌-◌, ◌*◌, ◌/◌, ◌%◌, ◌^◌, ◌≤◌, ◌<◌}
use native.Mathlib.Nat.{div-div-eq-div-mul, pow-suc, pow-succ', pow-zero, not-suc-le-zero}
use native.Mathlib.Omega.{arith}
use native.Mathlib.Decide.{ℕ_discrete}
use lib.Dec.{eqb}
use lib.ListN.{get_or, set, length-set}
use lib.Seq.{ext_get_or, get_or-set_same, get_or-set_other}
use borrow.Author.Tests.{eq-eqb, ne_eqb, lt-ltb, eqb-true, eqb-false}
use Rattle.digits.specs.Lists.{tabulate}
use Rattle.digits.proofs.Lists.{get_d_tabulate, all-at}
use Rattle.field.specs.Bitmap.{bit, names}
use Rattle.message.specs.Build.{Item, has, bits, bitmap_for}
use Rattle.compose.specs.Compose.{with_bit}

-- a bit of a byte, as code has it
pub bit-value : (k : ℕ) → k < 8 → 1 * 2 ^ k % 256 ≡ 2 ^ k
bit-value k h = eqb-true _ _ (all-at (λ k. eqb (1 * 2 ^ k % 256) (2 ^ k)) 8 refl k h)

-- a bit that a byte does not have fits into it
bit-room : (k x : ℕ) → k < 8 → x < 256 → eqb (x / 2 ^ k % 2) 1 ≡ false → x + 2 ^ k < 256
bit-room zero x h l e = omega (arith, eqb-false (x / 1 % 2) 1 e)
bit-room (suc zero) x h l e = omega (arith, eqb-false (x / 2 % 2) 1 e)
bit-room (suc (suc zero)) x h l e = omega (arith, eqb-false (x / 4 % 2) 1 e)
bit-room (suc (suc (suc zero))) x h l e = omega (arith, eqb-false (x / 8 % 2) 1 e)
bit-room (suc (suc (suc (suc zero)))) x h l e = omega (arith, eqb-false (x / 16 % 2) 1 e)
bit-room (suc (suc (suc (suc (suc zero))))) x h l e = omega (arith, eqb-false (x / 32 % 2) 1 e)
bit-room (suc (suc (suc (suc (suc (suc zero)))))) x h l e = omega (arith, eqb-false (x / 64 % 2) 1 e)
bit-room (suc (suc (suc (suc (suc (suc (suc zero))))))) x h l e = omega (arith, eqb-false (x / 128 % 2) 1 e)
bit-room (suc (suc (suc (suc (suc (suc (suc (suc k)))))))) x h l e = absurd (omega arith)

module _ (bm : List ℕ) (n : ℕ) {t : Bool} (q : t ≡ names bm n) where
  pub bit_there : t ≡ true → bm ≡ with_bit n bm
  unfolding with_bit
  bit_there h = rw (sym q ∙ h)

  module _ {i : ℕ} (p : 0 < n) (v : i ≡ n) (h : t ≡ false) where
    bit-absent : eqb (get_or bm ((i - 1) / 8) 0 / 2 ^ (7 - (i - 1) % 8) % 2) 1 ≡ false
    unfolding names bit
    bit-absent = rw v (rw (lt-ltb 0 n p) at (sym q ∙ h))

    pub bit-fits : get_or bm ((i - 1) / 8) 0 < 256 → get_or bm ((i - 1) / 8) 0 + 1 * 2 ^ (7 - (i - 1) % 8) % 256 < 256
    bit-fits b = rw (bit-value (7 - (i - 1) % 8) (omega arith)) (bit-room (7 - (i - 1) % 8) _ (omega arith) b bit-absent)

    pub bit-set : set bm ((i - 1) / 8) (get_or bm ((i - 1) / 8) 0 + 1 * 2 ^ (7 - (i - 1) % 8) % 256) ≡ with_bit n bm
    unfolding with_bit
    bit-set = rw (bit-value (7 - (i - 1) % 8) (omega arith), v, sym q ∙ h)

-- a bitmap goes by which fields a list has
bits-same : (xs ys : List Item) → ((m : ℕ) → has ys m ≡ has xs m) → (n k : ℕ) → bits ys n k ≡ bits xs n k
bits-same xs ys e n zero = refl
bits-same xs ys e n (suc k) = rw (bits-same xs ys e (n - 1) k, e n)

pub bitmap-same : (xs ys : List Item) → ((m : ℕ) → has ys m ≡ has xs m) → bitmap_for ys ≡ bitmap_for xs
bitmap-same xs ys e = ap (tabulate 8) (fun_ext (λ j. bits-same xs ys e (8 * j + 8) 8))

-- the bits after b, k of them, where the list has one item more
module _ (x : Item) (xs : List Item) where
  has_other : (m : ℕ) → (x.number ≡ m → ⊥) → has (x ∷ xs) m ≡ has xs m
  has_other m h = rw (ne_eqb x.number m h)

  has-again : has xs x.number ≡ true → (m : ℕ) → has (x ∷ xs) m ≡ has xs m
  has-again h m = go (ℕ_discrete x.number m)
    where
      go : Dec (x.number ≡ m) → has (x ∷ xs) m ≡ has xs m
      go (yes e) = rw (eq-eqb x.number m e) (sym h ∙ ap (has xs) e)
      go (no e) = has_other m e

  bits_other : (b k : ℕ) → (b < x.number → b + k < x.number) → bits (x ∷ xs) (b + k) k ≡ bits xs (b + k) k
  bits_other b zero h = refl
  bits_other b (suc k) h =
      let q : b + suc k - 1 ≡ b + k = omega arith in
      rw (q, bits_other b k (λ l. let t = h l in omega arith), has_other (b + suc k) (λ e. let t = h (omega arith) in omega arith))

  bits-more : (b k : ℕ) → has xs x.number ≡ false → b < x.number → x.number ≤ b + k
      → bits (x ∷ xs) (b + k) k ≡ bits xs (b + k) k + 2 ^ (b + k - x.number)
  bits-more b zero h l g = absurd (omega arith)
  bits-more b (suc k) h l g =
      let q : b + suc k - 1 ≡ b + k = omega arith in
      rw q (go (bits-more b k h l) (ℕ_discrete x.number (b + suc k)))
    where
      go : (x.number ≤ b + k → bits (x ∷ xs) (b + k) k ≡ bits xs (b + k) k + 2 ^ (b + k - x.number)) → Dec (x.number ≡ b + suc k)
          → bits (x ∷ xs) (b + k) k * 2 + cond (has (x ∷ xs) (b + suc k)) 1 0
          ≡ bits xs (b + k) k * 2 + cond (has xs (b + suc k)) 1 0 + 2 ^ (b + suc k - x.number)
      go ih (yes e) =
          let z : b + suc k - x.number ≡ 0 = omega arith in
          rw (z, eq-eqb x.number (b + suc k) e, rw e at h, bits_other b k (λ t. omega arith), pow-zero 2) (omega arith)
      go ih (no e) =
          let s : b + suc k - x.number ≡ suc (b + k - x.number) = omega arith in
          rw (has_other (b + suc k) e, ih (omega arith), s, pow-suc 2 (b + k - x.number)) (omega arith)

front : (y : ℕ) (t : Bool) → (y * 2 + cond t 1 0) / 2 ≡ y
front y true = omega arith
front y false = omega arith

last : (y : ℕ) (t : Bool) → (y * 2 + cond t 1 0) / 2 ^ 0 % 2 ≡ cond t 1 0
last y true = omega arith
last y false = omega arith

-- bit d of the bits up to n says whether the list has field n - d
bits_at : (xs : List Item) (d n k : ℕ) → d < k → d ≤ n → bits xs n k / 2 ^ d % 2 ≡ cond (has xs (n - d)) 1 0
bits_at xs d n zero h l = absurd (not-suc-le-zero h)
bits_at xs zero n (suc k) h l = let q : n - 0 ≡ n = omega arith in rw q (last (bits xs (n - 1) k) (has xs n))
bits_at xs (suc d) n (suc k) h l =
    let q : n - suc d ≡ n - 1 - d = omega arith in
    rw (q, pow-succ' 2 d, ← div-div-eq-div-mul _ 2 (2 ^ d), front (bits xs (n - 1) k) (has xs n))
    (bits_at xs d (n - 1) k (omega arith) (omega arith))

-- byte j of a bitmap
byte_at : (xs : List Item) (j : ℕ) → j < 8 → get_or (bitmap_for xs) j 0 ≡ bits xs (8 * j + 8) 8
byte_at xs j h = get_d_tabulate 8 (λ j. bits xs (8 * j + 8) 8) j h

pub names-has : (xs : List Item) (n : ℕ) → 0 < n → n ≤ 64 → names (bitmap_for xs) n ≡ has xs n
unfolding names bit
names-has xs n p l =
    let i = n - 1 in
    let a : i / 8 < 8 = omega arith in
    let d : 7 - i % 8 < 8 = omega arith in
    let q : 8 * (i / 8) + 8 - (7 - i % 8) ≡ n = omega arith in
    rw (lt-ltb 0 n p, byte_at xs (i / 8) a, bits_at xs (7 - i % 8) (8 * (i / 8) + 8) 8 d (omega arith), q) (same (has xs n))
  where
    same : (t : Bool) → eqb (cond t 1 0) 1 ≡ t
    same true = refl
    same false = refl

-- the bitmap of one item more
pub bitmap-more : (x : Item) (xs : List Item) → 0 < x.number → x.number ≤ 64 → with_bit x.number (bitmap_for xs) ≡ bitmap_for (x ∷ xs)
unfolding with_bit
bitmap-more x xs p l = rw (names-has xs n p l) (go (has xs n) refl)
  where
    n : ℕ
    n = x.number

    j : ℕ
    j = (n - 1) / 8

    more : List ℕ
    more = set (bitmap_for xs) j (get_or (bitmap_for xs) j 0 + 2 ^ (7 - (n - 1) % 8))

    at : has xs n ≡ false → (i : ℕ) → i < 8 → Dec (i ≡ j) → get_or more i 0 ≡ bits (x ∷ xs) (8 * i + 8) 8
    at h i k (yes e) =
        let s : j < 8 = omega arith in
        let q : 8 * j + 8 - n ≡ 7 - (n - 1) % 8 = omega arith in
        rw e (get_or-set_same (bitmap_for xs) j _ 0 s ∙ ap (λ (y : ℕ). y + 2 ^ (7 - (n - 1) % 8)) (byte_at xs j s)
        ∙ sym (bits-more x xs (8 * j) 8 h (omega arith) (omega arith) ∙ rw q))
    at h i k (no e) =
        get_or-set_other (bitmap_for xs) j i _ 0 e ∙ byte_at xs i k ∙ sym (bits_other x xs (8 * i) 8 (λ t. omega arith))

    go : (t : Bool) → has xs n ≡ t → cond t (bitmap_for xs) more ≡ bitmap_for (x ∷ xs)
    go true h = sym (bitmap-same xs (x ∷ xs) (has-again x xs h))
    go false h =
        ext_get_or 0 more (bitmap_for (x ∷ xs)) (length-set (bitmap_for xs) j _)
        (λ i k. let s : i < 8 = omega (arith, length-set (bitmap_for xs) j (get_or (bitmap_for xs) j 0 + 2 ^ (7 - (n - 1) % 8))) in
        at h i s (ℕ_discrete i j) ∙ sym (byte_at (x ∷ xs) i s))
