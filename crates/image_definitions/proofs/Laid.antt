-- Laws of numbers laid one after another in bytes, for any table of widths.
use mathlib.Core.Path.{◌≡◌, refl, ap, sym, ◌∙◌}
use mathlib.Core.List.{List, [], ◌∷◌, ◌++◌, append_assoc, append-nil}
use Prim.Native.Nat.{ℕ, zero, suc, ◌+◌, ◌*◌, ◌-◌, ◌/◌, ◌%◌, ◌^◌, ◌≤◌, ◌<◌}
use native.Mathlib.Nat.{pow-suc, pow-zero}
use native.Mathlib.Numerals.{add-one}
use native.Mathlib.Omega.{arith}
use lib.ListN.{length, get_or, take, drop, set, length-append, length-drop, length-set, drop_of_length-le}
use lib.Seq.{get_or_at, get_or-drop, get_or-set_same, drop_at, drop-cons, drop-drop, drop-length, drop-set-lt, length-take-le, take-add, take_all, take_at, take-suc, take-suc-set, append_snoc}
use borrow.Rule.Slice.PartMut.{put_mid, same_len_mid}
use Rattle.field.specs.Bitmap.{word_of}
use Rattle.parts.specs.Layout.{sum}
use Rattle.image_definitions.specs.Layout.{bytes_of, laid_in, numbers_in}
use Rattle.image_definitions.specs.Sized.{Bytes}

pub length_bytes_of : (n x : ℕ) → length (bytes_of n x) ≡ n
unfolding bytes_of
length_bytes_of zero x = refl
length_bytes_of (suc n) x = length-append (bytes_of n (x / 256)) (x % 256 ∷ []) ∙ omega (arith, length_bytes_of n (x / 256))

-- the bytes of a number say that number, whatever stands after them
pub word_bytes : (n x : ℕ) (rest : List ℕ) → x < 256 ^ n → word_of n (bytes_of n x ++ rest) ≡ x
unfolding bytes_of
word_bytes zero x rest h = omega (arith, pow-zero 256)
word_bytes (suc n) x rest h =
    rw (
      append_assoc (bytes_of n (x / 256)) (x % 256 ∷ []) rest,
      word_bytes n (x / 256) (x % 256 ∷ rest) (omega (arith, pow-suc 256 n)),
      get_or_at (bytes_of n (x / 256)) (x % 256) rest 0 n (length_bytes_of n (x / 256)),
    )
    (omega arith)

-- the number that n bytes say has these last n bytes
pub bytes_word : (n : ℕ) (b : List ℕ) → Bytes b → n ≤ length b → bytes_of n (word_of n b) ≡ take n b
unfolding bytes_of
bytes_word zero b s h = refl
bytes_word (suc n) b s h =
    let q : (word_of n b * 256 + get_or b n 0) / 256 ≡ word_of n b = omega (arith, s n) in
    let m : (word_of n b * 256 + get_or b n 0) % 256 ≡ get_or b n 0 = omega (arith, s n) in
    rw (q, m, bytes_word n b s (omega arith)) (sym (take-suc b n 0 h))

pub word_below : (n : ℕ) (b : List ℕ) → Bytes b → word_of n b < 256 ^ n
word_below zero b s = omega (arith, pow-zero 256)
word_below (suc n) b s = omega (arith, word_below n b s, pow-suc 256 n, s n)

pub drop-bytes : (n : ℕ) (b : List ℕ) → Bytes b → Bytes (drop n b)
drop-bytes n b s i = rw (get_or-drop n b i 0) (s (n + i))

pub append-bytes : (a b : List ℕ) → Bytes a → Bytes b → Bytes (a ++ b)
append-bytes [] b s t i = t i
append-bytes (x ∷ a) b s t zero = s 0
append-bytes (x ∷ a) b s t (suc i) = append-bytes a b (λ j. s (suc j)) t i

one_byte : (x : ℕ) → Bytes (x % 256 ∷ [])
one_byte x zero = omega arith
one_byte x (suc i) = omega arith

pub bytes_of_bytes : (n x : ℕ) → Bytes (bytes_of n x)
unfolding bytes_of
bytes_of_bytes zero x i = omega arith
bytes_of_bytes (suc n) x i = append-bytes (bytes_of n (x / 256)) (x % 256 ∷ []) (bytes_of_bytes n (x / 256)) (one_byte x) i

pub length-laid : (ws xs : List ℕ) → length (laid_in ws xs) ≡ sum ws
length-laid [] xs = refl
length-laid (w ∷ ws) xs =
    length-append (bytes_of w (get_or xs 0 0)) (laid_in ws (drop 1 xs)) ∙ rw (length_bytes_of, length-laid ws (drop 1 xs))

-- there is a number for each width, and it fits
abbrev pub Fits : List ℕ → List ℕ → Type 0
Fits [] [] = Unit {0}
Fits [] (x ∷ xs) = ⊥
Fits (w ∷ ws) [] = ⊥
Fits (w ∷ ws) (x ∷ xs) = (x < 256 ^ w) × Fits ws xs

pub fits-append : (ws xs vs ys : List ℕ) → Fits ws xs → Fits vs ys → Fits (ws ++ vs) (xs ++ ys)
fits-append [] [] vs ys f g = g
fits-append [] (x ∷ xs) vs ys f g = absurd f
fits-append (w ∷ ws) [] vs ys f g = absurd f
fits-append (w ∷ ws) (x ∷ xs) vs ys f g = (f.0, fits-append ws xs vs ys f.1 g)

-- numbers that fit, laid and read, are the numbers, whatever stands after them
pub numbers-laid : (ws xs rest : List ℕ) → Fits ws xs → numbers_in ws (laid_in ws xs ++ rest) ≡ xs
numbers-laid [] [] rest f = refl
numbers-laid [] (x ∷ xs) rest f = absurd f
numbers-laid (w ∷ ws) [] rest f = absurd f
numbers-laid (w ∷ ws) (x ∷ xs) rest f =
    rw (
      append_assoc (bytes_of w x) (laid_in ws xs) rest,
      word_bytes w x (laid_in ws xs ++ rest) f.0,
      drop_at (bytes_of w x) (laid_in ws xs ++ rest) w (length_bytes_of w x),
      numbers-laid ws xs rest f.1,
    )

-- the numbers that bytes say, laid again, are those bytes
pub laid-numbers : (ws b : List ℕ) → Bytes b → sum ws ≤ length b → laid_in ws (numbers_in ws b) ≡ take (sum ws) b
laid-numbers [] b s h = refl
laid-numbers (w ∷ ws) b s h =
    let l : sum ws ≤ length (drop w b) = rw length-drop (omega (arith, h)) in
    rw (bytes_word w b s (omega (arith, h)), laid-numbers ws (drop w b) (drop-bytes w b s) l) (sym (take-add w (sum ws) b))

-- a number read fits its width
pub numbers-below : (ws b : List ℕ) → Bytes b → (i : ℕ) → get_or (numbers_in ws b) i 0 < 256 ^ get_or ws i 0
numbers-below [] b s i = omega (arith, pow-zero 256)
numbers-below (w ∷ ws) b s zero = word_below w b s
numbers-below (w ∷ ws) b s (suc i) = numbers-below ws (drop w b) (drop-bytes w b s) i

-- what a loop that writes a number's bytes from the last keeps
pub record Spelled (n x : ℕ) (i y : ℕ) (l : List ℕ) : Type 0 where
  pub bound : i ≤ n
  pub len : length l ≡ n
  pub eq : bytes_of n x ≡ bytes_of i y ++ drop i l

pub spelled_none : (x : ℕ) (l : List ℕ) → Spelled (length l) x (length l) x l
spelled_none x l = record { bound = omega arith; len = refl; eq = sym (rw (drop-length, append-nil)) }

spelled_suc : {n x i y : ℕ} {l : List ℕ} → Spelled n x (suc i) y l → Spelled n x i (y / 256) (set l i (y % 256))
unfolding bytes_of
spelled_suc {n} {x} {i} {y} {l} r =
    record {
      bound = omega arith;
      len = simp length-set r.len;
      eq = r.eq ∙ append_assoc (bytes_of i (y / 256)) (y % 256 ∷ []) (drop (suc i) l) ∙ ap (λ (t : List ℕ). bytes_of i (y / 256) ++ t) (sym tail);
    }
  where
    tail : drop i (set l i (y % 256)) ≡ y % 256 ∷ drop (suc i) l
    tail =
        rw (
          drop-cons (set l i (y % 256)) i 0 (simp length-set (omega arith)),
          get_or-set_same l i (y % 256) 0 (omega arith),
          drop-set-lt (suc i) l i (y % 256) (omega arith),
        )

pub spelled_more : {n x i y : ℕ} {l : List ℕ} → Spelled n x i y l → 0 < i → Spelled n x (i - 1) (y / 256) (set l (i - 1) (y % 256))
spelled_more {n} {x} {i} r h = let e : i ≡ suc (i - 1) = omega arith in spelled_suc (rw e at r)

pub spelled_done : {n x i y : ℕ} {l : List ℕ} → Spelled n x i y l → i ≤ 0 → l ≡ bytes_of n x
unfolding bytes_of
spelled_done {n} {x} {i} r h = let e : i ≡ 0 = omega arith in sym (r.eq ∙ rw e)

-- the place of row k: the rows before it fill the bytes before it
pub record Placed (ws : List ℕ) (at k : ℕ) : Type 0 where
  pub left : at + sum (drop k ws) ≡ sum ws

pub placed-none : (ws : List ℕ) → Placed ws 0 0
placed-none ws = record { left = omega arith }

module _ {ws : List ℕ} {at k : ℕ} (p : Placed ws at k) (h : k < length ws) where
  place-sum : sum (drop k ws) ≡ get_or ws k 0 + sum (drop (k + 1) ws)
  place-sum = rw (add-one, drop-cons ws k 0 h)

  pub placed-more : Placed ws (at + get_or ws k 0) (k + 1)
  placed-more = record { left = omega (arith, p.left, place-sum) }

  pub placed-within : at + get_or ws k 0 ≤ sum ws
  placed-within = omega (arith, p.left, place-sum)

-- what a loop that reads the rows keeps
pub record ReadTo (ws b : List ℕ) (at k : ℕ) (xs : List ℕ) : Type 0 where
  pub place : Placed ws at k
  pub len : length xs ≡ length ws
  pub eq : take k xs ++ numbers_in (drop k ws) (drop at b) ≡ numbers_in ws b

pub read_none : (ws b xs : List ℕ) → length xs ≡ length ws → ReadTo ws b 0 0 xs
read_none ws b xs l = record { place = placed-none ws; len = l; eq = refl }

pub read_more : {ws b xs : List ℕ} {at k : ℕ} → ReadTo ws b at k xs → k < length ws
    → ReadTo ws b (at + get_or ws k 0) (k + 1) (set xs k (word_of (get_or ws k 0) (drop at b)))
read_more {ws} {b} {xs} {at} {k} r h =
    record {
      place = placed-more r.place h;
      len = length-set xs k _ ∙ r.len;
      eq = rw (add-one, take-suc-set xs k (word_of w (drop at b)) (omega (arith, r.len)), append_snoc, ← drop-drop w at b) (rw (drop-cons ws k 0 h) at r.eq);
    }
  where
    w : ℕ
    w = get_or ws k 0

pub read_done : {ws b xs : List ℕ} {at k : ℕ} → ReadTo ws b at k xs → length ws ≤ k → xs ≡ numbers_in ws b
read_done {ws} {b} {xs} {at} {k} r h =
    rw (drop_of_length-le ws {i = k} h, take_all k xs (omega (arith, r.len)), append-nil) at r.eq

-- what a loop that writes the rows keeps
pub record WrittenTo (ws xs : List ℕ) (at k : ℕ) (out : List ℕ) : Type 0 where
  pub place : Placed ws at k
  pub len : length out ≡ sum ws
  pub eq : take at out ++ laid_in (drop k ws) (drop k xs) ≡ laid_in ws xs

pub written_none : (ws xs out : List ℕ) → length out ≡ sum ws → WrittenTo ws xs 0 0 out
written_none ws xs out l = record { place = placed-none ws; len = l; eq = refl }

laid_step : (ws xs : List ℕ) (k : ℕ) → k < length ws
    → laid_in (drop k ws) (drop k xs) ≡ bytes_of (get_or ws k 0) (get_or xs k 0) ++ laid_in (drop (k + 1) ws) (drop (k + 1) xs)
laid_step ws xs k h =
    let z : k + 0 ≡ k = omega arith in
    rw (drop-cons ws k 0 h, get_or-drop k xs 0 0, z, drop-drop 1 k xs, add-one k)

pub written-more : {ws xs out e : List ℕ} {at k : ℕ} → WrittenTo ws xs at k out → k < length ws
    → e ≡ bytes_of (length (take (at + get_or ws k 0 - at) (drop at out))) (get_or xs k 0)
    → WrittenTo ws xs (at + get_or ws k 0) (k + 1) (put_mid at (at + get_or ws k 0 - at) out e)
written-more {ws} {xs} {out} {e} {at} {k} r h q =
    record {
      place = placed-more r.place h;
      len = same_len_mid at (at + w - at) out e (ap length q ∙ length_bytes_of _ (get_or xs k 0)) ∙ r.len;
      eq = rw (front, append_assoc, e-is, ← laid_step ws xs k h) r.eq;
    }
  where
    w : ℕ
    w = get_or ws k 0

    fits : at + w ≤ length out
    fits = omega (arith, r.len, placed-within r.place h)

    d : at + w - at ≡ w
    d = omega arith

    e-is : e ≡ bytes_of w (get_or xs k 0)
    e-is = q ∙ rw (d, length-take-le w (drop at out) (rw length-drop (omega (arith, fits))))

    front_length : length (take at out ++ e) ≡ at + w
    front_length = length-append (take at out) e ∙ rw (length-take-le at out (omega (arith, fits)), e-is, length_bytes_of)

    front : take (at + w) (put_mid at (at + w - at) out e) ≡ take at out ++ e
    front = rw (← append_assoc (take at out) e (drop (at + w - at) (drop at out))) (take_at (take at out ++ e) _ (at + w) front_length)

pub written-done : {ws xs out : List ℕ} {at k : ℕ} → WrittenTo ws xs at k out → length ws ≤ k → out ≡ laid_in ws xs
written-done {ws} {xs} {out} {at} {k} r h =
    let n = drop_of_length-le ws {i = k} h in
    let a = rw n at r.place.left in
    rw (n, take_all at out (omega (arith, r.len, a)), append-nil) at r.eq
