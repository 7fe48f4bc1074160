-- Laws of what words say.
use Rattle.std.specs.Prelude.{Some, None, Option, unwrap_or}
use mathlib.Core.Path.{◌≡◌, refl}
use mathlib.Core.List.{List}
use mathlib.Core.Bool.{Bool, true, false, cond, ◌&&◌}
use Prim.Native.Nat.{ℕ, ◌≤◌, ◌<◌, ◌^◌}
use native.Mathlib.Nat.{pow-le-pow_right, pow-zero}
use native.Mathlib.Omega.{arith}
use borrow.Author.Tests.{leb-true}
use lib.Dec.{leb}
use lib.ListN.{length, get_or}
use Rattle.digits.specs.Digits.{all_digits}
use Rattle.digits.specs.Lists.{tabulate}
use Rattle.digits.specs.Numbers.{value, number_of}
use Rattle.digits.proofs.Lists.{length-tabulate}
use Rattle.digits.proofs.Numbers.{value-below}
use Rattle.word_values.specs.Values.{digit_of, number_in, up_to, number_up_to}

at_most : (most : ℕ) (x : Option ℕ) → unwrap_or (up_to most x) 0 ≤ most
at_most most (Some x) = go (leb x most) refl
  where
    go : (b : Bool) → leb x most ≡ b → unwrap_or (cond (leb x most) (Some x) None) 0 ≤ most
    go true e = rw e (leb-true x most e)
    go false e = rw e (omega arith)
at_most most None = omega arith

-- a number that is at most so much, or 0
pub up_to_most : (most : ℕ) (w : List ℕ) → unwrap_or (number_up_to most w) 0 ≤ most
unfolding number_up_to
up_to_most most w = at_most most (number_in 18 w)

pow_above : (n : ℕ) → 0 < 10 ^ n
pow_above n = omega (arith, pow-zero 10, pow-le-pow_right {n = 10} (omega arith) {i = 0} {j = n} (omega arith))

-- n digits say a number below 10 ^ n
digits-below : (n : ℕ) (ds : List ℕ) → length ds ≤ n → unwrap_or (number_of ds) 0 < 10 ^ n
unfolding number_of
digits-below n ds h = go (leb (length ds) 19) (all_digits ds) refl
  where
    go : (a b : Bool) → all_digits ds ≡ b → unwrap_or (cond (a && b) (Some (value ds)) None) 0 < 10 ^ n
    go true true e = omega (arith, value-below ds e, pow-le-pow_right {n = 10} (omega arith) h)
    go true false e = pow_above n
    go false b e = pow_above n

module _ (n : ℕ) (w : List ℕ) where
  pub number_below : unwrap_or (number_in n w) 0 < 10 ^ n
  unfolding number_in
  number_below = go (leb 1 (length w)) (leb (length w) n) refl
    where
      go : (a b : Bool) → leb (length w) n ≡ b
          → unwrap_or (cond (a && b) (number_of (tabulate (length w) (λ i. digit_of (get_or w i 0)))) None) 0 < 10 ^ n
      go true true e = digits-below n _ (rw length-tabulate (leb-true (length w) n e))
      go true false e = pow_above n
      go false b e = pow_above n

  -- a word that is a number is no longer than it may be
  pub number_length : {x : ℕ} → number_in n w ≡ Some x → length w ≤ n
  unfolding number_in
  number_length {x} e = go (leb 1 (length w)) (leb (length w) n) refl e
    where
      go : (a b : Bool) → leb (length w) n ≡ b
          → cond (a && b) (number_of (tabulate (length w) (λ i. digit_of (get_or w i 0)))) None ≡ Some x → length w ≤ n
      go a true e q = leb-true (length w) n e
      go true false e q = let z : ◌≡◌ {A = ℕ} 0 1 = cc in absurd (omega arith)
      go false false e q = let z : ◌≡◌ {A = ℕ} 0 1 = cc in absurd (omega arith)
