-- Laws of digits as text.
use mathlib.Core.Path.{◌≡◌, ◌∙◌}
use mathlib.Core.List.{List, ◌++◌}
use mathlib.Core.Bool.{Bool, true, false, cond}
use Prim.Native.Nat.{ℕ, ◌/◌, ◌%◌, ◌≤◌, ◌<◌}
use native.Mathlib.Omega.{arith}
use lib.Dec.{eqb}
use lib.ListN.{length, get_or, take, drop}
use lib.Seq.{take_at, length-take-le}
use Rattle.digits.specs.Digits.{half}
use Rattle.digits.proofs.Lists.{length-tabulate}
use Rattle.masking.specs.Masking.{symbol, digits_text}

-- a half byte is below 16
pub half_below : (s : List ℕ) (i : ℕ) → get_or s (i / 2) 0 < 256 → half s i < 16
unfolding half
half_below s i h = go (eqb (i % 2) 0)
  where
    go : (t : Bool) → cond t (get_or s (i / 2) 0 / 16) (get_or s (i / 2) 0 % 16) < 16
    go true = omega arith
    go false = omega arith

digits-length : (card : Bool) (n : ℕ) (b : List ℕ) → length (digits_text card n b) ≡ n
unfolding digits_text
digits-length card n b = length-tabulate n (symbol card n b)

-- n digits e at the front of an array z that was lent
module _ (card : Bool) (n : ℕ) (b e z : List ℕ) (h : n ≤ length z) (d : e ≡ digits_text card (length (take n z)) b) where
  front : e ≡ digits_text card n b
  front = d ∙ rw (length-take-le n z h)

  front_length : length e ≡ n
  front_length = rw front (digits-length card n b)

  pub front-is : take n (e ++ drop n z) ≡ digits_text card n b
  front-is = take_at e (drop n z) n front_length ∙ front
