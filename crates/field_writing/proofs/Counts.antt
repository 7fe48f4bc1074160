-- A field's length as bytes, and numbers stored at the front of bytes.
use mathlib.Core.Path.{◌≡◌, refl, ap}
use mathlib.Core.List.{List, [], ◌∷◌}
use Prim.Native.Nat.{ℕ, ◌+◌, ◌*◌, ◌/◌, ◌%◌, ◌≤◌, ◌<◌}
use native.Mathlib.Omega.{arith}
use lib.ListN.{length, drop, set}
use Rattle.digits.specs.Digits.{pack, packed_byte}
use Rattle.digits.specs.Numbers.{digits_of}

pub one_byte : (n : ℕ) → pack (digits_of 2 n) ≡ (n / 10 % 10 * 16 + n % 10) ∷ []
unfolding pack packed_byte
one_byte n = refl

pub two_bytes : (n : ℕ) → n < 256 → pack (digits_of 4 n) ≡ n / 100 ∷ (n / 10 % 10 * 16 + n % 10) ∷ []
unfolding pack packed_byte
two_bytes n h =
    let e : n / 10 / 10 / 10 % 10 * 16 + n / 10 / 10 % 10 ≡ n / 100 = omega arith in
    rw e

pub set_first : (o : List ℕ) (a : ℕ) → 1 ≤ length o → set o 0 a ≡ a ∷ drop 1 o
set_first [] a h = absurd (omega arith)
set_first (x ∷ o) a h = refl

pub set-two : (o : List ℕ) (a b : ℕ) → 2 ≤ length o → set (set o 0 a) 1 b ≡ a ∷ b ∷ drop 2 o
set-two [] a b h = absurd (omega arith)
set-two (x ∷ o) a b h = ap (λ (t : List ℕ). a ∷ t) (set_first o b (omega arith))
