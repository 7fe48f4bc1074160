-- Laws of numbers in decimal.
use mathlib.Core.Path.{◌≡◌}
use Prim.Native.Nat.{ℕ, zero, suc, ◌+◌, ◌-◌, ◌/◌, ◌%◌, ◌^◌, ◌≤◌, ◌<◌}
use native.Mathlib.Omega.{arith}
use native.Mathlib.Nat.{not-suc-le-zero, one-le-pow, pow-le-pow_right}
use native.Mathlib.Decide.{dec_lt}
use borrow.Author.Tests.{lt-ltb, le-ltb}
use Rattle.io.specs.Digits.{last_digits, hex_digit_ascii, IsDigitCount}
use Rattle.texts.specs.Decimal.{decimal_of, decimal}

digit_glyph : (x : ℕ) → hex_digit_ascii (x % 10) ≡ x % 10 + 0x30
digit_glyph x = rw (lt-ltb (x % 10) 10 (omega arith)) (omega arith)

-- the fewest digits that hold x are its decimal text
decimal-digits : (m k x : ℕ) → k ≤ m → IsDigitCount 10 1 x k → last_digits 10 k x ≡ decimal_of m x
unfolding decimal_of
decimal-digits m zero x h f = absurd (not-suc-le-zero f.0)
decimal-digits zero (suc k) x h f = absurd (not-suc-le-zero h)
decimal-digits (suc m) (suc zero) x h f =
    let l : x < 10 = omega (arith, f.1) in
    let q : x % 10 ≡ x = omega arith in
    rw (digit_glyph x, lt-ltb x 10 l, q)
decimal-digits (suc m) (suc (suc k)) x h f =
    let e : suc (suc k) - 1 ≡ suc k = omega arith in
    let g : 10 ^ suc k ≤ x = rw e at (f.2 (omega arith)) in
    let p = one-le-pow k 10 (omega arith) in
    rw (digit_glyph x, le-ltb x 10 (omega arith), decimal-digits m (suc k) (x / 10) (omega arith) (rest e g p))
  where
    rest : suc (suc k) - 1 ≡ suc k → 10 ^ suc k ≤ x → 1 ≤ 10 ^ k → IsDigitCount 10 1 (x / 10) (suc k)
    rest e g p = let z : suc k - 1 ≡ k = omega arith in (omega arith, omega (arith, f.1), λ l. rw z (omega arith))

-- 20 digits hold every number of 64 bits
few-digits : (k x : ℕ) → x < 18446744073709551616 → IsDigitCount 10 1 x k → k ≤ 20
few-digits k x h f = go (dec_lt 20 k)
  where
    go : Dec (20 < k) → k ≤ 20
    go (yes l) =
        let p : 10 ^ 20 ≤ 10 ^ (k - 1) = pow-le-pow_right {n = 10} (omega arith) {i = 20} {j = k - 1} (omega arith) in
        absurd (omega (arith, f.2 (omega arith)))
    go (no l) = omega arith

pub decimal-is : (k x : ℕ) → x < 18446744073709551616 → IsDigitCount 10 1 x k → last_digits 10 k x ≡ decimal x
unfolding decimal
decimal-is k x h f = decimal-digits 20 k x (few-digits k x h f) f
