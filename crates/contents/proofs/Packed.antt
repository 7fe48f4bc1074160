-- Packed digits tested by whole bytes.
use mathlib.Core.Path.{◌≡◌, sym, ◌∙◌}
use mathlib.Core.List.{List}
use mathlib.Core.Bool.{true, false, and-false}
use Prim.Native.Nat.{ℕ, ◌+◌, ◌*◌, ◌/◌, ◌%◌, ◌≤◌, ◌<◌}
use native.Mathlib.Omega.{arith}
use native.Mathlib.Decide.{dec_lt}
use lib.Dec.{leb, eqb}
use lib.ListN.{length, get_or}
use borrow.Author.Tests.{ne_eqb}
use Rattle.digits.specs.Digits.{bytes_for, half_allowed, is_packed}
use Rattle.digits.proofs.Lists.{all_fails, all-at, all_true, Passed, Filled, filled-done, tabulate_get_d}
use Rattle.digits.proofs.Packing.{half-left, half_right, allowed_digit, allowed-filler, digit_fails, passed_byte, packed_even, packed_odd}

-- a loop that copies b has copied all of it
pub copied_all : {b d l : List ℕ} {i : ℕ} → Filled (λ k. get_or b k 0) d i l → length b ≤ i → length d ≡ length b → l ≡ b
copied_all {b} {d} {l} {i} r h e = filled-done r (omega (arith, r.len)) ∙ rw e (tabulate_get_d b)

module _ (n : ℕ) (b : List ℕ) where
  -- a byte with a half byte above 9, the filler's half byte among them
  pub high_fails : (j : ℕ) → j < bytes_for n → 0x9F < get_or b j 0 → is_packed n b ≡ false
  high_fails j l h = digit_fails n b (2 * j) (omega arith) (rw half-left (omega arith))

  pub low_fails : (j : ℕ) → j < bytes_for n → 9 < get_or b j 0 % 16 → is_packed n b ≡ false
  unfolding is_packed
  low_fails j l h = go (dec_lt (2 * j + 1) n)
    where
      go : Dec (2 * j + 1 < n) → is_packed n b ≡ false
      go (yes k) = digit_fails n b (2 * j + 1) k (rw half_right h)
      go (no k) =
          rw (
            all_fails (half_allowed n b) (2 * bytes_for n) (2 * j + 1) (omega arith)
                (allowed-filler n b (2 * j + 1) (omega arith) ∙ rw half_right (ne_eqb (get_or b j 0 % 16) 0 (λ e. omega arith))),
            and-false,
          )

  -- one more byte of two digits
  pub byte_passes : (j : ℕ) → Passed (half_allowed (2 * length b) b) (2 * j) → j < length b → get_or b j 0 ≤ 0x9F → get_or b j 0 % 16 ≤ 9
      → Passed (half_allowed (2 * length b) b) (2 * (j + 1))
  byte_passes j r l h k = passed_byte (2 * length b) b j r (omega arith) (omega arith) k

  module _ (i : ℕ) (r : Passed (half_allowed (2 * length b) b) (2 * i)) (e : length b ≡ bytes_for n) (q : i ≡ length b) where
    pub whole_even : n % 2 ≡ 0 → is_packed n b ≡ true
    whole_even h =
        let m : 2 * length b ≡ n = omega arith in
        packed_even n b i (rw m at r) e (omega arith)

    -- after an odd count the last half byte decides
    pub whole_odd : (n % 2 ≡ 0 → ⊥) → is_packed n b ≡ eqb (get_or b (n / 2) 0 % 16) 0
    whole_odd h =
        packed_odd n b (n / 2) (record { holds = all_true (half_allowed n b) (2 * (n / 2)) front }) e (omega arith) ∙ rw left
      where
        passes : (k : ℕ) → k < 2 * i → half_allowed (2 * length b) b k ≡ true
        passes k l = all-at (half_allowed (2 * length b) b) (2 * i) r.holds k l

        left : leb (get_or b (n / 2) 0 / 16) 9 ≡ true
        left =
            rw (← half-left b (n / 2))
            (sym (allowed_digit (2 * length b) b (2 * (n / 2)) (omega arith)) ∙ passes (2 * (n / 2)) (omega arith))

        front : (k : ℕ) → k < 2 * (n / 2) → half_allowed n b k ≡ true
        front k l = allowed_digit n b k (omega arith) ∙ sym (allowed_digit (2 * length b) b k (omega arith)) ∙ passes k (omega arith)
