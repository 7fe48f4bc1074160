-- Laws of hexadecimal text.
use Rattle.std.specs.Prelude.{Ok, Err, Result}
use mathlib.Core.Path.{◌≡◌, refl}
use mathlib.Core.List.{List}
use mathlib.Core.Bool.{Bool, true, false, cond, and-eq-true_iff}
use Prim.Native.Nat.{ℕ, ◌+◌, ◌*◌, ◌/◌, ◌%◌, ◌≤◌, ◌<◌}
use native.Mathlib.Omega.{arith}
use lib.Dec.{leb, ltb, eqb}
use lib.ListN.{length, get_or}
use borrow.Author.Tests.{ltb-true, leb-true, eqb-true}
use Rattle.digits.specs.Lists.{all}
use Rattle.digits.proofs.Lists.{length-tabulate, all-at}
use Rattle.hexadecimal.specs.Hexadecimal.{hex_value, is_hex, from_hex, to_hex}
use Rattle.hexadecimal.specs.Outcome.{hex_outcome}
use Rattle.hexadecimal.specs.declared.HexError.{HexError}
use Rattle.hexadecimal.specs.declared.HexError.TheVariants.{NotHexadecimal, TooLong}

-- place i of s holds a hexadecimal digit
abbrev pub is_hex_digit : List ℕ → ℕ → Bool
is_hex_digit s i = ltb (hex_value (get_or s i 0)) 16

-- byte j of what s says
abbrev pub byte_at : List ℕ → ℕ → ℕ
byte_at s j = hex_value (get_or s (2 * j) 0) * 16 + hex_value (get_or s (2 * j + 1) 0)

module _ (s : List ℕ) where
  pub hex_even : is_hex s ≡ true → length s % 2 ≡ 0
  unfolding is_hex
  hex_even h = eqb-true _ _ ((and-eq-true_iff (eqb (length s % 2) 0) (all (length s) (is_hex_digit s))).0 h).0

  pub hex_value-below : is_hex s ≡ true → (i : ℕ) → i < length s → hex_value (get_or s i 0) < 16
  unfolding is_hex
  hex_value-below h i l =
      ltb-true _ _
      (all-at (is_hex_digit s) (length s) ((and-eq-true_iff (eqb (length s % 2) 0) (all (length s) (is_hex_digit s))).0 h).1 i l)

  -- the two digits of byte j
  pub hex_pair : is_hex s ≡ true → (j : ℕ) → j < length s / 2
      → (hex_value (get_or s (2 * j) 0) < 16) × (hex_value (get_or s (2 * j + 1) 0) < 16)
  hex_pair h j l =
      let e = hex_even h in
      (hex_value-below h (2 * j) (omega arith), hex_value-below h (2 * j + 1) (omega arith))

  pub length-from_hex : length (from_hex s) ≡ length s / 2
  unfolding from_hex
  length-from_hex = length-tabulate _ _

  pub length-to_hex : length (to_hex s) ≡ 2 * length s
  unfolding to_hex
  length-to_hex = length-tabulate _ _

  -- the bytes fit
  pub outcome_fits : (room : ℕ) {n : ℕ} → hex_outcome s room ≡ Ok n → n ≤ room
  unfolding hex_outcome
  outcome_fits room {n} e = go (is_hex s) (leb (length s / 2) room) refl e
    where
      go : (t u : Bool) → leb (length s / 2) room ≡ u → ◌≡◌ {A = Result ℕ HexError} (cond t (cond u (Ok (length s / 2)) (Err TooLong)) (Err NotHexadecimal)) (Ok n) → n ≤ room
      go true true q e = let z : length s / 2 ≡ n = cc in omega (arith, leb-true (length s / 2) room q)
      go true false q e = let z : ◌≡◌ {A = ℕ} 0 1 = cc in absurd (omega arith)
      go false u q e = let z : ◌≡◌ {A = ℕ} 0 1 = cc in absurd (omega arith)
