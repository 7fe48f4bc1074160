-- The trace's digits as characters.
use mathlib.Core.Path.{◌≡◌, refl}
use mathlib.Core.List.{List}
use mathlib.Core.Bool.{Bool, true, false, cond, ◌&&◌}
use Prim.Native.Nat.{ℕ, ◌+◌, ◌*◌, ◌/◌, ◌%◌, ◌<◌}
use native.Mathlib.Omega.{arith}
use native.Mathlib.Decide.{dec_lt}
use lib.Dec.{leb, ltb, eqb}
use lib.ListN.{length, get_or}
use borrow.Author.Tests.{le-leb, ltb-true}
use Rattle.digits.specs.Digits.{bytes_for, packed_byte, pack, all_digits}
use Rattle.digits.specs.Numbers.{digits_of}
use Rattle.digits.proofs.Lists.{get_d_past, get_d_tabulate, all_true}
use Rattle.digits.proofs.Packing.{length-pack, get_d_pack, digit_at}
use Rattle.digits.proofs.Numbers.{digits_of_digits}
use Rattle.field.specs.Contents.{all_printable}
use Rattle.message.specs.declared.Message.{Message}
use Rattle.digits.proofs.Packed.{length-number}
use Rattle.hexadecimal.specs.Hexadecimal.{hex_digit, hex_at, to_hex}
use Rattle.hexadecimal.proofs.Hexadecimal.{length-to_hex}
use Rattle.centre.specs.Centre.{sent_number, trace_figures}

abbrev is_printable : ℕ → Bool
is_printable c = leb 0x20 c && leb c 0x7E

digit_printable : (x : ℕ) → x < 16 → is_printable (hex_digit x) ≡ true
unfolding hex_digit
digit_printable x h = go (ltb x 10) refl
  where
    go : (t : Bool) → ltb x 10 ≡ t → is_printable (cond t (x + 0x30) (x + 0x37)) ≡ true
    go true e = let l = ltb-true x 10 e in rw (le-leb 0x20 (x + 0x30) (omega arith), le-leb (x + 0x30) 0x7E (omega arith))
    go false e = rw (le-leb 0x20 (x + 0x37) (omega arith), le-leb (x + 0x37) 0x7E (omega arith))

character-printable : (s : List ℕ) → ((j : ℕ) → get_or s j 0 < 256) → (i : ℕ) → is_printable (hex_at s i) ≡ true
unfolding hex_at
character-printable s b i = go (eqb (i % 2) 0)
  where
    go : (t : Bool) → is_printable (cond t (hex_digit (get_or s (i / 2) 0 / 16)) (hex_digit (get_or s (i / 2) 0 % 16))) ≡ true
    go true = digit_printable (get_or s (i / 2) 0 / 16) (omega (arith, b (i / 2)))
    go false = digit_printable (get_or s (i / 2) 0 % 16) (omega arith)

hex_printable : (s : List ℕ) → ((j : ℕ) → get_or s j 0 < 256) → all_printable (to_hex s) ≡ true
unfolding all_printable to_hex
hex_printable s b =
    all_true (λ i. is_printable (get_or (to_hex s) i 0)) (length (to_hex s))
    (λ i h. rw (get_d_tabulate (2 * length s) (hex_at s) i (omega (arith, length-to_hex s))) (character-printable s b i))

packed-small : (ds : List ℕ) → all_digits ds ≡ true → (j : ℕ) → get_or (pack ds) j 0 < 256
unfolding packed_byte
packed-small ds a j = go (dec_lt j (bytes_for (length ds)))
  where
    go : Dec (j < bytes_for (length ds)) → get_or (pack ds) j 0 < 256
    go (yes l) = rw (get_d_pack ds j l) (omega (arith, digit_at ds a (2 * j), digit_at ds a (2 * j + 1)))
    go (no l) = omega (arith, get_d_past (pack ds) j (omega (arith, length-pack ds)))

module _ (k : ℕ) (m : Message) where
  pub figures_length : length (trace_figures k m) ≡ 2 * bytes_for k
  figures_length = rw (length-to_hex, length-number)

  pub figures_printable : all_printable (trace_figures k m) ≡ true
  figures_printable =
      let x = sent_number 11 0 6 m in
      hex_printable (pack (digits_of k x)) (packed-small (digits_of k x) (digits_of_digits k x))
