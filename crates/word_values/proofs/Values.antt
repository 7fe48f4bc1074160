-- Laws of what a word says.
use Rattle.std.specs.Prelude.{None, Option, Ok, Err, Result, is_ok}
use mathlib.Core.Path.{◌≡◌, refl, ◌∙◌}
use mathlib.Core.List.{List, ◌++◌, append-nil}
use mathlib.Core.Bool.{Bool, true, false, cond, ◌&&◌, and-false}
use Prim.Native.Nat.{ℕ, ◌+◌, ◌-◌, ◌*◌, ◌/◌, ◌≤◌, ◌<◌}
use native.Mathlib.Omega.{arith}
use borrow.Author.Tests.{eq-eqb, le-leb, lt-leb}
use lib.Dec.{leb}
use lib.ListN.{length, get_or, take, drop, length-drop}
use lib.Seq.{take_at, drop-length}
use Rattle.digits.specs.Lists.{tabulate}
use Rattle.digits.specs.Numbers.{number_of}
use Rattle.digits.proofs.Lists.{tail_part, length-tabulate}
use Rattle.hexadecimal.specs.Hexadecimal.{is_hex}
use Rattle.hexadecimal.specs.Outcome.{hex_outcome, hex_stored}
use Rattle.hexadecimal.specs.declared.HexError.{HexError}
use Rattle.hexadecimal.specs.declared.HexError.TheVariants.{NotHexadecimal}
use Rattle.hexadecimal.proofs.Hexadecimal.{length-from_hex}
use Rattle.word_values.specs.Values.{digit_of, number_in, says_bytes, is_text, text_in}

-- a word's digits e at the front of an array that was lent
module _ (w e z : List ℕ) (d : e ≡ tabulate (length w) (λ i. digit_of (get_or w i 0))) where
  front_length : length e ≡ length w
  front_length = rw d (length-tabulate _ _)

  front-is : take (length w) (e ++ drop (length w) z) ≡ tabulate (length w) (λ i. digit_of (get_or w i 0))
  front-is = take_at e (drop (length w) z) (length w) front_length ∙ d

module _ (longest : ℕ) (w : List ℕ) where
  pub number_none : length w ≡ 0 → None ≡ number_in longest w
  unfolding number_in
  number_none h = rw (lt-leb 1 (length w) (omega arith))

  pub number_long : longest < length w → None ≡ number_in longest w
  unfolding number_in
  number_long h = rw (lt-leb (length w) longest h, and-false)

  pub number_past : 19 < length w → None ≡ number_in longest w
  unfolding number_in number_of
  number_past h = rw (length-tabulate, lt-leb (length w) 19 h) (same (leb 1 (length w) && leb (length w) longest))
    where
      same : (t : Bool) → ◌≡◌ {A = Option ℕ} None (cond t None None)
      same true = refl
      same false = refl

  pub number_read : (e z : List ℕ) {r : Option ℕ} → (length w ≡ 0 → ⊥) → length w ≤ longest
      → e ≡ tabulate (length w) (λ i. digit_of (get_or w i 0))
      → r ≡ number_of (take (length w) (e ++ drop (length w) z)) → r ≡ number_in longest w
  unfolding number_in
  number_read e z h l d q =
      let g : 1 ≤ length w = omega arith in
      q ∙ rw (front-is w e z d, le-leb 1 (length w) g, le-leb (length w) longest l)

-- whether w is a text that fills a buffer o, and what the buffer then holds
abbrev pub Told : List ℕ → List ℕ → Bool → List ℕ → Type 0
Told w o r l = (r ≡ is_text (length o) w) × (l ≡ cond r (text_in w) o)

module _ (w o : List ℕ) where
  pub bytes_told : says_bytes w ≡ true → length w ≡ 2 * length o + 1 → (r : Result ℕ HexError) {l : List ℕ}
      → r ≡ hex_outcome (take (length w - 1) (drop 1 w)) (length o)
      → l ≡ hex_stored r (take (length w - 1) (drop 1 w)) o → Told w o (is_ok r) l
  unfolding is_text text_in hex_outcome
  bytes_told h n r {l} q m =
      let k : length (drop 1 w) / 2 ≡ length o = rw length-drop (omega arith) in
      go (is_hex (drop 1 w)) refl (rw (tail_part 1 w, k, le-leb (length o) (length o) (omega arith)) at q) (rw (tail_part 1 w) at m) k
    where
      go : (t : Bool) → is_hex (drop 1 w) ≡ t → r ≡ cond (is_hex (drop 1 w)) (Ok (length o)) (Err NotHexadecimal)
          → l ≡ hex_stored r (drop 1 w) o → length (drop 1 w) / 2 ≡ length o → Told w o (is_ok r) l
      go true e q m k =
          let z : r ≡ Ok (length o) = rw e at q in
          rw z (rw (h, e, eq-eqb _ _ n), (rw z at m) ∙ rw (length-from_hex, k, drop-length, append-nil, h))
      go false e q m k =
          let z : r ≡ Err NotHexadecimal = rw e at q in
          rw z (rw (h, e), rw z at m)
