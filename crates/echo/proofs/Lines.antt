-- Laws of a line that is echoed.
use mathlib.Core.Path.{◌≡◌, refl, ap}
use mathlib.Core.List.{List, [], ◌∷◌, ◌++◌, append_assoc, append-nil}
use mathlib.Core.Bool.{Bool, true, false, cond, ◌&&◌, and-eq-true_iff}
use Prim.Native.Nat.{ℕ, zero, suc, ◌+◌, ◌-◌, ◌≤◌, ◌<◌}
use native.Mathlib.Omega.{arith}
use native.Mathlib.Numerals.{add-one}
use borrow.Author.Tests.{leb-true}
use lib.Dec.{leb, eqb}
use lib.ListN.{length, get_or, take, drop, replicate, length-drop}
use lib.Seq.{take-suc, drop-cons, drop-length, get_or-drop}
use Rattle.digits.proofs.Lists.{tail_part}
use Rattle.texts.specs.Text.{Adds, space}
use Rattle.texts.proofs.Texts.{nothing, and_then}
use Rattle.word_values.specs.Values.{number_in}
use Rattle.echo.specs.Echo.{is_number, is_card_number, masked, shown_word, shown_from, shown_line, ended_word, start_after}

pub card_length : (w : List ℕ) → is_card_number w ≡ true → (13 ≤ length w) × (length w ≤ 19)
unfolding is_card_number
card_length w e =
    let t = (and-eq-true_iff (leb 13 (length w) && leb (length w) 19) (is_number (number_in 19 w))).0 e in
    let u = (and-eq-true_iff (leb 13 (length w)) (leb (length w) 19)).0 t.0 in
    (leb-true 13 (length w) u.0, leb-true (length w) 19 u.1)

take_stars : (k n x : ℕ) → k ≤ n → take k (replicate n x) ≡ replicate k x
take_stars zero n x h = refl
take_stars (suc k) zero x h = absurd (omega arith)
take_stars (suc k) (suc n) x h = ap (λ (r : List ℕ). x ∷ r) (take_stars k n x (omega arith))

-- a card number in three parts
pub masked-adds : (w : List ℕ) {o l l2 l3 : List ℕ} {n a b r : ℕ} → 13 ≤ length w → length w ≤ 19 → Adds (take 6 w) n o a l
    → Adds (take (length w - 10) (replicate 9 0x2A)) a l b l2 → Adds (take (length w - (length w - 4)) (drop (length w - 4) w)) b l2 r l3
    → Adds (masked w) n o r l3
unfolding masked
masked-adds w g h x y z =
    and_then (and_then x (rw (take_stars (length w - 10) 9 0x2A (omega arith)) at y)) (rw (tail_part (length w - 4) w) at z)

-- a word and what follows it, byte by byte
module _ (w s : List ℕ) (b : ℕ) where
  pub word_ends : eqb b 0x20 ≡ true → shown_from w (b ∷ s) ≡ shown_word w ++ space ++ shown_from [] s
  unfolding shown_from
  word_ends e = rw e

  pub word_grows : eqb b 0x20 ≡ false → shown_from w (b ∷ s) ≡ shown_from (w ++ (b ∷ [])) s
  unfolding shown_from
  word_grows e = rw e

pub line_ends : (w : List ℕ) → shown_from w [] ≡ shown_word w
unfolding shown_from
line_ends w = refl

-- the word that begins at `from`, as far as byte i
abbrev word_from : List ℕ → ℕ → ℕ → List ℕ
word_from s from i = take (i - from) (drop from s)

-- i bytes of a line s are read, and its words before the one that begins at `from` are added to a text of n bytes in o
pub record Shown (s o : List ℕ) (n from i at : ℕ) (l : List ℕ) : Type 0 where
  pub begins : from ≤ i
  pub within : i ≤ length s
  pub done : List ℕ
  pub adds : Adds done n o at l
  pub left : done ++ shown_from (word_from s from i) (drop i s) ≡ shown_line s

pub shown-none : (s o : List ℕ) (n : ℕ) → Shown s o n 0 0 n o
unfolding shown_line
shown-none s o n = record { begins = omega arith; within = omega arith; done = []; adds = nothing; left = refl }

-- the word in hand grows by byte i
word_more : (s : List ℕ) (from i : ℕ) → from ≤ i → i < length s
    → word_from s from (i + 1) ≡ word_from s from i ++ (get_or s i 0 ∷ [])
word_more s from i g h =
    let e : i + 1 - from ≡ suc (i - from) = omega arith in
    let p : from + (i - from) ≡ i = omega arith in
    rw (e, take-suc (drop from s) (i - from) 0 (rw length-drop (omega arith)), get_or-drop from s (i - from) 0, p)

module _ {s o l l2 : List ℕ} {n from i at r : ℕ} (t : Shown s o n from i at l) where
  past_word : i < length s → eqb (get_or s i 0) 0x20 ≡ true → Adds (shown_word (word_from s from i) ++ space) at l r l2 → Shown s o n (i + 1) (i + 1) r l2
  past_word h e a =
      let z : i + 1 - (i + 1) ≡ 0 = omega arith in
      record {
        begins = omega arith;
        within = omega arith;
        done = t.done ++ (shown_word (word_from s from i) ++ space);
        adds = and_then t.adds a;
        left =
            rw (
              z,
              add-one,
              append_assoc t.done (shown_word (word_from s from i) ++ space) (shown_from [] (drop (suc i) s)),
              ← word_ends (word_from s from i) (drop (suc i) s) (get_or s i 0) e,
              ← drop-cons s i 0 h,
            ) t.left;
      }

  in_word : i < length s → eqb (get_or s i 0) 0x20 ≡ false → Adds [] at l r l2 → Shown s o n from (i + 1) r l2
  in_word h e a =
      record {
        begins = omega (arith, t.begins);
        within = omega arith;
        done = t.done;
        adds = simp append-nil at (and_then t.adds a);
        left =
            rw (word_more s from i t.begins h, add-one, ← word_grows (word_from s from i) (drop (suc i) s) (get_or s i 0) e, ← drop-cons s i 0 h) t.left;
      }

  pub shown-more : i < length s → Adds (ended_word s from i) at l r l2 → Shown s o n (start_after s from i) (i + 1) r l2
  unfolding ended_word start_after
  shown-more h a = go (eqb (get_or s i 0) 0x20) refl a
    where
      go : (b : Bool) → eqb (get_or s i 0) 0x20 ≡ b → Adds (cond b (shown_word (word_from s from i) ++ space) []) at l r l2
          → Shown s o n (cond b (i + 1) from) (i + 1) r l2
      go true e a = past_word h e a
      go false e a = in_word h e a

  pub shown-all : length s ≤ i → Adds (shown_word (take (length s - from) (drop from s))) at l r l2 → Adds (shown_line s) n o r l2
  shown-all h a =
      let e : i ≡ length s = omega (arith, t.within) in
      rw (← t.left, e, drop-length, line_ends) (and_then t.adds a)
