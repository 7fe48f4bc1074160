-- What is proved of the echo of a line.
use Rattle.std.specs.Prelude.{Some, None}
use mathlib.Core.Path.{◌≡◌, refl, sym, ◌∙◌}
use mathlib.Core.List.{List, [], ◌∷◌, ◌++◌, append_assoc, append-nil}
use mathlib.Core.Bool.{Bool, true, false, cond, ◌&&◌, true≢false, and-eq-true_iff}
use Prim.Native.Nat.{ℕ, zero, suc, ◌+◌, ◌-◌, ◌≤◌, ◌<◌}
use native.Mathlib.Omega.{arith}
use native.Mathlib.Decide.{dec_lt}
use borrow.Author.Tests.{eqb-true, leb-true, le-leb, lt-leb, lt-ltb, le-ltb}
use lib.Dec.{leb, ltb, eqb}
use lib.ListN.{length, get_or, take, drop, replicate, length-append, length-drop, length-replicate, get_or-replicate, get_or-append}
use lib.Seq.{length-take-le, get_or-take, get_or-drop, get_or-append-add}
use Rattle.digits.specs.Lists.{tabulate}
use Rattle.digits.specs.Digits.{half, pack, all_digits}
use Rattle.digits.specs.Numbers.{value, number_of}
use Rattle.digits.proofs.Lists.{length-tabulate, get_d_tabulate, tabulate_get_d}
use Rattle.digits.proofs.Packing.{digit_at, half-pack}
use Rattle.masking.specs.Masking.{symbol, digits_text}
use Rattle.word_values.specs.Values.{digit_of, number_in}
use Rattle.texts.specs.Text.{space}
use Rattle.echo.specs.Echo.{is_number, is_card_number, masked, shown_word, shown_from, shown_line, echo_line}
use Rattle.echo.specs.Theorems.{PlainLineStays, WordsApart, MaskedAlike}
use Rattle.echo.proofs.Lines.{card_length, word_ends, word_grows, line_ends}

plain_word : (w : List ℕ) → is_card_number w ≡ false → shown_word w ≡ w
unfolding shown_word
plain_word w e = rw e

-- no card number stands between spaces in the line l, which has a space before and behind it
module _ (l : List ℕ) (none : (a w b : List ℕ) → l ≡ a ++ (space ++ w ++ space) ++ b → is_card_number w ≡ false) where
  plain-from : (p w s : List ℕ) → l ≡ p ++ space ++ w ++ (s ++ space) → shown_from w s ≡ w ++ s
  plain-from p w [] e = rw (line_ends w, append-nil) (plain_word w (none p w [] (e ∙ simp (append_assoc, append-nil))))
  plain-from p w (b ∷ s) e = go (eqb b 0x20) refl (plain-from (p ++ space ++ w) [] s) (plain-from p (w ++ (b ∷ [])) s)
    where
      go : (t : Bool) → eqb b 0x20 ≡ t → (l ≡ p ++ space ++ w ++ space ++ [] ++ (s ++ space) → shown_from [] s ≡ s)
          → (l ≡ p ++ space ++ (w ++ (b ∷ [])) ++ (s ++ space) → shown_from (w ++ (b ∷ [])) s ≡ w ++ (b ∷ []) ++ s)
          → shown_from w (b ∷ s) ≡ w ++ (b ∷ s)
      go true q next more =
          let z = eqb-true b 0x20 q in
          let h : l ≡ p ++ (space ++ w ++ space) ++ (s ++ space) = e ∙ rw z (simp append_assoc) in
          let k : l ≡ p ++ space ++ w ++ space ++ [] ++ (s ++ space) = e ∙ rw z (simp (append_assoc, append-nil)) in
          word_ends w s b q ∙ rw (plain_word w (none p w (s ++ space) h), next k, z) (simp append_assoc)
      go false q next more =
          let k : l ≡ p ++ space ++ (w ++ (b ∷ [])) ++ (s ++ space) = e ∙ simp append_assoc in
          word_grows w s b q ∙ more k ∙ simp append_assoc

pub plain_line_stays : PlainLineStays
unfolding echo_line shown_line
plain_line_stays s none = rw (plain-from (space ++ s ++ space) none [] [] s (simp append_assoc))

words_from : (w a b : List ℕ) → shown_from w (a ++ space ++ b) ≡ shown_from w a ++ space ++ shown_from [] b
words_from w [] b = word_ends w b 0x20 refl ∙ rw (line_ends w)
words_from w (c ∷ a) b = go (eqb c 0x20) refl (words_from [] a b) (words_from (w ++ (c ∷ [])) a b)
  where
    go : (t : Bool) → eqb c 0x20 ≡ t → shown_from [] (a ++ space ++ b) ≡ shown_from [] a ++ space ++ shown_from [] b
        → shown_from (w ++ (c ∷ [])) (a ++ space ++ b) ≡ shown_from (w ++ (c ∷ [])) a ++ space ++ shown_from [] b
        → shown_from w (c ∷ (a ++ space ++ b)) ≡ shown_from w (c ∷ a) ++ space ++ shown_from [] b
    go true q next more =
        word_ends w (a ++ space ++ b) c q ∙ rw (next, word_ends w a c q) (simp append_assoc)
    go false q next more = word_grows w (a ++ space ++ b) c q ∙ more ∙ rw (word_grows w a c q)

pub words_apart : WordsApart
unfolding shown_line
words_apart a b = words_from [] a b

tabulate_ext : (n : ℕ) (f g : ℕ → ℕ) → ((i : ℕ) → i < n → f i ≡ g i) → tabulate n f ≡ tabulate n g
tabulate_ext zero f g h = refl
tabulate_ext (suc n) f g h = rw (tabulate_ext n f g (λ i l. h i (omega arith)), h n (omega arith))

-- the digits that the characters of a word are
abbrev digits_in : List ℕ → List ℕ
digits_in w = tabulate (length w) (λ i. digit_of (get_or w i 0))

said-digits : (a b : Bool) (ds : List ℕ) → is_number (cond a (cond (b && all_digits ds) (Some (value ds)) None) None) ≡ true → all_digits ds ≡ true
said-digits true true ds e = go (all_digits ds) e
  where
    go : (c : Bool) → is_number (cond c (Some (value ds)) None) ≡ true → c ≡ true
    go true e = refl
    go false e = e
said-digits true false ds e = absurd (true≢false (sym e))
said-digits false b ds e = absurd (true≢false (sym e))

card-digits : (w : List ℕ) → is_card_number w ≡ true → all_digits (digits_in w) ≡ true
unfolding is_card_number number_in number_of
card-digits w e =
    said-digits (leb 1 (length w) && leb (length w) 19) (leb (length (digits_in w)) 19) (digits_in w)
    ((and-eq-true_iff (leb 13 (length w) && leb (length w) 19) (is_number (number_in 19 w))).0 e).1

-- a character that is a digit
digit_character : (b : ℕ) → digit_of b ≤ 9 → digit_of b + 0x30 ≡ b
unfolding digit_of
digit_character b = go (leb 0x30 b) (leb b 0x39) refl
  where
    go : (c d : Bool) → leb 0x30 b ≡ c → cond (c && d) (b - 0x30) 10 ≤ 9 → cond (c && d) (b - 0x30) 10 + 0x30 ≡ b
    go true true e h = omega (arith, leb-true 0x30 b e)
    go true false e h = absurd (omega (arith, h))
    go false d e h = absurd (omega (arith, h))

module _ (w : List ℕ) (e : is_card_number w ≡ true) (i : ℕ) (l : i < length w) where
  packed-character : half (pack (digits_in w)) i + 0x30 ≡ get_or w i 0
  packed-character =
      let n : length (digits_in w) ≡ length w = length-tabulate (length w) _ in
      let d : get_or (digits_in w) i 0 ≡ digit_of (get_or w i 0) = get_d_tabulate (length w) (λ k. digit_of (get_or w k 0)) i l in
      let m : digit_of (get_or w i 0) ≤ 9 = rw d at (digit_at (digits_in w) (card-digits w e) i) in
      rw (half-pack (digits_in w) (card-digits w e) i (omega (arith, n)), d) (digit_character (get_or w i 0) m)

  abbrev stars : List ℕ
  stars = replicate (length w - 10) 0x2A

  masked-at : get_or (masked w) i 0 ≡ symbol true (length w) (pack (digits_in w)) i
  unfolding masked symbol
  masked-at = go (dec_lt i 6) (dec_lt (i + 4) (length w))
    where
      f : length (take 6 w) ≡ 6
      f = length-take-le 6 w (omega (arith, (card_length w e).0))

      g : length (take 6 w ++ stars) ≡ length w - 4
      g = rw (length-append, f, length-replicate) (omega (arith, (card_length w e).0))

      go : Dec (i < 6) → Dec (i + 4 < length w)
          → get_or (take 6 w ++ stars ++ drop (length w - 4) w) i 0 ≡ cond (leb 6 i && ltb (i + 4) (length w)) 0x2A (half (pack (digits_in w)) i + 0x30)
      go (yes a) b =
          rw (
            get_or-append (take 6 w ++ stars) (drop (length w - 4) w) 0 i (omega (arith, g, (card_length w e).0)),
            get_or-append (take 6 w) stars 0 i (omega (arith, f)),
            get_or-take 6 w i 0 a,
            lt-leb 6 i a,
          ) (sym packed-character)
      go (no a) (yes b) =
          let k : length (take 6 w) + (i - 6) ≡ i = omega (arith, f, a) in
          let z : get_or (take 6 w ++ stars) (length (take 6 w) + (i - 6)) 0 ≡ 0x2A =
          get_or-append-add (take 6 w) stars (i - 6) 0 ∙ get_or-replicate (length w - 10) (i - 6) 0x2A 0 (omega (arith, a, b)) in
          rw (
            le-leb 6 i (omega (arith, a)),
            lt-ltb (i + 4) (length w) b,
            get_or-append (take 6 w ++ stars) (drop (length w - 4) w) 0 i (omega (arith, g, b)),
          ) (rw k at z)
      go (no a) (no b) =
          let k : length (take 6 w ++ stars) + (i - (length w - 4)) ≡ i = omega (arith, g, b) in
          let m : length w - 4 + (i - (length w - 4)) ≡ i = omega (arith, b) in
          let z : get_or (take 6 w ++ stars ++ drop (length w - 4) w) (length (take 6 w ++ stars) + (i - (length w - 4))) 0 ≡ get_or w i 0 =
          get_or-append-add (take 6 w ++ stars) (drop (length w - 4) w) (i - (length w - 4)) 0
          ∙ get_or-drop (length w - 4) w (i - (length w - 4)) 0 ∙ rw m in
          rw (le-leb 6 i (omega (arith, a)), le-ltb (i + 4) (length w) (omega (arith, b))) (rw k at z ∙ sym packed-character)

masked-length : (w : List ℕ) → is_card_number w ≡ true → length (masked w) ≡ length w
unfolding masked
masked-length w e =
    let f = length-take-le 6 w (omega (arith, (card_length w e).0)) in
    rw (length-append, length-append, f, length-replicate, length-drop) (omega (arith, (card_length w e).0))

pub masked_alike : MaskedAlike
unfolding digits_text
masked_alike w e =
    sym (tabulate_get_d (masked w))
    ∙ rw (masked-length w e) (tabulate_ext (length w) (λ i. get_or (masked w) i 0) (symbol true (length w) (pack (digits_in w))) (masked-at w e))
