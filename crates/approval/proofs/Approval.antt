-- Laws of the entry of an approval: its card, its parts and its form.
use Rattle.std.specs.Prelude.{Some, None}
use mathlib.Core.Path.{◌≡◌, refl, ap, sym, ◌∙◌}
use mathlib.Core.List.{List, ◌++◌}
use mathlib.Core.Bool.{Bool, true, false, cond, ◌&&◌}
use Prim.Native.Nat.{ℕ, ◌+◌, ◌*◌, ◌-◌, ◌≤◌, ◌<◌}
use native.Mathlib.Omega.{arith}
use native.Mathlib.Decide.{dec_lt}
use lib.Dec.{leb, eqb}
use lib.ListN.{length, get_or, take, drop, replicate, length-append, length-drop, length-replicate, get_or-replicate, get_or-append}
use lib.Seq.{ext_get_or, get_or-append-add, get_or-take, get_or-drop, length-take-le}
use borrow.Author.Tests.{eq-eqb, le-leb, leb-true, eqb-true}
use Rattle.numbers.specs.Limits.{largest_amount, last_number}
use Rattle.numbers.specs.Numbers.{within}
use Rattle.digits.specs.Digits.{half, bytes_for, unpack, packed_byte, pack, half_allowed, is_packed, all_digits, packable}
use Rattle.digits.specs.Numbers.{value, digits_of, number_of}
use Rattle.digits.proofs.Lists.{get_d_past, all_true}
use Rattle.digits.proofs.Packing.{length-pack, length-unpack, get_d_pack, get_d_unpack, digit_at, digits-all, half-pack, packed-pack, packed-length}
use Rattle.digits.proofs.Numbers.{value-below, length_digits_of, digits_of_digits}
use Rattle.digits.specs.Packed.{numeral}
use Rattle.field.specs.Bitmap.{names}
use Rattle.field.specs.Contents.{all_printable}
use Rattle.kinds.specs.Kinds.{is_kind}
use Rattle.message.specs.Message.{field_of}
use Rattle.message.specs.declared.Message.{Message}
use Rattle.parts.specs.Parts.{copies, number_in, part_of}
use Rattle.parts.specs.declared.Part.TheVariants.{Amount}
use Rattle.entry.specs.Entry.{all_zero}
use Rattle.entry.specs.Form.{card_in_form, in_form}
use Rattle.entry.specs.Theorems.{Shaped}
use Rattle.entry.proofs.Form.{is_nought}
use Rattle.state.specs.declared.Approval.{Approval}
use Rattle.state.specs.declared.Card.{Card}
use Rattle.state.specs.declared.Request.{Request}
use Rattle.state_rules.proofs.Holds.{ApprovalHolds}
use Rattle.approval.specs.Approval.{field_or, zero_filled, approval_of, approved_entry}

-- each place holds a zero
abbrev Zeros : List ℕ → Type 0
Zeros z = (i : ℕ) → get_or z i 0 ≡ 0

zeros-replicate : (n : ℕ) → Zeros (replicate n 0)
zeros-replicate n i = go (dec_lt i n)
  where
    go : Dec (i < n) → ◌≡◌ {A = ℕ} (get_or (replicate n 0) i 0) 0
    go (yes h) = get_or-replicate n i 0 0 h
    go (no h) = get_d_past (replicate n 0) i (rw length-replicate (omega arith))

zeros-drop : (n : ℕ) (z : List ℕ) → Zeros z → Zeros (drop n z)
zeros-drop n z h i = get_or-drop n z i 0 ∙ h (n + i)

-- zeros after a list read as its end
zeros-after : (a z : List ℕ) → Zeros z → (i : ℕ) → get_or (a ++ z) i 0 ≡ get_or a i 0
zeros-after a z h i = go (dec_lt i (length a))
  where
    go : Dec (i < length a) → get_or (a ++ z) i 0 ≡ get_or a i 0
    go (yes l) = get_or-append a z 0 i l
    go (no l) =
        let e : i ≡ length a + (i - length a) = omega arith in
        ap (λ (k : ℕ). get_or (a ++ z) k 0) e ∙ get_or-append-add a z (i - length a) 0 ∙ h (i - length a)
        ∙ sym (get_d_past a i (omega arith))

-- a, filled up with zeros to n places
abbrev cut : ℕ → List ℕ → List ℕ → List ℕ
cut n a z = take n (a ++ z)

module _ (n : ℕ) (a z : List ℕ) (zeros : Zeros z) (room : n ≤ length a + length z) where
  length_cut : length (cut n a z) ≡ n
  length_cut = length-take-le n (a ++ z) (rw length-append room)

  cut_at : (i : ℕ) → i < n → get_or (cut n a z) i 0 ≡ get_or a i 0
  cut_at i h = get_or-take n (a ++ z) i 0 h ∙ zeros-after a z zeros i

  cut-digits : all_digits a ≡ true → all_digits (cut n a z) ≡ true
  cut-digits d = digits-all (cut n a z) (λ i h. rw (cut_at i (omega (arith, length_cut))) (digit_at a d i))

  -- the zeros do not matter
  cut-same : (y : List ℕ) → Zeros y → n ≤ length a + length y → cut n a y ≡ cut n a z
  cut-same y h l =
      ext_get_or 0 _ _ (length-take-le n (a ++ y) (rw length-append l) ∙ sym length_cut)
      (λ i k. let b : i < n = omega (arith, length-take-le n (a ++ y) (rw length-append l)) in
      get_or-take n (a ++ y) i 0 b ∙ zeros-after a y h i ∙ sym (cut_at i b))

-- the digits of a card, filled up to 20
abbrev filled_digits : Card → List ℕ
filled_digits c = cut 20 (digits_of c.length c.number) (replicate 20 0)

module _ (c : Card) where
  length-filled : length (filled_digits c) ≡ 20
  length-filled = length_cut 20 (digits_of c.length c.number) (replicate 20 0) (zeros-replicate 20) (omega arith)

  filled_at : (i : ℕ) → i < 20 → get_or (filled_digits c) i 0 ≡ get_or (digits_of c.length c.number) i 0
  filled_at = cut_at 20 (digits_of c.length c.number) (replicate 20 0) (zeros-replicate 20) (omega arith)

  filled_digits_lem : all_digits (filled_digits c) ≡ true
  filled_digits_lem =
      cut-digits 20 (digits_of c.length c.number) (replicate 20 0) (zeros-replicate 20) (omega arith)
      (digits_of_digits c.length c.number)

  -- 20 digits fill ten bytes
  filled-packable : packable (filled_digits c) 10 ≡ true
  unfolding packable
  filled-packable = rw (length-filled, filled_digits_lem)

-- the digits, written into the front of a larger array
pub filled : (c : Card) {n : ℕ} {e out : List ℕ} (old : List ℕ) → n ≡ c.length → n < 256
    → e ≡ digits_of (length (take n (replicate {A = ℕ} 275 0))) c.number
    → out ≡ cond (packable (take 20 (e ++ drop n (replicate {A = ℕ} 275 0))) 10)
    (pack (take 20 (e ++ drop n (replicate {A = ℕ} 275 0)))) old
    → out ≡ zero_filled c
unfolding zero_filled
filled c {n} {e} old p h d q =
    let z : List ℕ = replicate 275 0 in
    let l : length (take n z) ≡ n = length-take-le n z (omega arith) in
    let k : e ≡ digits_of c.length c.number = rw (l, p) at d in
    let m : length (digits_of c.length c.number) ≡ c.length = length_digits_of c.length c.number in
    let s : take 20 (e ++ drop n z) ≡ filled_digits c =
    rw k (cut-same 20 (digits_of c.length c.number) (replicate 20 0) (zeros-replicate 20) (omega arith)
    (drop n z) (zeros-drop n z (zeros-replicate 275)) (omega (arith, length-drop n z))) in
    q ∙ rw (s, filled-packable c)

-- the parts of an approval, made one by one
pub approval_is : (m : Message) {amount : ℕ} {date authorisation reference : List ℕ} → amount ≡ numeral (part_of m Amount)
    → date ≡ cond (copies m 13 2) (field_of m 13).bytes (replicate 2 0)
    → authorisation ≡ cond (copies m 38 6) (field_of m 38).bytes (replicate 6 0x20)
    → reference ≡ cond (copies m 37 12) (field_of m 37).bytes (replicate 12 0)
    → ◌≡◌ {A = Approval} (record { amount = amount; date = date; authorisation = authorisation; reference = reference }) (approval_of m)
unfolding approval_of field_or
approval_is m x d a r = rw (x, d, a, r)

-- twelve digits say less than a million million
number_small : (ds : List ℕ) → length ds ≡ 12 → numeral (number_of ds) < 1000000000000
unfolding number_of
number_small ds l = go (all_digits ds) refl
  where
    go : (b : Bool) → all_digits ds ≡ b → numeral (cond (leb (length ds) 19 && b) (Some (value ds)) None) < 1000000000000
    go true e = rw l (rw l at (value-below ds e))
    go false e = rw l (omega arith)

pub answered-small : (m : Message) → (approval_of m).amount < 1000000000000
unfolding approval_of number_in
answered-small m = go (names m.bitmap 4) (leb 12 (field_of m 4).count) refl
  where
    ds : List ℕ
    ds = unpack (field_of m 4).count (field_of m 4).bytes

    go : (a b : Bool) → leb 12 (field_of m 4).count ≡ b → numeral (cond (a && b) (number_of (take 12 ds)) None) < 1000000000000
    go true true e =
        number_small (take 12 ds)
        (length-take-le 12 ds (rw (length-unpack (field_of m 4).count (field_of m 4).bytes) (leb-true 12 (field_of m 4).count e)))
    go true false e = omega arith
    go false b e = omega arith

module _ (c : Card) where
  pub length-card : length (zero_filled c) ≡ 10
  unfolding zero_filled
  length-card = length-pack (filled_digits c) ∙ rw length-filled

  card_byte : (j : ℕ) → j < 10 → get_or (zero_filled c) j 0 ≡ packed_byte (digits_of c.length c.number) j
  unfolding zero_filled packed_byte
  card_byte j h =
      get_d_pack (filled_digits c) j (rw length-filled (omega arith))
      ∙ rw (filled_at c (2 * j) (omega arith), filled_at c (2 * j + 1) (omega arith))

  -- the digits of a card
  pub card-digits : c.length ≤ 20 → unpack c.length (zero_filled c) ≡ digits_of c.length c.number
  unfolding zero_filled
  card-digits h =
      ext_get_or 0 _ _ (length-unpack c.length (zero_filled c) ∙ sym (length_digits_of c.length c.number))
      (λ i k. let b : i < c.length = omega (arith, length-unpack c.length (zero_filled c)) in
      get_d_unpack c.length (zero_filled c) i b
      ∙ half-pack (filled_digits c) (filled_digits_lem c) i (omega (arith, length-filled c))
      ∙ filled_at c i (omega arith))

  -- its first bytes are its digits, packed, and the others are zeros
  pub card-front : c.length ≤ 20 → take (bytes_for c.length) (zero_filled c) ≡ pack (digits_of c.length c.number)
  card-front h =
      let n : length (take (bytes_for c.length) (zero_filled c)) ≡ bytes_for c.length = length-take-le _ (zero_filled c) (omega (arith, length-card)) in
      let m : length (digits_of c.length c.number) ≡ c.length = length_digits_of c.length c.number in
      ext_get_or 0 _ _ (n ∙ sym (length-pack (digits_of c.length c.number) ∙ rw m))
      (λ j k. get_or-take (bytes_for c.length) (zero_filled c) j 0 (omega arith) ∙ card_byte j (omega arith)
      ∙ sym (get_d_pack (digits_of c.length c.number) j (omega arith)))

  card-rest : all_zero (drop (bytes_for c.length) (zero_filled c)) ≡ true
  unfolding all_zero packed_byte
  card-rest =
      let k = bytes_for c.length in
      let ds = digits_of c.length c.number in
      let m : length ds ≡ c.length = length_digits_of c.length c.number in
      all_true (is_nought (drop k (zero_filled c))) (length (drop k (zero_filled c)))
      (λ i h. eq-eqb _ _ (get_or-drop k (zero_filled c) i 0 ∙ card_byte (k + i) (omega (arith, length-drop k (zero_filled c), length-card))
      ∙ rw (get_d_past ds (2 * (k + i)) (omega arith), get_d_past ds (2 * (k + i) + 1) (omega arith))))

  -- 13 to 19 packed digits, zero filled
  pub card_in_form_lem : 13 ≤ c.length → c.length ≤ 19 → card_in_form c.length (zero_filled c) ≡ true
  unfolding card_in_form within
  card_in_form_lem l h =
      let p = rw length_digits_of at (packed-pack (digits_of c.length c.number) (digits_of_digits c.length c.number)) in
      rw (le-leb 13 c.length l, le-leb c.length 19 h, card-front (omega arith), p, card-rest)

-- a field of the answer, or what stands for it
module _ (m : Message) (n k : ℕ) (b : List ℕ) where
  pub field-length : length b ≡ k → length (field_or n k b m) ≡ k
  unfolding field_or copies
  field-length e = go (names m.bitmap n) (eqb k (length (field_of m n).bytes)) refl
    where
      go : (t s : Bool) → eqb k (length (field_of m n).bytes) ≡ s → length (cond (t && s) (field_of m n).bytes b) ≡ k
      go true true q = sym (eqb-true _ _ q)
      go true false q = e
      go false s q = e

  pub field_there : names m.bitmap n ≡ true → length (field_of m n).bytes ≡ k → field_or n k b m ≡ (field_of m n).bytes
  unfolding field_or copies
  field_there e l = rw (e, eq-eqb k (length (field_of m n).bytes) (sym l))

  field-exceeds : (p : List ℕ → Bool) → p b ≡ true → (names m.bitmap n ≡ true → p (field_of m n).bytes ≡ true) → p (field_or n k b m) ≡ true
  unfolding field_or copies
  field-exceeds p e h = go (names m.bitmap n) (eqb k (length (field_of m n).bytes)) h
    where
      go : (t s : Bool) → (t ≡ true → p (field_of m n).bytes ≡ true) → p (cond (t && s) (field_of m n).bytes b) ≡ true
      go true true h = h refl
      go true false h = e
      go false s h = e

-- what stands for a field is in form
no_date : is_packed 4 (replicate 2 0) ≡ true
unfolding is_packed half_allowed half
no_date = refl

spaces : all_printable (replicate 6 0x20) ≡ true
unfolding all_printable
spaces = refl

-- what an answer that was read and holds field 37 says is in form
pub answer-holds : (m : Message) → (names m.bitmap 13 ≡ true → is_packed 4 (field_of m 13).bytes ≡ true)
    → names m.bitmap 37 ≡ true → length (field_of m 37).bytes ≡ 12 → all_printable (field_of m 37).bytes ≡ true
    → (names m.bitmap 38 ≡ true → all_printable (field_of m 38).bytes ≡ true)
    → ApprovalHolds (approval_of m)
unfolding approval_of
answer-holds m date named size reference authorisation =
    record {
      date_packed = field-exceeds m 13 2 (replicate 2 0) (is_packed 4) no_date date;
      authorisation_length = field-length m 38 6 (replicate 6 0x20) refl;
      authorisation_printable = field-exceeds m 38 6 (replicate 6 0x20) all_printable spaces authorisation;
      reference_length = field-length m 37 12 (replicate 12 0) refl;
      reference_printable = rw (field_there m 37 12 (replicate 12 0) named size) reference;
    }

pub shaped : (q : Request) (a : Approval) → ApprovalHolds a → Shaped (approved_entry q a)
unfolding approved_entry
shaped q a h =
    record {
      card_length = length-card q.card;
      date_length = packed-length 4 a.date h.date_packed;
      authorisation_length = h.authorisation_length;
      reference_length = h.reference_length;
      reserved_length = refl;
    }

-- the entry of a request in form and such an approval is in form
pub in_form_lem : (q : Request) (a : Approval) → is_kind q.kind ≡ true → 1 ≤ q.trace.0 → q.trace.0 ≤ last_number
    → 1 ≤ a.amount → a.amount ≤ largest_amount → 13 ≤ q.card.length → q.card.length ≤ 19 → ApprovalHolds a
    → in_form (approved_entry q a) ≡ true
unfolding approved_entry in_form within all_zero
in_form_lem q a kind t₁ t₂ a₁ a₂ c₁ c₂ h =
    rw (
      kind,
      le-leb 1 q.trace.0 t₁,
      le-leb q.trace.0 last_number t₂,
      le-leb 1 a.amount a₁,
      le-leb a.amount largest_amount a₂,
      card_in_form_lem q.card c₁ c₂,
      h.date_packed,
      h.authorisation_printable,
      h.reference_printable,
    )
