-- An entry's bytes and its values say the same.
use mathlib.Core.Path.{◌≡◌, refl, ap, ◌∙◌}
use mathlib.Core.List.{List, [], ◌∷◌, ◌++◌}
use Prim.Native.Nat.{ℕ, ◌+◌, ◌<◌}
use native.Mathlib.Omega.{arith}
use lib.ListN.{length, get_or, take, drop, length-append, length-drop, take-append-drop}
use lib.Seq.{take_at, take_all, drop-cons, drop-drop, drop-append-add, get_or-append-add}
use Rattle.digits.specs.Digits.{pack}
use Rattle.digits.specs.Numbers.{digits_of}
use Rattle.digits.specs.Packed.{packed_number}
use Rattle.digits.proofs.Packed.{packed_number_lem, number_packs, number-form, length-number}
use Rattle.entry.specs.declared.Entry.{Entry}
use Rattle.entry.specs.Entry.{part, decode, encode, entry_size}
use Rattle.entry.specs.Theorems.{Shaped, WrittenReadsBack, ReadWritesBack}
use Rattle.entry.proofs.Bytes.{length_part, amount_small}
use Rattle.entry.proofs.Form.{in_form_lem}

-- parts past the first list, and the first list itself
part-skip : (p q : List ℕ) (m at k : ℕ) → length p ≡ m → part (m + at) k (p ++ q) ≡ part at k q
part-skip p q m at k l = rw (← l) (ap (take k) (drop-append-add p q at))

part_here : (p q : List ℕ) (k : ℕ) → length p ≡ k → part 0 k (p ++ q) ≡ p
part_here p q k l = take_at p q k l

byte_skip : (p q : List ℕ) (m i : ℕ) → length p ≡ m → get_or (p ++ q) (m + i) 0 ≡ get_or q i 0
byte_skip p q m i l = rw (← l) (get_or-append-add p q i 0)

-- values read from bytes
decoded : (b : List ℕ) (e : Entry) → get_or b 0 0 ≡ e.kind → get_or b 1 0 ≡ e.voided → get_or b 2 0 ≡ e.mark → get_or b 3 0 ≡ e.resends
    → packed_number 6 (part 4 3 b) ≡ e.trace.0 → packed_number 12 (part 7 6 b) ≡ e.amount → get_or b 13 0 ≡ e.digits
    → part 14 10 b ≡ e.card → part 24 2 b ≡ e.date → part 26 6 b ≡ e.authorisation → part 32 12 b ≡ e.reference
    → part 44 4 b ≡ e.reserved → decode b ≡ e
unfolding decode
decoded b e p₁ p₂ p₃ p₄ p₅ p₆ p₇ p₈ p₉ q₁ q₂ q₃ = rw (p₁, p₂, p₃, p₄, p₅, p₆, p₇, p₈, p₉, q₁, q₂, q₃)

-- what stands at each offset of parts laid one after the other
module _ (k v m s : ℕ) (n a : List ℕ) (d : ℕ) (c t u r z : List ℕ) (n-length : length n ≡ 3) (a-length : length a ≡ 6)
    (c-length : length c ≡ 10) (t-length : length t ≡ 2) (u-length : length u ≡ 6) (r-length : length r ≡ 12) (z-length : length z ≡ 4) where
  abbrev laid₅ : List ℕ
  laid₅ = t ++ (u ++ (r ++ z))

  abbrev laid₄ : List ℕ
  laid₄ = (d ∷ []) ++ (c ++ laid₅)

  abbrev x : List ℕ
  x = k ∷ v ∷ m ∷ s ∷ []

  abbrev laid : List ℕ
  laid = x ++ (n ++ (a ++ laid₄))

  -- past the amount
  past : (at w : ℕ) → part (4 + (3 + (6 + at))) w laid ≡ part at w laid₄
  past at w =
      part-skip x (n ++ (a ++ laid₄)) 4 (3 + (6 + at)) w refl ∙ part-skip n (a ++ laid₄) 3 (6 + at) w n-length
      ∙ part-skip a laid₄ 6 at w a-length

  -- past the card
  later : (at w : ℕ) → part (4 + (3 + (6 + (1 + (10 + at))))) w laid ≡ part at w laid₅
  later at w = past (1 + (10 + at)) w ∙ part-skip (d ∷ []) (c ++ laid₅) 1 (10 + at) w refl ∙ part-skip c laid₅ 10 at w c-length

  at-trace : part 4 3 laid ≡ n
  at-trace = part-skip x (n ++ (a ++ laid₄)) 4 0 3 refl ∙ part_here n (a ++ laid₄) 3 n-length

  at-amount : part 7 6 laid ≡ a
  at-amount = part-skip x (n ++ (a ++ laid₄)) 4 3 6 refl ∙ part-skip n (a ++ laid₄) 3 0 6 n-length ∙ part_here a laid₄ 6 a-length

  at-digits : get_or laid 13 0 ≡ d
  at-digits =
      byte_skip x (n ++ (a ++ laid₄)) 4 9 refl ∙ byte_skip n (a ++ laid₄) 3 6 n-length ∙ byte_skip a laid₄ 6 0 a-length

  at-card : part 14 10 laid ≡ c
  at-card = past 1 10 ∙ part_here c laid₅ 10 c-length

  at-date : part 24 2 laid ≡ t
  at-date = later 0 2 ∙ part_here t (u ++ (r ++ z)) 2 t-length

  at-authorisation : part 26 6 laid ≡ u
  at-authorisation = later 2 6 ∙ part-skip t (u ++ (r ++ z)) 2 0 6 t-length ∙ part_here u (r ++ z) 6 u-length

  at-reference : part 32 12 laid ≡ r
  at-reference =
      later 8 12 ∙ part-skip t (u ++ (r ++ z)) 2 6 12 t-length ∙ part-skip u (r ++ z) 6 0 12 u-length ∙ part_here r z 12 r-length

  at_reserved : part 44 4 laid ≡ z
  at_reserved =
      later 20 4 ∙ part-skip t (u ++ (r ++ z)) 2 18 4 t-length ∙ part-skip u (r ++ z) 6 12 4 u-length ∙ part-skip r z 12 0 4 r-length
      ∙ take_all 4 z (omega arith)

  laid_decodes : {y w : ℕ} → packed_number 6 n ≡ y → packed_number 12 a ≡ w
      → decode laid ≡ record {
        kind = k;
        voided = v;
        mark = m;
        resends = s;
        trace = record { 0 = y };
        amount = w;
        digits = d;
        card = c;
        date = t;
        authorisation = u;
        reference = r;
        reserved = z;
      }
  laid_decodes p q =
      decoded laid _ refl refl refl refl (ap (packed_number 6) at-trace ∙ p) (ap (packed_number 12) at-amount ∙ q) at-digits at-card
      at-date at-authorisation at-reference at_reserved

-- an entry whose numbers their digits hold, written and read, has its values
pub encoded_decodes : (e : Entry) → Shaped e → e.trace.0 < 1000000 → e.amount < 1000000000000 → decode (encode e) ≡ e
unfolding encode
encoded_decodes e h l m =
    laid_decodes e.kind e.voided e.mark e.resends (pack (digits_of 6 e.trace.0)) (pack (digits_of 12 e.amount))
    e.digits e.card e.date e.authorisation e.reference e.reserved (length-number 6 e.trace.0)
    (length-number 12 e.amount) h.card_length h.date_length h.authorisation_length h.reference_length h.reserved_length
    (packed_number_lem 6 e.trace.0 (omega arith) l) (packed_number_lem 12 e.amount (omega arith) m)

pub written-reads_back : WrittenReadsBack
written-reads_back e h f = let r = in_form_lem e f in encoded_decodes e h (omega arith) (omega arith)

pub length-encode : (e : Entry) → Shaped e → length (encode e) ≡ entry_size
unfolding encode
length-encode e h = simp (length-append, length-number) (omega arith)

-- a part and what follows it
part_joins : (at k : ℕ) (b : List ℕ) → part at k b ++ drop (at + k) b ≡ drop at b
part_joins at k b = rw (← drop-drop k at b) (take-append-drop k (drop at b))

-- all parts of 48 bytes
parts_join : (b : List ℕ) → length b ≡ entry_size
    → (get_or b 0 0 ∷ get_or b 1 0 ∷ get_or b 2 0 ∷ get_or b 3 0 ∷ [])
    ++ (part 4 3 b ++ (part 7 6 b ++ ((get_or b 13 0 ∷ [])
    ++ (part 14 10 b ++ (part 24 2 b ++ (part 26 6 b ++ (part 32 12 b ++ part 44 4 b))))))) ≡ b
parts_join b l =
    let q : part 44 4 b ≡ drop 44 b = take_all 4 (drop 44 b) (rw length-drop (omega arith)) in
    rw (
      q,
      part_joins 32 12 b,
      part_joins 26 6 b,
      part_joins 24 2 b,
      part_joins 14 10 b,
      ← drop-cons b 13 0 (omega arith),
      part_joins 7 6 b,
      part_joins 4 3 b,
      ← drop-cons b 3 0 (omega arith),
      ← drop-cons b 2 0 (omega arith),
      ← drop-cons b 1 0 (omega arith),
      ← drop-cons b 0 0 (omega arith),
    )

pub read-writes_back : ReadWritesBack
unfolding encode decode
read-writes_back b l s f =
    let r = in_form_lem (decode b) f in
    let t = number_packs 6 (part 4 3 b) (omega arith) (number-form 3 (part 4 3 b) (length_part 4 3 b (omega arith)) (λ z. omega arith)) in
    let a = number_packs 12 (part 7 6 b) (omega arith) (number-form 6 (part 7 6 b) (length_part 7 6 b (omega arith)) (λ z. omega arith)) in
    rw (t, a) (parts_join b l)

pub decode-amount : (b : List ℕ) → (decode b).amount < 1000000000000
unfolding decode
decode-amount b = amount_small b

pub decode-shaped : (b : List ℕ) → length b ≡ entry_size → Shaped (decode b)
unfolding decode
decode-shaped b l =
    record {
      card_length = length_part 14 10 b (omega arith);
      date_length = length_part 24 2 b (omega arith);
      authorisation_length = length_part 26 6 b (omega arith);
      reference_length = length_part 32 12 b (omega arith);
      reserved_length = length_part 44 4 b (omega arith);
    }
