-- Field 62 of every length.
use mathlib.Core.Path.{◌≡◌, refl, ap, sym, ◌∙◌}
use mathlib.Core.List.{List, [], ◌∷◌, ◌++◌}
use mathlib.Core.Bool.{Bool, true, false, cond, not, ◌||◌, or-true}
use Prim.Native.Nat.{ℕ, ◌+◌, ◌*◌, ◌/◌, ◌%◌, ◌≤◌}
use native.Mathlib.Omega.{arith}
use lib.Dec.{eqb}
use lib.ListN.{length, take, drop, replicate, drop_of_length-le}
use lib.Seq.{take_at, drop_at}
use borrow.Author.Tests.{le-ltb, le-leb}
use Rattle.digits.specs.Digits.{pack, packed_byte, unpack, is_packed}
use Rattle.digits.specs.Numbers.{value, digits_of}
use Rattle.field.specs.Table.{among, variable, key_material, formats, indicators}
use Rattle.field.specs.Bitmap.{bit, names, listed_at, listed}
use Rattle.field.specs.Contents.{key_lengths, allowed, kept}
use Rattle.field.specs.declared.Class.TheVariants.{Any}
use Rattle.field.specs.declared.Prefix.TheVariants.{Two}
use Rattle.span.specs.Span.{span_at, contents_at, passed_at, field_bytes, span, spans}
use Rattle.span.proofs.Bytes.{span_back}
use Rattle.elements.specs.Elements.{elements_in_form}
use Rattle.message.specs.Message.{field_in, field_of}
use Rattle.message.specs.Located.{located}
use Rattle.message.specs.Build.{padded}
use Rattle.message.specs.Late.{late_fault}
use Rattle.message.specs.declared.Message.{Message}
use Rattle.message.proofs.Late.{chip_kept, keys_kept, late_is}
use Rattle.reading.specs.Reading.{good, refused, read_fields, read_message, Read, Refused}
use Rattle.writing.specs.Writing.{field_fault, fields_fault, message_fault}
use Rattle.message_theorems.specs.Keys.{type_numbers, with_length, keys_alone, chip_and_keys, KeysOfEveryLength, KeysAfterForm, KeysRead, WriteKeysOfEveryLength, WriteKeysAfterForm}
use Rattle.message_theorems.proofs.Fields.{in_place}
use Rattle.message_theorems.proofs.Messages.{message_from, after_head, head_read, keys-allowed, keys_kept_alike}
use Rattle.message_theorems.proofs.Readable.{read_keeps_formats}
use Rattle.message_theorems.proofs.WriteOrder.{length_back, outcome_of, as_read_lem, fault-each, first-fault}

-- a length of four digits
length_bytes : (n : ℕ) → n ≤ 9999 → pack (digits_of 4 n) ≡ (n / 1000 * 16 + n / 100 % 10) ∷ (n / 10 % 10 * 16 + n % 10) ∷ []
unfolding pack packed_byte
length_bytes n h =
    let a : n / 10 / 10 / 10 % 10 ≡ n / 1000 = omega arith in
    let b : n / 10 / 10 ≡ n / 100 = omega arith in
    rw (a, b)

-- is read, whatever the format says of it
length-read : (b : List ℕ) → length b ≤ 9999
    → (is_packed 4 (take 2 (with_length b)) ≡ true) × (value (unpack 4 (take 2 (with_length b))) ≡ length b)
unfolding field_bytes allowed
length-read b h =
    rw (length_bytes (length b) h) at (length_back (variable 62 Any Two 0 9999) (length b) refl (rw (le-leb 0 (length b) (omega arith), le-leb (length b) 9999 h)))

-- field 62 at the end of the bytes: one of another length is walked past
keys-span : (k : List ℕ) → length k ≤ 9999
    → span_at (key_material 62) (with_length k) ≡ cond (allowed (key_material 62) (length k)) (spans (length k) 2 (length k)) (spans 0 (2 + length k) 0)
unfolding span_at contents_at passed_at
keys-span k h =
    let r = length-read k h in
    rw (le-ltb (length (with_length k)) 2 (omega arith), r.0, r.1, le-ltb (length k) (length k) (omega arith))

-- how much of it is held
held_of : List ℕ → ℕ
held_of k = kept (key_material 62) (length k)

-- the last field of a message
keys-fields : (bm k : List ℕ) → length k ≤ 9999 → names bm 62 ≡ true → names bm 63 ≡ false → names bm 64 ≡ false
    → read_fields (drop 23 formats) bm (with_length k) ≡ good (held_of k ∷ 0 ∷ 0 ∷ []) (padded 84 (take (held_of k) k) ++ replicate 71 0)
unfolding read_fields formats span held_of
keys-fields bm k h p q r = go (allowed (key_material 62) n) refl
  where
    n : ℕ
    n = length k

    go : (t : Bool) → allowed (key_material 62) n ≡ t
        → read_fields (drop 23 formats) bm (with_length k) ≡ good (cond t n 0 ∷ 0 ∷ 0 ∷ []) (padded 84 (take (cond t n 0) k) ++ replicate 71 0)
    go true e = rw (p, keys-span k h, e, drop_of_length-le (with_length k) {i = 2 + n} (omega arith), q, r)
    go false e = rw (p, keys-span k h, e, drop_of_length-le (with_length k) {i = 2 + n + 0} (omega arith), q, r)

-- a type that the documents list
type_listed : (x : ℕ) → among x type_numbers ≡ true → among x indicators ≡ true
unfolding indicators
type_listed x h = h

-- a message whose fields are read is judged by 23 and 24
late-judged : (x y : ℕ) (bm s : List ℕ) {cs bs : List ℕ} {a b : Bool} → among (x * 256 + y) type_numbers ≡ true → length bm ≡ 8 → listed bm ≡ true
    → read_fields formats bm s ≡ good cs bs → chip_kept (message_from (x * 256 + y) bm cs bs) ≡ a → keys_kept (message_from (x * 256 + y) bm cs bs) ≡ b
    → (read_message (x ∷ y ∷ (bm ++ s))).outcome ≡ cond a (cond b Read (Refused 24)) (Refused 23)
unfolding after_head
late-judged x y bm s {cs} {bs} {a} {b} t l j f p q = rw (head_read x y bm s l, type_listed (x * 256 + y) t, j, f, late_is m, p, q) (go a b)
  where
    m : Message
    m = message_from (x * 256 + y) bm cs bs

    go : (a b : Bool) → (cond (eqb (cond a (cond b 0 24) 23) 0) (record { outcome = Read; message = m }) (refused (cond a (cond b 0 24) 23))).outcome
        ≡ cond a (cond b Read (Refused 24)) (Refused 23)
    go true true = refl
    go true false = refl
    go false b = refl

-- field 62 alone
fields-alone : (k : List ℕ) → length k ≤ 9999
    → read_fields formats keys_alone (with_length k)
    ≡ good (replicate 23 0 ++ (held_of k ∷ 0 ∷ 0 ∷ [])) (replicate 432 0 ++ (padded 84 (take (held_of k) k) ++ replicate 71 0))
unfolding read_fields formats span names bit
fields-alone k h = rw (keys-fields keys_alone k h refl refl refl)

pub keys-of-every-length : KeysOfEveryLength
unfolding formats names bit listed listed_at field_in held_of
keys-of-every-length x y k t h = late-judged x y keys_alone (with_length k) t refl refl (fields-alone k h) refl (keys_kept_alike (length k))

-- field 55 before it
chip-span : (c rest : List ℕ) → 1 ≤ length c → length c ≤ 255 → span_at (variable 55 Any Two 1 255) (with_length c ++ rest) ≡ spans (length c) 2 (length c)
unfolding field_bytes allowed
chip-span c rest l h =
    rw (length_bytes (length c) (omega arith)) at (span_back (variable 55 Any Two 1 255) (length c) c rest refl (rw (le-leb 1 (length c) l, le-leb (length c) 255 h)) refl refl)

fields_both : (c k : List ℕ) → 1 ≤ length c → length c ≤ 255 → length k ≤ 9999
    → read_fields formats chip_and_keys (with_length c ++ with_length k)
    ≡ good (replicate 20 0 ++ (length c ∷ 0 ∷ 0 ∷ held_of k ∷ 0 ∷ 0 ∷ []))
    (replicate 162 0 ++ (padded 255 c ++ (replicate 15 0 ++ (padded 84 (take (held_of k) k) ++ replicate 71 0))))
unfolding read_fields formats span names bit
fields_both c k l h i =
    rw (
      chip-span c (with_length k) l h,
      take_at c (with_length k) (length c) refl,
      drop_at (with_length c) (with_length k) (2 + length c) (omega arith),
      keys-fields chip_and_keys k i refl refl refl,
    )

pub keys-after-form : KeysAfterForm
unfolding formats names bit listed listed_at field_in held_of
keys-after-form x y c k t l h i =
    late-judged x y chip_and_keys (with_length c ++ with_length k) t refl refl (fields_both c k l h i)
    (ap elements_in_form (in_place 255 c _ (length c) refl)) (keys_kept_alike (length k))

pub keys-read : KeysRead
unfolding located formats
keys-read s q e =
    let r = read_keeps_formats s q 62 e in
    (sym (keys-allowed (field_of (read_message s).message 62).count) ∙ r.allows, r.size_is)

-- in writing, field 62 alone
fault-alone : (m : Message) → among m.indicator type_numbers ≡ true → m.bitmap ≡ keys_alone
    → message_fault m ≡ cond (among (field_of m 62).count key_lengths) 0 24
unfolding message_fault fields_fault field_fault formats names bit listed listed_at field_in
fault-alone m t b = rw (late_is m, type_listed m.indicator t, b, or-true)

pub write_keys-of-every-length : WriteKeysOfEveryLength
write_keys-of-every-length m o l t b = rw (as_read_lem m o l, fault-alone m t b) (go (among (field_of m 62).count key_lengths))
  where
    go : (t : Bool) → outcome_of (cond t 0 24) ≡ cond t Read (Refused 24)
    go true = refl
    go false = refl

-- a number that a message is refused by is not 24, or its field 55 is elements in form
form_first : Message → ℕ → Bool
form_first m n = not (eqb n 24) || chip_kept m

late-form : (m : Message) → form_first m (late_fault m) ≡ true
unfolding form_first
late-form m = rw (late_is m) (go (chip_kept m) (keys_kept m))
  where
    go : (a b : Bool) → (not (eqb (cond a (cond b 0 24) 23) 24) || a) ≡ true
    go true true = refl
    go true false = refl
    go false b = refl

pub write_keys-after-form : WriteKeysAfterForm
unfolding form_first
write_keys-after-form m o q e = rw ((first-fault m o 24 q (λ z. omega (arith, z))).0, e) at (fault-each (form_first m) m refl refl refl (late-form m))
