-- Fields of a message that was read: sent back as numbers or bytes they are the fields themselves.
use Rattle.std.specs.Prelude.{Some, None}
use mathlib.Core.Path.{◌≡◌, refl, sym, ◌∙◌}
use mathlib.Core.List.{List, [], ◌∷◌}
use mathlib.Core.Bool.{Bool, true, false, cond, true≢false}
use Prim.Native.Nat.{ℕ, ◌+◌, ◌^◌, ◌≤◌, ◌<◌}
use native.Mathlib.Omega.{arith}
use native.Mathlib.Decide.{ℕ_discrete}
use lib.ListN.{length, take, drop, length-drop}
use lib.Seq.{length-take-le, get_or-take, get_or-drop, take_all}
use borrow.Author.Tests.{eq-eqb, ne_eqb, le-leb, lt-leb}
use Rattle.digits.specs.Digits.{unpack, is_packed, all_digits}
use Rattle.digits.specs.Numbers.{value}
use Rattle.digits.specs.Packed.{numeral}
use Rattle.digits.proofs.Packing.{length-unpack, digit_at, digits-all, unpack-digits}
use Rattle.digits.proofs.Numbers.{length_digits_of, value-below, number_is}
use Rattle.field.specs.Bitmap.{names}
use Rattle.field.specs.Contents.{all_printable}
use Rattle.field.specs.Table.{among, variable, codes}
use Rattle.field.specs.declared.Class.TheVariants.{Digits, Printable}
use Rattle.field.specs.declared.Prefix.{Prefix}
use Rattle.field.proofs.Contents.{allowed-bounds, digits-packed}
use Rattle.message.specs.Message.{Field, field_of}
use Rattle.message.specs.declared.Message.{Message}
use Rattle.digits.specs.Packed.{packed_number}
use Rattle.digits.proofs.Packed.{number_packs, number-value}
use Rattle.parts.specs.Parts.{copies, number_in}
use Rattle.message_theorems.specs.Readable.{Keeps}
use Rattle.centre.specs.Centre.{digits_sent, codes_count, codes_sent, bytes_sent}

-- a field of k digits, and one of k printable bytes
pub record OfDigits (k : ℕ) (x : Field) : Type 0 where
  pub count : x.count ≡ k
  pub packed : is_packed k x.bytes ≡ true

pub record OfText (k : ℕ) (x : Field) : Type 0 where
  pub count : x.count ≡ k
  pub size : length x.bytes ≡ k
  pub printable : all_printable x.bytes ≡ true

text-fault : (t : Bool) → ◌≡◌ {A = ℕ} (cond t 0 8) 0 → t ≡ true
text-fault true e = refl
text-fault false e = let z : ◌≡◌ {A = ℕ} 8 0 = e in absurd (omega arith)

module _ (n k : ℕ) (prefix : Prefix) (x : Field) where
  pub of-digits : Keeps (variable n Digits prefix k k) x → OfDigits k x
  of-digits r =
      let b = allowed-bounds (variable n Digits prefix k k) x.count r.allows in
      let e : x.count ≡ k = omega arith in
      record { count = e; packed = rw e at (digits-packed x.count x.bytes r.no_fault) }

  pub of-text : Keeps (variable n Printable prefix k k) x → OfText k x
  of-text r =
      let b = allowed-bounds (variable n Printable prefix k k) x.count r.allows in
      let e : x.count ≡ k = omega arith in
      record { count = e; size = r.size_is ∙ e; printable = text-fault (all_printable x.bytes) r.no_fault }

pub of-codes : (n : ℕ) (x : Field) → Keeps (codes n) x → OfDigits x.count x
of-codes n x r = record { count = refl; packed = digits-packed x.count x.bytes r.no_fault }

-- a part of a list of digits
part-digits : (i k : ℕ) (ds : List ℕ) → i + k ≤ length ds → all_digits ds ≡ true
    → (length (take k (drop i ds)) ≡ k) × (all_digits (take k (drop i ds)) ≡ true)
part-digits i k ds h a =
    let l : length (take k (drop i ds)) ≡ k = length-take-le k (drop i ds) (rw length-drop (omega arith)) in
    (l, digits-all (take k (drop i ds)) (λ j g. rw (get_or-take k (drop i ds) j 0 (omega arith), get_or-drop i ds j 0) (digit_at ds a (i + j))))

module _ (m : Message) (n : ℕ) (named : names m.bitmap n ≡ true) where
  -- the number that a part of a field of digits says
  pub part-is : (c i k : ℕ) → OfDigits c (field_of m n) → i + k ≤ c → k ≤ 19
      → number_in m n i k ≡ Some (value (take k (drop i (unpack c (field_of m n).bytes))))
  unfolding number_in
  part-is c i k d h s =
      let ds = unpack c (field_of m n).bytes in
      let p = part-digits i k ds (rw length-unpack h) (unpack-digits c (field_of m n).bytes d.packed) in
      rw (named, d.count, le-leb (i + k) c h) (number_is (take k (drop i ds)) (omega (arith, p.0)) p.1)

  pub part-below : (c i k : ℕ) → OfDigits c (field_of m n) → i + k ≤ c → k ≤ 19 → numeral (number_in m n i k) < 10 ^ k
  part-below c i k d h s =
      let ds = unpack c (field_of m n).bytes in
      let p = part-digits i k ds (rw length-unpack h) (unpack-digits c (field_of m n).bytes d.packed) in
      rw (part-is c i k d h s) (rw p.0 at (value-below (take k (drop i ds)) p.1))

  pub digits_sent_lem : (k : ℕ) → OfDigits k (field_of m n) → k ≤ 19 → (digits_sent n k m).field ≡ field_of m n
  digits_sent_lem k d s =
      let b = (field_of m n).bytes in
      let e : number_in m n 0 k ≡ Some (packed_number k b) =
      part-is k 0 k d (omega arith) s
      ∙ rw (take_all k (unpack k b) (rw length-unpack (omega arith)), number-value k b s (unpack-digits k b d.packed)) in
      rw (e, length_digits_of k (packed_number k b), number_packs k b s d.packed, ← d.count)

  pub copies-all : (k : ℕ) → OfText k (field_of m n) → copies m n k ≡ true
  unfolding copies
  copies-all k d = rw (named, eq-eqb k (length (field_of m n).bytes) (sym d.size))

  pub bytes_sent_lem : (k : ℕ) → OfText k (field_of m n) → (bytes_sent n k m).field ≡ field_of m n
  bytes_sent_lem k d = rw (copies-all k d, d.size, ← d.count)

-- field 60 of 11 or 14 digits: only 14 of them say a number of 14
module _ (m : Message) (named : names m.bitmap 60 ≡ true) (c : ℕ) (d : OfDigits c (field_of m 60)) (l : among c (11 ∷ 14 ∷ []) ≡ true)
    (most : c ≤ 14) where
  too_few : c < 14 → number_in m 60 0 14 ≡ None
  unfolding number_in
  too_few h = rw (named, d.count, lt-leb 14 c h)

  codes_count_lem : codes_count (number_in m 60 0 14) ≡ c
  codes_count_lem = go (ℕ_discrete 11 c) (ℕ_discrete 14 c)
    where
      go : Dec (11 ≡ c) → Dec (14 ≡ c) → codes_count (number_in m 60 0 14) ≡ c
      go (yes e) b = rw (too_few (omega arith)) e
      go (no a) (yes e) = rw (part-is m 60 named c 0 14 d (omega arith) (omega arith)) e
      go (no a) (no b) = absurd (true≢false (sym l ∙ rw (ne_eqb 11 c a, ne_eqb 14 c b)))

  pub codes_sent_lem : (codes_sent m).field ≡ field_of m 60
  codes_sent_lem = rw codes_count_lem (digits_sent_lem m 60 named c d (omega arith))
