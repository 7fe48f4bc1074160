-- What an accepted reading says of the message's fields.
use mathlib.Core.Path.{◌≡◌, refl, ap, ◌∙◌}
use mathlib.Core.List.{List, [], ◌∷◌}
use mathlib.Core.Bool.{Bool, true, false, cond, and-eq-true_iff}
use Prim.Native.Nat.{ℕ, ◌+◌, ◌-◌, ◌≤◌, ◌<◌}
use native.Mathlib.Omega.{arith}
use native.Mathlib.Decide.{ℕ_discrete, dec_lt}
use lib.Dec.{ltb}
use lib.ListN.{length, get_or, drop, length-drop}
use lib.Seq.{length-take-le}
use borrow.Author.Tests.{ltb-true, eq-eqb, ne_eqb}
use Rattle.digits.specs.Digits.{is_packed}
use Rattle.digits.proofs.Lists.{all-at}
use Rattle.field.specs.Table.{among, fixed, formats, numbers}
use Rattle.field.specs.Bitmap.{bit, names, listed_at, listed}
use Rattle.field.specs.Contents.{size, room, allowed, late, all_printable, fault}
use Rattle.field.specs.declared.Class.{Class}
use Rattle.field.specs.declared.Class.TheVariants.{Digits, Printable}
use Rattle.field.specs.declared.Format.{Format}
use Rattle.field.proofs.Contents.{allowed-bounds, digits-packed}
use Rattle.field.proofs.Formats.{length-formats}
use Rattle.field.proofs.Masks.{bit_past}
use Rattle.span.proofs.Held.{size-bound}
use Rattle.message.specs.Message.{Shaped, Field, field_in, field_of}
use Rattle.message.specs.Located.{located, form_at, format_of}
use Rattle.message.specs.Late.{late_fault}
use Rattle.message.specs.declared.Message.{Message}
use Rattle.message.proofs.Late.{late_kept}
use Rattle.message.proofs.Places.{rooms_of, rooms-formats}
use Rattle.reading.specs.Reading.{read_message, Read}
use Rattle.writing.specs.Writing.{field_fault, fields_fault}
use Rattle.writing.proofs.Faults.{field-sound, fields-sound}
use Rattle.message_theorems.proofs.Fields.{row_kept, both_allow}
use Rattle.message_theorems.proofs.Messages.{row_kept_lem, is_read}
use Rattle.message_theorems.specs.Readable.{Keeps, ReadIsListed, ReadKeepsFormats, ReadKeepsForm, ReadIsShaped}

-- a table's fields with no fault: each that is named is as its format says
fields_keep : (fs : List Format) (bm cs bs : List ℕ) → rooms_of fs ≤ length bs → fields_fault fs bm cs bs ≡ 0
    → (n row from : ℕ) → names bm n ≡ true → row_kept fs cs n ≡ true → Keeps (form_at n (located fs n row from)) (field_in fs cs bs n)
unfolding field_in located fields_fault is_packed allowed
fields_keep [] bm cs bs l z n row from e k = record { allows = refl; size_is = refl; no_fault = refl }
fields_keep (f ∷ fs) bm cs bs l z n row from e k =
    let j = fields-sound f fs bm cs bs z in
    go j.0 (fields_keep fs bm (drop 1 cs) (drop (room f) bs) (rw length-drop (omega arith)) j.1 n (row + 1) (from + room f) e) (ℕ_discrete f.number n)
  where
    go : field_fault f bm (get_or cs 0 0) bs ≡ 0
        → (row_kept fs (drop 1 cs) n ≡ true → Keeps (form_at n (located fs n (row + 1) (from + room f))) (field_in fs (drop 1 cs) (drop (room f) bs) n))
        → Dec (f.number ≡ n)
        → Keeps (form_at n (located (f ∷ fs) n row from)) (field_in (f ∷ fs) cs bs n)
    go y ih (yes q) =
        let r = field-sound f bm (get_or cs 0 0) bs (rw q e) y in
        let a = both_allow (allowed f (get_or cs 0 0)) (late f) r.stands_there (rw (eq-eqb f.number n q) at k) in
        rw (eq-eqb f.number n q)
        (record {
          allows = a;
          size_is = length-take-le (size f.class (get_or cs 0 0)) bs (omega (arith, size-bound f (get_or cs 0 0) a));
          no_fault = rw a at r.no_fault;
        })
    go y ih (no q) = rw (ne_eqb f.number n q) (ih (rw (ne_eqb f.number n q) at k))

-- a message that was read
record Accepted (m : Message) : Type 0 where
  shape : Shaped m
  fields_listed : listed m.bitmap ≡ true
  no_fault : fields_fault formats m.bitmap m.counts m.contents ≡ 0
  late : late_fault m ≡ 0

accepted : (s : List ℕ) → (read_message s).outcome ≡ Read → Accepted (read_message s).message
accepted s q =
    let r = is_read s q in
    rw r.message
    (record {
      shape =
          record {
            bitmap_length = length-take-le 8 (drop 2 s) (rw length-drop (omega (arith, r.long)));
            counts_length = r.again.counts_length ∙ length-formats;
            contents_length = r.again.contents_length ∙ rooms-formats;
          };
      fields_listed = r.fields_listed;
      no_fault = r.again.sound;
      late = r.late;
    })

pub read-is-shaped : ReadIsShaped
read-is-shaped s q = (accepted s q).shape

pub read_keeps_formats : ReadKeepsFormats
read_keeps_formats s q n e =
    let r = accepted s q in
    let m = (read_message s).message in
    fields_keep formats m.bitmap m.counts m.contents (omega (arith, rooms-formats, r.shape.contents_length)) r.no_fault n 0 0 e (row_kept_lem m r.late n e)

pub read_keeps_form : ReadKeepsForm
read_keeps_form s q e = rw e at (late_kept (read_message s).message (accepted s q).late).chip

-- a field that is named has a bit of the bitmap
pub bit-listed : (bm : List ℕ) → length bm ≡ 8 → listed bm ≡ true → (n : ℕ) → names bm n ≡ true → among n (numbers formats) ≡ true
unfolding names listed listed_at
bit-listed bm l h n e =
    let t = (and-eq-true_iff (ltb 0 n) (bit bm (n - 1))).0 e in
    let p : 0 < n = ltb-true 0 n t.0 in
    go p t.1 (dec_lt (n - 1) 64)
  where
    go : 0 < n → bit bm (n - 1) ≡ true → Dec (n - 1 < 64) → among n (numbers formats) ≡ true
    go p b (yes k) =
        let q : n - 1 + 1 ≡ n = omega arith in
        rw (b, q) at (all-at (listed_at bm) 64 h (n - 1) k)
    go p b (no k) =
        let f : bit bm (n - 1) ≡ false = bit_past bm (n - 1) (omega arith) in
        absurd (let z : ◌≡◌ {A = ℕ} 0 1 = cc in omega arith)

pub read-is-listed : ReadIsListed
read-is-listed s q n e = let r = accepted s q in bit-listed (read_message s).message.bitmap r.shape.bitmap_length r.fields_listed n e

-- a field of exactly k digits or bytes
fixed-count : (n k : ℕ) (class : Class) (x : Field) → Keeps (fixed n class k) x → x.count ≡ k
fixed-count n k class x r = let b = allowed-bounds (fixed n class k) x.count r.allows in omega arith

pub printable-bytes : (n : ℕ) (b : List ℕ) → fault Printable n b ≡ 0 → all_printable b ≡ true
printable-bytes n b = go (all_printable b)
  where
    go : (t : Bool) → ◌≡◌ {A = ℕ} (cond t 0 8) 0 → t ≡ true
    go true e = refl
    go false e = let z : ◌≡◌ {A = ℕ} 8 0 = e in absurd (omega arith)

-- field n of a message that was read, where it is named and its format has one count
module _ (s : List ℕ) (q : (read_message s).outcome ≡ Read) (n k : ℕ) (named : names (read_message s).message.bitmap n ≡ true) where
  keeps : (class : Class) → format_of n ≡ fixed n class k → Keeps (fixed n class k) (field_of (read_message s).message n)
  keeps class f = rw f at (read_keeps_formats s q n named)

  pub fixed-length : (class : Class) → format_of n ≡ fixed n class k → length (field_of (read_message s).message n).bytes ≡ size class k
  fixed-length class f = let r = keeps class f in r.size_is ∙ ap (size class) (fixed-count n k class _ r)

  pub fixed-packed : format_of n ≡ fixed n Digits k → is_packed k (field_of (read_message s).message n).bytes ≡ true
  fixed-packed f = let r = keeps Digits f in rw (fixed-count n k Digits _ r) at (digits-packed _ _ r.no_fault)

  pub fixed-printable : format_of n ≡ fixed n Printable k → all_printable (field_of (read_message s).message n).bytes ≡ true
  fixed-printable f = printable-bytes (field_of (read_message s).message n).count _ (keeps Printable f).no_fault

format_4 : format_of 4 ≡ fixed 4 Digits 12
unfolding located formats
format_4 = refl

format_13 : format_of 13 ≡ fixed 13 Digits 4
unfolding located formats
format_13 = refl

format_37 : format_of 37 ≡ fixed 37 Printable 12
unfolding located formats
format_37 = refl

format_38 : format_of 38 ≡ fixed 38 Printable 6
unfolding located formats
format_38 = refl

-- fields 4, 13, 37 and 38 of a message that was read, where they are named
module _ (s : List ℕ) (q : (read_message s).outcome ≡ Read) where
  pub amount-count : names (read_message s).message.bitmap 4 ≡ true → (field_of (read_message s).message 4).count ≡ 12
  amount-count e = fixed-count 4 12 Digits _ (rw format_4 at (read_keeps_formats s q 4 e))

  pub date_packed : names (read_message s).message.bitmap 13 ≡ true → is_packed 4 (field_of (read_message s).message 13).bytes ≡ true
  date_packed e = fixed-packed s q 13 4 e format_13

  pub date_length : names (read_message s).message.bitmap 13 ≡ true → length (field_of (read_message s).message 13).bytes ≡ 2
  date_length e = fixed-length s q 13 4 e Digits format_13

  pub reference_printable : names (read_message s).message.bitmap 37 ≡ true → all_printable (field_of (read_message s).message 37).bytes ≡ true
  reference_printable e = fixed-printable s q 37 12 e format_37

  pub reference_length : names (read_message s).message.bitmap 37 ≡ true → length (field_of (read_message s).message 37).bytes ≡ 12
  reference_length e = fixed-length s q 37 12 e Printable format_37

  pub authorisation_printable : names (read_message s).message.bitmap 38 ≡ true → all_printable (field_of (read_message s).message 38).bytes ≡ true
  authorisation_printable e = fixed-printable s q 38 6 e format_38

  pub authorisation_length : names (read_message s).message.bitmap 38 ≡ true → length (field_of (read_message s).message 38).bytes ≡ 6
  authorisation_length e = fixed-length s q 38 6 e Printable format_38
