-- An answer that repeats the fields of what left is written, and what is written matches.
use Rattle.std.specs.Prelude.{Some, Option, Ok}
use mathlib.Core.Path.{◌≡◌, refl, ◌∙◌}
use mathlib.Core.List.{List, [], ◌∷◌}
use mathlib.Core.Bool.{true, ◌||◌, or-true}
use Prim.Native.Nat.{ℕ, ◌+◌, ◌≤◌, ◌<◌}
use native.Mathlib.Omega.{arith}
use lib.ListN.{length}
use borrow.Author.Tests.{eq-eqb}
use Rattle.digits.specs.Lists.{same_bytes}
use Rattle.digits.proofs.Lists.{same_bytes_lem}
use Rattle.field.specs.Bitmap.{names}
use Rattle.field.specs.Table.{among, formats, indicators, variable, codes}
use Rattle.field.specs.declared.Class.TheVariants.{Digits, Printable}
use Rattle.field.specs.declared.Prefix.TheVariants.{Absent}
use Rattle.field.proofs.Contents.{allowed-bounds}
use Rattle.message.specs.Build.{Item, bytes, has, find, message_of}
use Rattle.message.specs.Message.{Field, field_of, largest}
use Rattle.message.specs.declared.Message.{Message}
use Rattle.reading.specs.Reading.{read_message}
use Rattle.writing.specs.Writing.{message_bytes, write_message}
use Rattle.parts.specs.Parts.{number_in, part_of}
use Rattle.parts.specs.declared.Part.TheVariants as part
use Rattle.compose.specs.Compose.{all_held}
use Rattle.outgoing.proofs.Leaving.{written_is}
use Rattle.outgoing_theorems.specs.Theorems.{outgoing_bytes, Reads}
use Rattle.outgoing_theorems.proofs.Theorems.{sent-reads_back}
use Rattle.message.specs.Located.{located, format_of}
use Rattle.message_theorems.specs.Readable.{Keeps}
use Rattle.message_theorems.proofs.Readable.{read_keeps_formats}
use Rattle.message_theorems.proofs.Partial.{codes-read}
use Rattle.centre.specs.Centre.{digits_sent, codes_sent, bytes_sent}
use Rattle.history.specs.Words.{message_in, is_sign_on, same_field, same_number, code_is, matches_message, holds_its_fields, is_matching}
use Rattle.centre_theorems.specs.Theorems.{HasLeft, Answers}
use Rattle.centre_theorems.proofs.Kept.{OfDigits, OfText, of-digits, of-text, of-codes, part-is, digits_sent_lem, codes_sent_lem, bytes_sent_lem}

-- the formats of the fields that are repeated
format_4 : format_of 4 ≡ variable 4 Digits Absent 12 12
unfolding located formats
format_4 = refl

format_11 : format_of 11 ≡ variable 11 Digits Absent 6 6
unfolding located formats
format_11 = refl

format_41 : format_of 41 ≡ variable 41 Printable Absent 8 8
unfolding located formats
format_41 = refl

format_42 : format_of 42 ≡ variable 42 Printable Absent 15 15
unfolding located formats
format_42 = refl

format_60 : format_of 60 ≡ codes 60
unfolding located formats
format_60 = refl

-- what left, in form
pub record InForm (m : Message) : Type 0 where
  pub trace : OfDigits 6 (field_of m 11)
  pub terminal : OfText 8 (field_of m 41)
  pub merchant : OfText 15 (field_of m 42)
  pub codes_form : OfDigits (field_of m 60).count (field_of m 60)
  pub codes_bounds : (11 ≤ (field_of m 60).count) × ((field_of m 60).count ≤ 14)
  pub codes_repeated : (codes_sent m).field ≡ field_of m 60

module _ (b : List ℕ) (h : HasLeft b) where
  pub in_form_lem : InForm (message_in b)
  in_form_lem =
      let m = message_in b in
      let keeps = read_keeps_formats b h.reads in
      let k : Keeps (codes 60) (field_of m 60) = rw format_60 at (keeps 60 h.batch) in
      let f = of-codes 60 (field_of m 60) k in
      let w = allowed-bounds (codes 60) (field_of m 60).count k.allows in
      record {
        trace = of-digits 11 6 Absent _ (rw format_11 at (keeps 11 h.trace));
        terminal = of-text 41 8 Absent _ (rw format_41 at (keeps 41 h.terminal));
        merchant = of-text 42 15 Absent _ (rw format_42 at (keeps 42 h.merchant));
        codes_form = f;
        codes_bounds = w;
        codes_repeated = codes_sent_lem m h.batch (field_of m 60).count f (codes-read b h.reads h.batch) w.1;
      }

  pub amount_in-form : names (message_in b).bitmap 4 ≡ true → OfDigits 12 (field_of (message_in b) 4)
  amount_in-form e = of-digits 4 12 Absent _ (rw format_4 at (read_keeps_formats b h.reads 4 e))

-- a list has field n, and it holds this
abbrev pub Holds : List Item → ℕ → Field → Type 0
Holds xs n x = (has xs n ≡ true) × (find xs n ≡ x)

-- the fields that every answer repeats
pub record Repeats (m : Message) (xs : List Item) : Type 0 where
  pub trace : Holds xs 11 (digits_sent 11 6 m).field
  pub terminal : Holds xs 41 (bytes_sent 41 8 m).field
  pub merchant : Holds xs 42 (bytes_sent 42 15 m).field

-- what is written says the batch number sent; to a sign-on it need not
abbrev pub BatchMatches : List ℕ → List ℕ → Type 0
BatchMatches b s = (is_sign_on (message_in b) || same_number (part_of (message_in s) part.Batch) (part_of (message_in b) part.Batch)) ≡ true

module _ (s : List ℕ) {i : ℕ} {xs : List Item} (r : Reads i xs (read_message s)) (m : Message) where
  -- a field is repeated
  pub field_repeated : (n : ℕ) → 0 < n → n ≤ 64 → Holds xs n (field_of m n) → same_field n m (message_in s) ≡ true
  unfolding same_field
  field_repeated n p q h = rw (r.named n p q, h.0, r.fields n h.0, h.1) (same_bytes_lem (field_of m n).bytes)

  -- its code
  pub code_read : (code : List ℕ) → Holds xs 39 (bytes 39 code).field → (x y : ℕ) → code_is x y (message_in s) ≡ same_bytes code (x ∷ y ∷ [])
  unfolding code_is
  code_read code h x y = rw (r.named 39 (omega arith) (omega arith), h.0, r.fields 39 h.0, h.1)

  number_repeated : (n at k : ℕ) → 0 < n → n ≤ 64 → Holds xs n (field_of m n) → names m.bitmap n ≡ true
      → number_in (message_in s) n at k ≡ number_in m n at k
  unfolding number_in
  number_repeated n at k p q h g = rw (r.named n p q, h.0, r.fields n h.0, h.1, g)

same_number_lem : (x y : Option ℕ) (n : ℕ) → x ≡ y → y ≡ Some n → same_number x y ≡ true
same_number_lem x y n e q = rw (e, q) (eq-eqb n n refl)

-- what is written of an answer to b
module _ (b : List ℕ) (left : HasLeft b) (s : List ℕ) {i : ℕ} {xs : List Item} (r : Reads i xs (read_message s)) where
  pub batch_repeated : Holds xs 60 (codes_sent (message_in b)).field → BatchMatches b s
  batch_repeated h =
      let m = message_in b in
      let f = in_form_lem b left in
      let w = f.codes_bounds in
      let p : Holds xs 60 (field_of m 60) = (h.0, h.1 ∙ f.codes_repeated) in
      let n : number_in (message_in s) 60 2 6 ≡ number_in m 60 2 6 =
      number_repeated s r m 60 2 6 (omega arith) (omega arith) p left.batch in
      rw (same_number_lem (part_of (message_in s) part.Batch) (part_of m part.Batch) _ n
      (part-is m 60 left.batch (field_of m 60).count 2 6 f.codes_form (omega arith) (omega arith)))
      (or-true (is_sign_on m))

  pub repeated : i ≡ (message_in b).indicator + 0x10 → Repeats (message_in b) xs → BatchMatches b s
      → matches_message (message_in b) (message_in s) ≡ true
  unfolding matches_message
  repeated e t q =
      let m = message_in b in
      let f = in_form_lem b left in
      let field = field_repeated s r m in
      rw (
        eq-eqb (message_in s).indicator (m.indicator + 0x10) (r.indicator ∙ e),
        field 11 (omega arith) (omega arith) (t.trace.0, t.trace.1 ∙ digits_sent_lem m 11 left.trace 6 f.trace (omega arith)),
        field 41 (omega arith) (omega arith) (t.terminal.0, t.terminal.1 ∙ bytes_sent_lem m 41 left.terminal 8 f.terminal),
        field 42 (omega arith) (omega arith) (t.merchant.0, t.merchant.1 ∙ bytes_sent_lem m 42 left.merchant 15 f.merchant),
      )
      q

  pub matching : matches_message (message_in b) (message_in s) ≡ true → holds_its_fields (message_in b) (message_in s) ≡ true
      → is_matching (message_in b) s ≡ true
  unfolding is_matching
  matching p q = rw (r.outcome, p, q)

-- an answer with these fields
module _ (o : List ℕ) {a : Message} (i : ℕ) (xs : List Item) (e : a ≡ message_of i xs) (l : among i indicators ≡ true)
    (h : all_held xs ≡ true) (room : largest ≤ length o) where
  pub reads_back : Reads i xs (read_message (outgoing_bytes a o))
  reads_back = rw e (sent-reads_back i xs o l h room)

  pub is-written : (write_message a o).outcome ≡ Ok (length (message_bytes (message_of i xs)))
  is-written = rw (e, written_is i xs o l h room)

  pub answers : (b : List ℕ) → HasLeft b → i ≡ (message_in b).indicator + 0x10 → Repeats (message_in b) xs
      → BatchMatches b (outgoing_bytes a o) → holds_its_fields (message_in b) (message_in (outgoing_bytes a o)) ≡ true → Answers b o a
  answers b left q t n g =
      record {
        size = length (message_bytes (message_of i xs));
        accepted = is-written;
        matching = matching b left (outgoing_bytes a o) reads_back (repeated b left (outgoing_bytes a o) reads_back q t n) g;
      }
