-- What a message says, in the words of document 01: its type, its fields, and whether an answer matches what was sent.
-- Nothing here is the terminal's own.
use Rattle.std.specs.Prelude.{List, [], ◌∷◌, Bool, true, false, cond, not, ◌&&◌, ◌||◌, ℕ, ◌+◌, leb, eqb, Some, None, Option}
use Rattle.digits.specs.Lists.{same_bytes}
use Rattle.digits.specs.Packed.{numeral}
use Rattle.field.specs.Table.{among}
use Rattle.field.specs.Bitmap.{names}
use Rattle.message.specs.Message.{field_of}
use Rattle.message.specs.declared.Message.{Message}
use Rattle.reading.specs.Reading.{read_message, ReadOutcome, Read, Refused}
use Rattle.parts.specs.Parts.{number_in, part_of}
use Rattle.parts.specs.declared.Part.TheVariants as part

-- bytes as a message
abbrev pub message_in : List ℕ → Message
message_in b = (read_message b).message

abbrev pub reads : ReadOutcome → Bool
reads Read = true
reads (Refused n) = false

-- kind and amount of a request are read from the message sent: 60.1 and field 4
unfoldable pub kind_in : Message → ℕ
kind_in m = numeral (part_of m part.Kind)

unfoldable pub amount_in : Message → ℕ
amount_in m = numeral (number_in m 4 0 12)

-- the messages sent: card requests go as 0100, 0200 or 0220, reversals as 0400, settlements as 0500, the upload's end as
-- 0320 with management code 202, sign-ons as 0800 (document 02, request 3)
unfoldable pub is_request : Message → Bool
is_request m = among m.indicator (0x0100 ∷ 0x0200 ∷ 0x0220 ∷ [])

unfoldable pub is_reversal : Message → Bool
is_reversal m = eqb m.indicator 0x0400

unfoldable pub is_settlement : Message → Bool
is_settlement m = eqb m.indicator 0x0500

unfoldable pub is_end : Message → Bool
is_end m = eqb m.indicator 0x0320 && eqb (numeral (part_of m part.Management)) 202

unfoldable pub is_sign_on : Message → Bool
is_sign_on m = eqb m.indicator 0x0800

-- document 02, request 1: a request with a chip carries field 55
unfoldable pub carries_chip : Message → Bool
carries_chip m = names m.bitmap 55

-- a field of the answer equals the one sent
unfoldable pub same_field : ℕ → Message → Message → Bool
same_field n m a = names a.bitmap n && same_bytes (field_of a n).bytes (field_of m n).bytes

abbrev pub same_number : Option ℕ → Option ℕ → Bool
same_number (Some x) (Some y) = eqb x y
same_number (Some x) None = false
same_number None (Some y) = false
same_number None None = false

-- field 39 is a code
unfoldable pub code_is : ℕ → ℕ → Message → Bool
code_is x y a = names a.bitmap 39 && same_bytes (field_of a 39).bytes (x ∷ y ∷ [])

abbrev pub is_approval : Message → Bool
is_approval a = code_is 0x30 0x30 a

-- document 02, request 4: a request is approved by 00, a sale also by 10, in part
unfoldable pub approves_request : Message → Message → Bool
approves_request m a = is_approval a || eqb (kind_in m) 22 && code_is 0x31 0x30 a

-- field 4 of the approval is that of the request or, in part, from 1 to the amount asked
unfoldable pub amount_fits : Message → Message → Bool
amount_fits m a = cond (is_approval a) (same_field 4 m a) (leb 1 (amount_in a) && leb (amount_in a) (amount_in m))

-- the reconciliation digit of field 48
unfoldable pub digit_in : Message → ℕ
digit_in a = numeral (part_of a part.Reconciliation)

-- matches if its type is the awaited one plus 10, and 11, 41, 42 and 60.2 equal those sent; the answer to a sign-on matches without 60.2
unfoldable pub matches_message : Message → Message → Bool
matches_message m a =
    eqb a.indicator (m.indicator + 0x10)
    && same_field 11 m a && same_field 41 m a && same_field 42 m a
    && (is_sign_on m || same_number (part_of a part.Batch) (part_of m part.Batch))

-- the batch number that an answer brings, 60.2
unfoldable pub batch_in : Message → ℕ
batch_in a = numeral (part_of a part.Batch)

-- it must hold 39, but an 0510 must hold 48 instead, its digit 1, 2 or 3; a card approval also needs 4, 13 and 37; a sign-on's 00 needs a
-- batch number other than 000000, and key material
unfoldable pub holds_its_fields : Message → Message → Bool
holds_its_fields m a =
    cond (is_settlement m)
    (leb 1 (digit_in a) && leb (digit_in a) 3)
    (names a.bitmap 39
    && (not (is_request m && approves_request m a) || amount_fits m a && names a.bitmap 13 && names a.bitmap 37)
    && (not (is_sign_on m && is_approval a) || leb 1 (batch_in a) && leb (batch_in a) 999999 && names a.bitmap 62))

-- these bytes are a matching answer to the message sent
unfoldable pub is_matching : Message → List ℕ → Bool
is_matching m b = reads (read_message b).outcome && matches_message m (message_in b) && holds_its_fields m (message_in b)

-- the MAC is good: the key pad says so, and there is a field 64
unfoldable pub mac_good : Bool → Message → Bool
mac_good good a = good && names a.bitmap 64

-- 00 with good MAC, 25 or 12 ends a reversal
unfoldable pub ends_it : Bool → Message → Bool
ends_it good a = is_approval a && mac_good good a || code_is 0x32 0x35 a || code_is 0x31 0x32 a

-- a closing is an accepted 0510 with digit 1, or an accepted 0330 with 00 to the upload's end
unfoldable pub closes_batch : Message → Message → Bool
closes_batch m a = is_settlement m && eqb (digit_in a) 1 || is_end m && is_approval a

-- the kinds: 22 sale, 23 sale void, 25 refund, 10 pre-authorisation, 11 its void, 20 completion, 21 completion void
abbrev pub listed_kinds : List ℕ
listed_kinds = 10 ∷ 11 ∷ 20 ∷ 21 ∷ 22 ∷ 23 ∷ 25 ∷ []

-- debit is 20 and 22, credit is 21, 23, 25
abbrev pub debit_kinds : List ℕ
debit_kinds = 20 ∷ 22 ∷ []

abbrev pub credit_kinds : List ℕ
credit_kinds = 21 ∷ 23 ∷ 25 ∷ []

unfoldable pub is_debit : Message → Bool
is_debit m = among (kind_in m) debit_kinds

unfoldable pub is_credit : Message → Bool
is_credit m = among (kind_in m) credit_kinds

-- a 23 voids a 22, a 21 a 20
abbrev pub void_kinds : List ℕ
void_kinds = 21 ∷ 23 ∷ []

abbrev pub voided_kind : ℕ → ℕ
voided_kind kind = cond (eqb kind 23) 22 20

-- the desk keys a date for 11, 20 and 25, an authorisation for 11 and 20
abbrev pub dated_kinds : List ℕ
dated_kinds = 11 ∷ 20 ∷ 25 ∷ []

abbrev pub authorised_kinds : List ℕ
authorised_kinds = 11 ∷ 20 ∷ []

-- a sale or a pre-authorisation may be paid with a chip
abbrev pub chip_kinds : List ℕ
chip_kinds = 10 ∷ 22 ∷ []

-- types: 10 and 11 go as 0100; 20 to 23 as 0200; 25 as 0220
unfoldable pub type_for : ℕ → ℕ
type_for kind = cond (among kind (10 ∷ 11 ∷ [])) 0x0100 (cond (eqb kind 25) 0x0220 0x0200)

-- field 3: 030000 for 10; 000000 for 20 and 22; 200000 otherwise
unfoldable pub processing_for : ℕ → List ℕ
processing_for kind =
    cond (eqb kind 10) (0 ∷ 3 ∷ 0 ∷ 0 ∷ 0 ∷ 0 ∷ [])
    (cond (among kind (20 ∷ 22 ∷ [])) (0 ∷ 0 ∷ 0 ∷ 0 ∷ 0 ∷ 0 ∷ []) (2 ∷ 0 ∷ 0 ∷ 0 ∷ 0 ∷ 0 ∷ []))

-- field 25: 06 for 10, 11, 20, 21, else 00
unfoldable pub condition_for : ℕ → List ℕ
condition_for kind = cond (among kind (10 ∷ 11 ∷ 20 ∷ 21 ∷ [])) (0 ∷ 6 ∷ []) (0 ∷ 0 ∷ [])
