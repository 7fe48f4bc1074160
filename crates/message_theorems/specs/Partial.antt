-- Document 02, request 4: "Field 60 of 11 or 14 digits" and "Field 54 (20 printable bytes, variable form)".
use Rattle.std.specs.Prelude.{◌≡◌, List, [], ◌∷◌, true, ℕ, length}
use Rattle.field.specs.Table.{among}
use Rattle.field.specs.Bitmap.{names}
use Rattle.field.specs.Contents.{all_printable}
use Rattle.message.specs.Message.{field_of}
use Rattle.reading.specs.Reading.{read_message, Read}

-- the field 60 of a message that was read has 11 or 14 digits
abbrev pub CodesRead : Type 0
CodesRead = (s : List ℕ) → (read_message s).outcome ≡ Read → names (read_message s).message.bitmap 60 ≡ true
    → among (field_of (read_message s).message 60).count (11 ∷ 14 ∷ []) ≡ true

-- its field 54 has 20 bytes, each of them printable
abbrev pub BalanceRead : Type 0
BalanceRead = (s : List ℕ) → (read_message s).outcome ≡ Read → names (read_message s).message.bitmap 54 ≡ true
    → (length (field_of (read_message s).message 54).bytes ≡ 20) × (all_printable (field_of (read_message s).message 54).bytes ≡ true)
