-- Document 02, request 3: field 62, "24, 40, 56, 60 or 84 bytes of every value", and "24 (and not 7), a field 62 of another length, after 23".
use Rattle.std.specs.Prelude.{◌≡◌, List, [], ◌∷◌, ◌++◌, true, cond, ℕ, ◌+◌, ◌*◌, ◌/◌, ◌%◌, ◌≤◌, length}
use Rattle.field.specs.Table.{among}
use Rattle.field.specs.Bitmap.{names}
use Rattle.elements.specs.Elements.{elements_in_form}
use Rattle.message.specs.Message.{field_of, largest}
use Rattle.message.specs.declared.Message.{Message}
use Rattle.reading.specs.Reading.{read_message, Read, Refused}
use Rattle.writing.specs.Writing.{write_message}
use Rattle.message_theorems.specs.Order.{WriteRefused, as_read}

-- the types that documents 01 and 02 list
abbrev pub type_numbers : List ℕ
type_numbers =
    0x0100 ∷ 0x0110 ∷ 0x0200 ∷ 0x0210 ∷ 0x0220 ∷ 0x0230 ∷ 0x0320 ∷ 0x0330 ∷ 0x0400 ∷ 0x0410 ∷ 0x0500 ∷ 0x0510 ∷ 0x0800 ∷ 0x0810 ∷ []

-- the lengths of key material that document 02 lists
abbrev pub listed_lengths : List ℕ
listed_lengths = 24 ∷ 40 ∷ 56 ∷ 60 ∷ 84 ∷ []

-- contents after their length, four digits in two bytes
abbrev pub with_length : List ℕ → List ℕ
with_length b = (length b / 1000 * 16 + length b / 100 % 10) ∷ (length b / 10 % 10 * 16 + length b % 10) ∷ b

-- the bitmaps that name field 62 alone, and fields 55 and 62
abbrev pub keys_alone : List ℕ
keys_alone = 0x00 ∷ 0x00 ∷ 0x00 ∷ 0x00 ∷ 0x00 ∷ 0x00 ∷ 0x00 ∷ 0x04 ∷ []

abbrev pub chip_and_keys : List ℕ
chip_and_keys = 0x00 ∷ 0x00 ∷ 0x00 ∷ 0x00 ∷ 0x00 ∷ 0x00 ∷ 0x02 ∷ 0x04 ∷ []

-- a field 62 alone, of every length that two bytes say, in every type: it is read, or is 24 and not 7
abbrev pub KeysOfEveryLength : Type 0
KeysOfEveryLength = (x y : ℕ) (k : List ℕ) → among (x * 256 + y) type_numbers ≡ true → length k ≤ 9999
    → (read_message (x ∷ y ∷ (keys_alone ++ with_length k))).outcome ≡ cond (among (length k) listed_lengths) Read (Refused 24)

-- after a field 55, which is 23 where it is not elements in form, whatever the length of field 62
abbrev pub KeysAfterForm : Type 0
KeysAfterForm = (x y : ℕ) (c k : List ℕ) → among (x * 256 + y) type_numbers ≡ true → 1 ≤ length c → length c ≤ 255 → length k ≤ 9999
    → (read_message (x ∷ y ∷ (chip_and_keys ++ (with_length c ++ with_length k)))).outcome
    ≡ cond (elements_in_form c) (cond (among (length k) listed_lengths) Read (Refused 24)) (Refused 23)

-- the field 62 of a message that was read has one of these lengths, and as many bytes
abbrev pub KeysRead : Type 0
KeysRead = (s : List ℕ) → (read_message s).outcome ≡ Read → names (read_message s).message.bitmap 62 ≡ true
    → (among (field_of (read_message s).message 62).count listed_lengths ≡ true)
    × (length (field_of (read_message s).message 62).bytes ≡ (field_of (read_message s).message 62).count)

-- in writing, a field 62 alone, of every count, in every type: it is written, or is 24 and not 7
abbrev pub WriteKeysOfEveryLength : Type 0
WriteKeysOfEveryLength = (m : Message) (o : List ℕ) → largest ≤ length o → among m.indicator type_numbers ≡ true → m.bitmap ≡ keys_alone
    → as_read (write_message m o).outcome ≡ cond (among (field_of m 62).count listed_lengths) Read (Refused 24)

-- and a message that is refused by 24 has elements in form in its field 55, where it has one
abbrev pub WriteKeysAfterForm : Type 0
WriteKeysAfterForm = (m : Message) (o : List ℕ) → WriteRefused 24 m o → names m.bitmap 55 ≡ true
    → elements_in_form (field_of m 55).bytes ≡ true
