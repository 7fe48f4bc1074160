-- Document 01, "Why a call is turned down", and document 02: the order of checks in reading and in writing, said of all bytes and of every message.
use Rattle.std.specs.Prelude.{◌≡◌, List, [], ◌∷◌, ◌++◌, true, false, ℕ, ◌+◌, ◌*◌, ◌≤◌, ◌<◌, length, take, Result, Ok, Err}
use Rattle.field.specs.Table.{among, indicators}
use Rattle.field.specs.Bitmap.{names}
use Rattle.message.specs.Message.{Shaped, largest}
use Rattle.message.specs.declared.Message.{Message}
use Rattle.reading.specs.Reading.{read_message, ReadOutcome}
use Rattle.reading.specs.Reading as reading
use Rattle.writing.specs.Writing.{message_bytes, write_message}

-- the fields that documents 01 and 02 list
abbrev pub field_numbers : List ℕ
field_numbers =
    2 ∷ 3 ∷ 4 ∷ 11 ∷ 12 ∷ 13 ∷ 14 ∷ 15 ∷ 22 ∷ 25 ∷ 32 ∷ 37 ∷ 38 ∷ 39 ∷ 41 ∷ 42 ∷ 44 ∷ 48 ∷ 49 ∷ 54 ∷ 55 ∷ 60 ∷ 61 ∷ 62 ∷ 63 ∷ 64 ∷ []

-- reading these bytes, or writing this message into this buffer, is refused by n
abbrev pub ReadRefused : ℕ → List ℕ → Type 0
ReadRefused n b = (read_message b).outcome ≡ reading.Refused n

abbrev pub WriteRefused : ℕ → Message → List ℕ → Type 0
WriteRefused n m o = (write_message m o).outcome ≡ Err n

-- under 10 bytes is 3
abbrev pub ShortIsThree : Type 0
ShortIsThree = (b : List ℕ) → length b < 10 → ReadRefused 3 b

-- then come 4, whatever follows the type, and 5, whatever follows the bitmap
pub record TypeBeforeBitmap : Type 0 where
  pub type_not_listed : (x y : ℕ) (rest : List ℕ) → 8 ≤ length rest → among (x * 256 + y) indicators ≡ false
      → ReadRefused 4 (x ∷ y ∷ rest)
  pub field_not_listed : (x y : ℕ) (bitmap rest : List ℕ) → length bitmap ≡ 8 → among (x * 256 + y) indicators ≡ true
      → (n : ℕ) → names bitmap n ≡ true → among n field_numbers ≡ false → ReadRefused 5 (x ∷ y ∷ (bitmap ++ rest))

-- bytes that are refused by 4 to 9 are refused by the same number whatever follows them: no later fault hides an earlier one
abbrev pub FaultStands : Type 0
FaultStands = (b rest : List ℕ) (n : ℕ) → 4 ≤ n → n ≤ 9 → ReadRefused n b → ReadRefused n (b ++ rest)

-- bytes that no rule up to 9 refuses: they are read, or a rule on the message as a whole refuses them
abbrev pub Whole : List ℕ → Type 0
Whole b = (n : ℕ) → n ≤ 9 → ReadRefused n b → ⊥

-- bytes that follow a message are 9
abbrev pub LongerIsNine : Type 0
LongerIsNine = (b : List ℕ) (x : ℕ) (rest : List ℕ) → Whole b → ReadRefused 9 (b ++ (x ∷ rest))

-- a message that ends early is 3, wherever it ends
abbrev pub CutIsThree : Type 0
CutIsThree = (b : List ℕ) (k : ℕ) → Whole b → k < length b → ReadRefused 3 (take k b)

-- document 02, requests 1 and 3: 23 and 24 come after 9, so that one byte more hides them
abbrev pub FormAfterEnd : Type 0
FormAfterEnd = (b : List ℕ) (x n : ℕ) → among n (23 ∷ 24 ∷ []) ≡ true → ReadRefused n b → ReadRefused 9 (b ++ (x ∷ []))

-- reading is judged by 3 to 9, by 23 and by 24
abbrev pub reading_rules : List ℕ
reading_rules = 3 ∷ 4 ∷ 5 ∷ 6 ∷ 7 ∷ 8 ∷ 9 ∷ 23 ∷ 24 ∷ []

abbrev pub ReadJudgedBy : Type 0
ReadJudgedBy = (b : List ℕ) (n : ℕ) → ReadRefused n b → among n reading_rules ≡ true

-- a message buffer below the largest message is 1, whatever the message
abbrev pub SmallBufferIsOne : Type 0
SmallBufferIsOne = (m : Message) (o : List ℕ) → length o < largest → WriteRefused 1 m o

-- then come 4, whatever the bitmap and the fields, and 5, whatever the fields
pub record WriteTypeBeforeBitmap : Type 0 where
  pub type_not_listed : (m : Message) (o : List ℕ) → largest ≤ length o → among m.indicator indicators ≡ false → WriteRefused 4 m o
  pub field_not_listed : (m : Message) (o : List ℕ) → Shaped m → largest ≤ length o → among m.indicator indicators ≡ true
      → (n : ℕ) → names m.bitmap n ≡ true → among n field_numbers ≡ false → WriteRefused 5 m o

-- writing is judged by 1, by 4 to 8, by 23 and by 24
abbrev pub writing_rules : List ℕ
writing_rules = 1 ∷ 4 ∷ 5 ∷ 6 ∷ 7 ∷ 8 ∷ 23 ∷ 24 ∷ []

abbrev pub WriteJudgedBy : Type 0
WriteJudgedBy = (m : Message) (o : List ℕ) (n : ℕ) → WriteRefused n m o → among n writing_rules ≡ true

-- what reading says where writing has said this
abbrev pub as_read : Result ℕ ℕ → ReadOutcome
as_read (Ok k) = reading.Read
as_read (Err n) = reading.Refused n

-- in the reading's order: a message that is not refused by 7 is judged as its bytes are read; a count that is not allowed may have no length bytes
abbrev pub WriteJudgesAsRead : Type 0
WriteJudgesAsRead = (m : Message) (o : List ℕ) → Shaped m → largest ≤ length o → (WriteRefused 7 m o → ⊥)
    → (read_message (message_bytes m)).outcome ≡ as_read (write_message m o).outcome
