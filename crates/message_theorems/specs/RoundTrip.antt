-- What is proved of reading and writing, for every message and all bytes.
use Rattle.std.specs.Prelude.{◌≡◌, List, ◌++◌, true, ℕ, ◌≤◌, ◌<◌, length, get_or, take, drop, Ok}
use Rattle.field.specs.Bitmap.{names}
use Rattle.message.specs.Message.{Shaped, field_of, largest}
use Rattle.message.specs.declared.Message.{Message}
use Rattle.reading.specs.Reading.{read_message, Reading, Read}
use Rattle.writing.specs.Writing.{write_message, written}

-- each place holds a byte, as in every slice of bytes
abbrev pub Bytes : List ℕ → Type 0
Bytes s = (i : ℕ) → get_or s i 0 < 256

-- a reading gives a message's type, its bitmap and the fields that the bitmap names
pub record ReadsBack (m : Message) (r : Reading) : Type 0 where
  pub outcome : r.outcome ≡ Read
  pub indicator : r.message.indicator ≡ m.indicator
  pub bitmap : r.message.bitmap ≡ m.bitmap
  pub fields : (n : ℕ) → names m.bitmap n ≡ true → field_of r.message n ≡ field_of m n

-- every message that is written reads back to its fields
abbrev pub WrittenReadsBack : Type 0
WrittenReadsBack = (m : Message) (o : List ℕ) (k : ℕ) → Shaped m → (write_message m o).outcome ≡ Ok k
    → ReadsBack m (read_message (take k (write_message m o).buffer))

-- every message that is read, written again, is the same bytes, and what follows them in the buffer stays
abbrev pub ReadWritesBack : Type 0
ReadWritesBack = (s o : List ℕ) → Bytes s → (read_message s).outcome ≡ Read → largest ≤ length o
    → write_message (read_message s).message o ≡ written (Ok (length s)) (s ++ drop (length s) o)

-- what is written is never longer than the largest message
abbrev pub NeverLonger : Type 0
NeverLonger = (m : Message) (o : List ℕ) (k : ℕ) → Shaped m → (write_message m o).outcome ≡ Ok k → k ≤ largest
