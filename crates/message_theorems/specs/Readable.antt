-- What is proved of every message that was read: rules 5 to 8 and 23 hold of the fields that it names.
use Rattle.std.specs.Prelude.{◌≡◌, List, true, ℕ, length}
use Rattle.field.specs.Table.{among, formats, numbers}
use Rattle.field.specs.Bitmap.{names}
use Rattle.field.specs.Contents.{size, allowed, fault}
use Rattle.field.specs.declared.Format.{Format}
use Rattle.elements.specs.Elements.{elements_in_form}
use Rattle.message.specs.Message.{Shaped, Field, field_of}
use Rattle.message.specs.Located.{format_of}
use Rattle.reading.specs.Reading.{read_message, Read}

-- a field has an allowed count, as many bytes as that takes, and no fault in them
pub record Keeps (f : Format) (x : Field) : Type 0 where
  pub allows : allowed f x.count ≡ true
  pub size_is : length x.bytes ≡ size f.class x.count
  pub no_fault : fault f.class x.count x.bytes ≡ 0

-- every field that a message names is listed
abbrev pub ReadIsListed : Type 0
ReadIsListed = (s : List ℕ) → (read_message s).outcome ≡ Read
    → (n : ℕ) → names (read_message s).message.bitmap n ≡ true → among n (numbers formats) ≡ true

-- and is as its format says
abbrev pub ReadKeepsFormats : Type 0
ReadKeepsFormats = (s : List ℕ) → (read_message s).outcome ≡ Read
    → (n : ℕ) → names (read_message s).message.bitmap n ≡ true → Keeps (format_of n) (field_of (read_message s).message n)

-- and its field 55 is elements in form
abbrev pub ReadKeepsForm : Type 0
ReadKeepsForm = (s : List ℕ) → (read_message s).outcome ≡ Read
    → names (read_message s).message.bitmap 55 ≡ true → elements_in_form (field_of (read_message s).message 55).bytes ≡ true

-- a message has the lengths of its type's arrays
abbrev pub ReadIsShaped : Type 0
ReadIsShaped = (s : List ℕ) → (read_message s).outcome ≡ Read → Shaped (read_message s).message
