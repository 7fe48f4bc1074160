-- A message as it is shown: its type, a line for each field that it names, and its length. Digits are written as digits, printable
-- text in double quotes, other bytes in hexadecimal; field 2 is the card number.
use Rattle.std.specs.Prelude.{List, [], ◌∷◌, ◌++◌, Bool, cond, ℕ, ◌/◌, ◌%◌, eqb, get_or, take, drop}
use Rattle.field.specs.Table.{formats}
use Rattle.field.specs.Bitmap.{names}
use Rattle.field.specs.Contents.{size, room}
use Rattle.field.specs.declared.Class.{Class}
use Rattle.field.specs.declared.Class.TheVariants.{Digits, Printable, Any}
use Rattle.field.specs.declared.Format.{Format}
use Rattle.message.specs.declared.Message.{Message}
use Rattle.hexadecimal.specs.Hexadecimal.{to_hex}
use Rattle.texts.specs.Decimal.{decimal}
use Rattle.texts.specs.Text.{text, space, feed}
use Rattle.masking.specs.Masking.{digits_text}

-- a field's contents b of n digits or bytes
abbrev pub contents_text : Class → Bool → ℕ → List ℕ → List ℕ
contents_text Digits card n b = digits_text card n b
contents_text Printable card n b = text "\"" ++ b ++ text "\""
contents_text Any card n b = to_hex b

-- a field's number and its contents
unfoldable pub field_line : Format → ℕ → List ℕ → List ℕ
field_line f n b = decimal f.number ++ space ++ contents_text f.class (eqb f.number 2) n b ++ feed

-- the line of a field that a bitmap names; its contents stand at the front of bs
unfoldable pub named_line : Format → List ℕ → ℕ → List ℕ → List ℕ
named_line f bm n bs = cond (names bm f.number) (field_line f n (take (size f.class n) bs)) []

-- the lines of a table's fields, whose counts and contents stand one after another
unfoldable pub field_lines : List Format → List ℕ → List ℕ → List ℕ → List ℕ
field_lines [] bm cs bs = []
field_lines (f ∷ fs) bm cs bs = named_line f bm (get_or cs 0 0) bs ++ field_lines fs bm (drop 1 cs) (drop (room f) bs)

-- the four digits of a type
abbrev pub type_line : ℕ → List ℕ
type_line i = text "type " ++ to_hex (i / 256 ∷ i % 256 ∷ []) ++ feed

abbrev pub end_line : ℕ → List ℕ
end_line n = text "end " ++ decimal n ++ feed

-- a message of n bytes
unfoldable pub message_text : Message → ℕ → List ℕ
message_text m n = type_line m.indicator ++ field_lines formats m.bitmap m.counts m.contents ++ end_line n
