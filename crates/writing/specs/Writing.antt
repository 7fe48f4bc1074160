-- Document 01, "Read and write a message": writing is judged by 1 (the message buffer alone), then 4 to 8 in the reading's order.
use Rattle.std.specs.Prelude.{List, [], ◌∷◌, ◌++◌, cond, ℕ, ◌/◌, ◌%◌, ltb, eqb, length, get_or, take, drop, Ok, Err, Result}
use Rattle.field.specs.Table.{among, indicators, formats}
use Rattle.field.specs.Bitmap.{names, listed}
use Rattle.field.specs.Contents.{size, room, stands, kept, fault}
use Rattle.field.specs.declared.Format.{Format}
use Rattle.span.specs.Span.{field_bytes}
use Rattle.message.specs.Message.{largest}
use Rattle.message.specs.Late.{late_fault}
use Rattle.message.specs.declared.Message.{Message}

-- what a field of n digits or bytes, with bs at its place, is refused for: length before contents; 0 for nothing
unfoldable pub field_fault : Format → List ℕ → ℕ → List ℕ → ℕ
field_fault f bm n bs =
    cond (names bm f.number) (cond (stands f n) (fault f.class (kept f n) (take (size f.class (kept f n)) bs)) 7) 0

-- the first fault of the fields of a table, ascending
unfoldable pub fields_fault : List Format → List ℕ → List ℕ → List ℕ → ℕ
fields_fault [] bm cs bs = 0
fields_fault (f ∷ fs) bm cs bs =
    cond (eqb (field_fault f bm (get_or cs 0 0) bs) 0)
    (fields_fault fs bm (drop 1 cs) (drop (room f) bs))
    (field_fault f bm (get_or cs 0 0) bs)

-- the bytes of a field, none where the bitmap does not name it; key material of another length has none but those of a length 0
unfoldable pub named_bytes : Format → List ℕ → ℕ → List ℕ → List ℕ
named_bytes f bm n bs = cond (names bm f.number) (field_bytes f (kept f n) (take (size f.class (kept f n)) bs)) []

unfoldable pub fields_bytes : List Format → List ℕ → List ℕ → List ℕ → List ℕ
fields_bytes [] bm cs bs = []
fields_bytes (f ∷ fs) bm cs bs = named_bytes f bm (get_or cs 0 0) bs ++ fields_bytes fs bm (drop 1 cs) (drop (room f) bs)

-- type, bitmap, then fields ascending
abbrev pub head : Message → List ℕ
head m = m.indicator / 256 ∷ m.indicator % 256 ∷ m.bitmap

unfoldable pub message_bytes : Message → List ℕ
message_bytes m = head m ++ fields_bytes formats m.bitmap m.counts m.contents

-- the first fault of a message's fields, or else of the message as a whole
abbrev pub contents_fault : Message → ℕ
contents_fault m =
    cond (eqb (fields_fault formats m.bitmap m.counts m.contents) 0)
    (late_fault m)
    (fields_fault formats m.bitmap m.counts m.contents)

-- 0, or the number that a message is refused by: 4, 5, then 6 to 8 at the first fault of its fields, then the message as a whole
unfoldable pub message_fault : Message → ℕ
message_fault m = cond (among m.indicator indicators) (cond (listed m.bitmap) (contents_fault m) 5) 4

-- the answer of a call with the message buffer after it
pub record WriteResult : Type 0 where
  pub outcome : Result ℕ ℕ
  pub buffer : List ℕ

abbrev pub written : Result ℕ ℕ → List ℕ → WriteResult
written r o = record { outcome = r; buffer = o }

-- bytes past a written message stay; a refusal leaves the buffer
unfoldable pub write_message : Message → List ℕ → WriteResult
write_message m o =
    cond (ltb (length o) largest) (written (Err 1) o)
    (cond (eqb (message_fault m) 0)
    (written (Ok (length (message_bytes m))) (message_bytes m ++ drop (length (message_bytes m)) o))
    (written (Err (message_fault m)) o))
