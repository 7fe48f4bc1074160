-- A message with one field more.
use Rattle.std.specs.Prelude.{List, [], ◌∷◌, ◌++◌, Bool, true, false, cond, not, ◌&&◌, ℕ, ◌+◌, ◌-◌, ◌/◌, ◌%◌, ◌^◌, eqb, length, get_or, take, drop, set}
use Rattle.field.specs.Table.{formats}
use Rattle.field.specs.Bitmap.{names}
use Rattle.field.specs.Contents.{size, room, allowed, fault}
use Rattle.field.specs.declared.Format.{Format}
use Rattle.elements.specs.Elements.{elements_in_form}
use Rattle.message.specs.Build.{Item, has, padded}
use Rattle.message.specs.declared.Message.{Message}

-- a field of a table may hold an item: its length is allowed, and its contents are in form
abbrev pub may_hold : List Format → Item → Bool
may_hold [] x = false
may_hold (f ∷ fs) x =
    cond (eqb f.number x.number)
    (allowed f x.field.count
    && eqb (length x.field.bytes) (size f.class x.field.count)
    && eqb (fault f.class x.field.count x.field.bytes) 0)
    (may_hold fs x)

-- rule 23: an item of field 55 is elements in form
abbrev pub chip_kept : Item → Bool
chip_kept x = cond (eqb x.number 55) (elements_in_form x.field.bytes) true

-- the fields may hold all of these items, and the message is written; no field holds two of them
abbrev pub all_held : List Item → Bool
all_held [] = true
all_held (x ∷ xs) = not (has xs x.number) && (may_hold formats x && (chip_kept x && all_held xs))

abbrev pub with_count : List Format → Item → List ℕ → List ℕ
with_count [] x cs = cs
with_count (f ∷ fs) x cs =
    cond (eqb f.number x.number)
    (x.field.count ∷ drop 1 cs)
    (get_or cs 0 0 ∷ with_count fs x (drop 1 cs))

abbrev pub with_contents : List Format → Item → List ℕ → List ℕ
with_contents [] x bs = bs
with_contents (f ∷ fs) x bs =
    cond (eqb f.number x.number)
    (padded (room f) x.field.bytes ++ drop (room f) bs)
    (take (room f) bs ++ with_contents fs x (drop (room f) bs))

-- the bitmap with the bit of field n
unfoldable pub with_bit : ℕ → List ℕ → List ℕ
with_bit n bm =
    cond (names bm n) bm (set bm ((n - 1) / 8) (get_or bm ((n - 1) / 8) 0 + 2 ^ (7 - (n - 1) % 8)))

-- the message with an item that it may hold; any other leaves it
unfoldable pub with_item : Item → Message → Message
with_item x m =
    cond (may_hold formats x)
    (record {
      indicator = m.indicator;
      bitmap = with_bit x.number m.bitmap;
      counts = with_count formats x m.counts;
      contents = with_contents formats x m.contents;
    })
    m

-- the message with these items, put in one after another
abbrev pub with_all : List Item → Message → Message
with_all [] m = m
with_all (x ∷ xs) m = with_all xs (with_item x m)
