-- The message of a list of items that may be held: it is not refused, and holds what the list has.
use mathlib.Core.Path.{◌≡◌, refl, sym, ◌∙◌}
use mathlib.Core.List.{List, [], ◌∷◌, ◌++◌}
use mathlib.Core.Bool.{Bool, true, false, cond, not, ◌&&◌, ◌||◌, or-true, and-eq-true_iff}
use Prim.Native.Nat.{ℕ, ◌+◌, ◌-◌, ◌<◌}
use native.Mathlib.Omega.{arith}
use lib.Dec.{ltb, leb, eqb}
use lib.ListN.{length, get_or, take, drop, length-append}
use borrow.Author.Tests.{lt-ltb, eqb-true, ltb-true, leb-true}
use Rattle.digits.proofs.Lists.{all_true}
use Rattle.field.specs.Table.{among, key_material, formats, indicators, numbers}
use Rattle.field.specs.Bitmap.{bit, names, listed_at, listed}
use Rattle.field.specs.Contents.{size, room, key_lengths, allowed, stands, kept, fault}
use Rattle.field.specs.declared.Format.{Format}
use Rattle.field.proofs.Formats.{length-formats, every}
use Rattle.message.specs.Build.{Item, has, find, padded, bitmap_for, counts_for, contents_for, message_of}
use Rattle.message.specs.Message.{Field, Shaped, field_in, field_of}
use Rattle.message.proofs.Places.{rooms_of, rooms-formats}
use Rattle.message.proofs.Standing.{small, small-formats}
use Rattle.message.specs.Late.{late_fault}
use Rattle.message.proofs.Late.{keys_kept, late_both}
use Rattle.writing.specs.Writing.{field_fault, fields_fault, message_fault}
use Rattle.compose.specs.Compose.{may_hold, all_held}
use Rattle.compose.proofs.Places.{length-padded}
use Rattle.compose.proofs.Bitmaps.{names-has}
use Rattle.compose.proofs.Held.{distinct, distinct-formats, first-distinct, Fitting, fitting_formats, fitting_head, fitting_tail, fitting_stored, stored-drop, stored_bytes, named, nothing, sound_in, held-listed, found-held, found-kept, find_none}

-- its arrays have their lengths
length-counts : (fs : List Format) (xs : List Item) → length (counts_for fs xs) ≡ length fs
length-counts [] xs = refl
length-counts (f ∷ fs) xs = omega (arith, length-counts fs xs)

length-contents : (fs : List Format) (xs : List Item) → distinct fs ≡ true → Fitting fs xs → length (contents_for fs xs) ≡ rooms_of fs
length-contents [] xs d r = refl
length-contents (f ∷ fs) xs d r =
    length-append (padded (room f) (find xs f.number).bytes) (contents_for fs xs)
    ∙ omega (
      arith,
      length-padded (room f) (find xs f.number).bytes (fitting_stored f fs xs r).fits,
      length-contents fs xs (first-distinct f fs xs d).1 (fitting_tail f fs xs d r),
    )

pub shaped : (i : ℕ) (xs : List Item) → all_held xs ≡ true → Shaped (message_of i xs)
shaped i xs h =
    record {
      bitmap_length = refl;
      counts_length = length-counts formats xs ∙ length-formats;
      contents_length = length-contents formats xs distinct-formats (fitting_formats xs h) ∙ rooms-formats;
    }

-- rule 5
bit-has : (xs : List Item) (i : ℕ) → i < 64 → bit (bitmap_for xs) i ≡ has xs (i + 1)
unfolding names
bit-has xs i h =
    let q : i + 1 - 1 ≡ i = omega arith in
    rw (lt-ltb 0 (i + 1) (omega arith), q) at (names-has xs (i + 1) (omega arith) (omega arith))

listed-all : (xs : List Item) → all_held xs ≡ true → listed (bitmap_for xs) ≡ true
unfolding listed listed_at
listed-all xs a = all_true (listed_at (bitmap_for xs)) 64 (λ i h. rw (bit-has xs i h) (go i (has xs (i + 1)) refl))
  where
    go : (i : ℕ) (t : Bool) → has xs (i + 1) ≡ t → cond t (among (i + 1) (numbers formats)) true ≡ true
    go i true h = held-listed formats (named (i + 1) (find xs (i + 1))) (found-held xs (i + 1) a h)
    go i false h = refl

-- rules 6 to 8, for a field and for a table
field-sound : (f : Format) (fs : List Format) (xs : List Item) (rest : List ℕ) → small f ≡ true → Fitting (f ∷ fs) xs
    → field_fault f (bitmap_for xs) (find xs f.number).count (padded (room f) (find xs f.number).bytes ++ rest) ≡ 0
unfolding field_fault
field-sound f fs xs rest s r =
    let b = (and-eq-true_iff (ltb 0 f.number && leb f.number 64) (leb f.high 255)).0 s in
    let a = (and-eq-true_iff (ltb 0 f.number) (leb f.number 64)).0 b.0 in
    rw (names-has xs f.number (ltb-true 0 f.number a.0) (leb-true f.number 64 a.1)) (go (has xs f.number) refl)
  where
    v : Field
    v = find xs f.number

    go : (t : Bool) → has xs f.number ≡ t
        → cond t (cond (stands f v.count) (fault f.class (kept f v.count) (take (size f.class (kept f v.count)) (padded (room f) v.bytes ++ rest))) 7) 0 ≡ 0
    go true h = let d = fitting_head f fs xs r h in rw (d.allows, stored_bytes d.stored rest, d.no_fault)
    go false h = refl

fields-sound : (fs : List Format) (xs : List Item) → every small fs ≡ true → distinct fs ≡ true → Fitting fs xs
    → fields_fault fs (bitmap_for xs) (counts_for fs xs) (contents_for fs xs) ≡ 0
unfolding fields_fault
fields-sound [] xs s d r = refl
fields-sound (f ∷ fs) xs s d r =
    let t = (and-eq-true_iff (small f) (every small fs)).0 s in
    rw (field-sound f fs xs (contents_for fs xs) t.0 r, stored-drop (fitting_stored f fs xs r) (contents_for fs xs))
    (fields-sound fs xs t.1 (first-distinct f fs xs d).1 (fitting_tail f fs xs d r))

-- the field that is held
field_of_lem : (fs : List Format) (xs : List Item) (n : ℕ) → distinct fs ≡ true → Fitting fs xs → among n (numbers fs) ≡ true
    → field_in fs (counts_for fs xs) (contents_for fs xs) n ≡ find xs n
unfolding field_in
field_of_lem [] xs n d r l = let z : ◌≡◌ {A = ℕ} 0 1 = cc in absurd (omega arith)
field_of_lem (f ∷ fs) xs n d r l =
    let s = fitting_stored f fs xs r in
    rw (stored_bytes s (contents_for fs xs), stored-drop s (contents_for fs xs))
    (go (eqb f.number n) refl l (field_of_lem fs xs n (first-distinct f fs xs d).1 (fitting_tail f fs xs d r)))
  where
    go : (t : Bool) → eqb f.number n ≡ t → (t || among n (numbers fs)) ≡ true
        → (among n (numbers fs) ≡ true → field_in fs (counts_for fs xs) (contents_for fs xs) n ≡ find xs n)
        → cond t (find xs f.number) (field_in fs (counts_for fs xs) (contents_for fs xs) n) ≡ find xs n
    go true q l ih = rw (eqb-true f.number n q)
    go false q l ih = ih l

no_field : (fs : List Format) (cs bs : List ℕ) (n : ℕ) → among n (numbers fs) ≡ false → field_in fs cs bs n ≡ nothing
unfolding field_in
no_field [] cs bs n l = refl
no_field (f ∷ fs) cs bs n l = go (eqb f.number n) l (no_field fs (drop 1 cs) (drop (room f) bs) n)
  where
    go : (t : Bool) → (t || among n (numbers fs)) ≡ false
        → (among n (numbers fs) ≡ false → field_in fs (drop 1 cs) (drop (room f) bs) n ≡ nothing)
        → cond t (record { count = get_or cs 0 0; bytes = take (size f.class (get_or cs 0 0)) bs }) (field_in fs (drop 1 cs) (drop (room f) bs) n) ≡ nothing
    go true l ih = let z : ◌≡◌ {A = ℕ} 0 1 = cc in absurd (omega arith)
    go false l ih = ih l

pub held-field : (i : ℕ) (xs : List Item) (n : ℕ) → all_held xs ≡ true → field_of (message_of i xs) n ≡ find xs n
held-field i xs n h = go (among n (numbers formats)) refl
  where
    go : (t : Bool) → among n (numbers formats) ≡ t → field_of (message_of i xs) n ≡ find xs n
    go true l = field_of_lem formats xs n distinct-formats (fitting_formats xs h) l
    go false l = no_field formats _ _ n l ∙ sym (find_none xs n (absent (has xs n) refl))
      where
        absent : (t : Bool) → has xs n ≡ t → has xs n ≡ false
        absent true e = e ∙ sym (held-listed formats (named n (find xs n)) (found-held xs n h e)) ∙ l
        absent false e = e

-- rules 23 and 24
keys-listed : (x : Field) → may_hold formats (named 62 x) ≡ true → among x.count key_lengths ≡ true
unfolding formats allowed
keys-listed x h =
    let a = (sound_in (key_material 62) x h).allows in
    ((and-eq-true_iff (leb 24 x.count && leb x.count 84) (among x.count key_lengths)).0 a).1

keys-sound : (i : ℕ) (xs : List Item) → all_held xs ≡ true → keys_kept (message_of i xs) ≡ true
keys-sound i xs h = rw (names-has xs 62 (omega arith) (omega arith), held-field i xs 62 h) (go (has xs 62) refl)
  where
    go : (t : Bool) → has xs 62 ≡ t → (not t || among (find xs 62).count key_lengths) ≡ true
    go true e = keys-listed (find xs 62) (found-held xs 62 h e)
    go false e = refl

late-sound : (i : ℕ) (xs : List Item) → all_held xs ≡ true → late_fault (message_of i xs) ≡ 0
late-sound i xs h =
    late_both (message_of i xs)
    (rw (held-field i xs 55 h, found-kept xs h) (or-true (not (names (message_of i xs).bitmap 55)))) (keys-sound i xs h)

pub sound : (i : ℕ) (xs : List Item) → among i indicators ≡ true → all_held xs ≡ true → message_fault (message_of i xs) ≡ 0
unfolding message_fault
sound i xs e h =
    rw (e, listed-all xs h, fields-sound formats xs small-formats distinct-formats (fitting_formats xs h)) (late-sound i xs h)
