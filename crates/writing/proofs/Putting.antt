-- The bytes of a message: how many there are, and what the loop that writes the fields keeps.
use Rattle.std.specs.Prelude.{Result, Ok, Err}
use mathlib.Core.Path.{◌≡◌, refl, ap, sym, ◌∙◌}
use mathlib.Core.List.{List, [], ◌∷◌, ◌++◌, append_assoc, append-nil}
use mathlib.Core.Bool.{Bool, true, false, cond}
use Prim.Native.Nat.{ℕ, ◌+◌, ◌-◌, ◌*◌, ◌≤◌, ◌<◌}
use native.Mathlib.Omega.{arith}
use mir.Syntax.{w64}
use mir.Val.{Fits}
use lib.Dec.{eqb}
use lib.ListN.{length, get_or, take, drop, set, length-append, length-drop, length-take, length-set}
use lib.Seq.{drop-drop, take_at, drop_at, take-add, take-length, length-take-le}
use borrow.Author.Tests.{le-ltb, eq-eqb, ne_eqb}
use Rattle.checks.specs.Refusals.{number_of, refused_by}
use Rattle.checks.specs.declared.Refusal.{Refusal}
use Rattle.checks.proofs.Refusals.{number_positive, ok_same}
use Rattle.digits.proofs.Lists.{tail_part, put_tail}
use Rattle.field.specs.Table.{among, indicators, formats, rows}
use Rattle.field.specs.Bitmap.{names, listed}
use Rattle.field.specs.Contents.{size, room, skip, stands, kept, fault}
use Rattle.field.specs.declared.Format.{Format}
use Rattle.field.proofs.Formats.{drop-formats}
use Rattle.span.specs.Span.{field_bytes}
use Rattle.span.proofs.Held.{kept-bound}
use Rattle.span.proofs.Bytes.{length-field}
use Rattle.message.specs.Message.{largest, Shaped, rooms}
use Rattle.message.specs.Late.{late_fault}
use Rattle.message.specs.declared.Message.{Message}
use Rattle.message.proofs.Places.{width, widths_of, largest-formats, At, Place, place_none, place-part, place-more, place-room, first_count}
use Rattle.contents.proofs.Taken.{copied}
use Rattle.field_writing.specs.Placing.{held_fault, put_fault, Placing}
use Rattle.field_writing.proofs.Counts.{set-two}
use Rattle.field_writing.proofs.Parts.{placing_refused}
use Rattle.writing.specs.Writing.{field_fault, fields_fault, named_bytes, fields_bytes, head, message_bytes, message_fault, written, write_message}
use Rattle.writing.proofs.Faults.{fields-sound, fault_inversion}

pub field_fits : (f : Format) (bm : List ℕ) (n : ℕ) (bs : List ℕ) → field_fault f bm n bs ≡ 0 → length (named_bytes f bm n bs) ≤ width f
unfolding named_bytes
field_fits f bm n bs h = go (names bm f.number) refl
  where
    go : (b : Bool) → names bm f.number ≡ b → length (cond b (field_bytes f (kept f n) (take (size f.class (kept f n)) bs)) []) ≤ width f
    go true e = rw length-field (omega (arith, kept-bound f n, length-take (size f.class (kept f n)) bs))
    go false e = omega arith

fields_fit : (fs : List Format) (bm cs bs : List ℕ) → fields_fault fs bm cs bs ≡ 0 → length (fields_bytes fs bm cs bs) ≤ widths_of fs
unfolding fields_bytes
fields_fit [] bm cs bs h = omega arith
fields_fit (f ∷ fs) bm cs bs h =
    let s = fields-sound f fs bm cs bs h in
    rw length-append (omega (arith, field_fits f bm (get_or cs 0 0) bs s.0, fields_fit fs bm (drop 1 cs) (drop (room f) bs) s.1))

pub formats_fit : (bm cs bs : List ℕ) → fields_fault formats bm cs bs ≡ 0 → 10 + length (fields_bytes formats bm cs bs) ≤ largest
formats_fit bm cs bs h = omega (arith, largest-formats, fields_fit formats bm cs bs h)

pub message-fits : (m : Message) → Shaped m → message_fault m ≡ 0 → length (message_bytes m) ≤ largest
unfolding message_bytes
message-fits m s h =
    rw length-append (omega (arith, s.bitmap_length, formats_fit m.bitmap m.counts m.contents (fault_inversion m h).no_fault))

-- with room for the largest, a field is refused for its count or its contents alone
put_fault_lem : (f : Format) (n : ℕ) (bs o : List ℕ) → room f ≤ length bs → width f ≤ length o
    → put_fault f n bs o ≡ cond (stands f n) (fault f.class (kept f n) (take (size f.class (kept f n)) bs)) 7
unfolding put_fault held_fault
put_fault_lem f n bs o hb ho =
    let s = kept-bound f n in
    rw (
      le-ltb (length bs) (size f.class (kept f n)) (omega arith),
      le-ltb (length o) (skip f.prefix + size f.class (kept f n)) (omega arith),
    )

-- what code counts with at place k
pub row_fits : {k : ℕ} → k < rows → Fits w64 (k * 6) × Fits w64 (k * 2) × Fits w64 (k + 1)
row_fits h = (omega arith, omega arith, omega arith)

pub row_less : {k : ℕ} → k < rows → rows - (k + 1) < rows - k
row_less h = omega arith

-- the fields before place k have no fault and are written, before at
pub record Putting (bm cs bs : List ℕ) (most k at : ℕ) (out : List ℕ) : Type 0 where
  pub from : ℕ
  pub place : Place bs k from
  pub fits : at + widths_of (drop k formats) ≤ most
  pub len : length out ≡ most
  pub faults : fields_fault formats bm cs bs ≡ fields_fault (drop k formats) bm (drop k cs) (drop from bs)
  pub whole : fields_bytes formats bm cs bs ≡ take at out ++ fields_bytes (drop k formats) bm (drop k cs) (drop from bs)

pub putting_none : (bm cs bs o : List ℕ) → length bs ≡ rooms → largest ≤ 10 + length o → Putting bm cs bs (length o) 0 0 o
putting_none bm cs bs o l h =
    record { from = 0; place = place_none bs l; fits = omega (arith, largest-formats); len = refl; faults = refl; whole = refl }

pub putting_within : {bm cs bs : List ℕ} {most k at : ℕ} {out : List ℕ} → Putting bm cs bs most k at out → at ≤ length out
putting_within r = omega (arith, r.fits, r.len)

module _ {bm cs bs : List ℕ} {most k at : ℕ} {out : List ℕ} {f : Format} (r : Putting bm cs bs most k at out) (a : At k f) where
  -- the field at place k, and the others
  turn-fault : fields_fault formats bm cs bs ≡
      cond (eqb (field_fault f bm (get_or cs k 0) (drop r.from bs)) 0)
      (fields_fault (drop (k + 1) formats) bm (drop (k + 1) cs) (drop (r.from + room f) bs))
      (field_fault f bm (get_or cs k 0) (drop r.from bs))
  unfolding fields_fault
  turn-fault = r.faults ∙ rw (a.turn, first_count, drop-drop 1 k cs, drop-drop (room f) r.from bs)

  turn-bytes : fields_bytes formats bm cs bs ≡
      take at out ++ (named_bytes f bm (get_or cs k 0) (drop r.from bs) ++ fields_bytes (drop (k + 1) formats) bm (drop (k + 1) cs) (drop (r.from + room f) bs))
  unfolding fields_bytes
  turn-bytes = r.whole ∙ rw (a.turn, first_count, drop-drop 1 k cs, drop-drop (room f) r.from bs)

  turn-room : at + (width f + widths_of (drop (k + 1) formats)) ≤ most
  turn-room = omega (arith, ap widths_of a.turn, r.fits)

  pub putting_skip : {t : Bool} → t ≡ names bm f.number → t ≡ false → Putting bm cs bs most (k + 1) at out
  unfolding field_fault named_bytes
  putting_skip q e =
      let no : names bm f.number ≡ false = sym q ∙ e in
      record {
        from = r.from + room f;
        place = place-more r.place a;
        fits = omega (arith, turn-room);
        len = r.len;
        faults = turn-fault ∙ rw no;
        whole = turn-bytes ∙ rw no;
      }

  module _ {t : Bool} {s : ℕ} {p : Result ℕ Refusal} {y : List ℕ} (q : t ≡ names bm f.number) (e : t ≡ true) (st : Place bs k s)
      (w : Placing (put_fault f (get_or cs k 0) (take (rooms - s) (drop s bs)) (take (length out - at) (drop at out)))
      (field_bytes f (kept f (get_or cs k 0)) (take (size f.class (kept f (get_or cs k 0))) (take (rooms - s) (drop s bs)))) p y) where
    same : r.from ≡ s
    same = omega (arith, r.place.rest, st.rest)

    named : names bm f.number ≡ true
    named = sym q ∙ e

    -- the field's fault and its bytes, in the message's words
    turned : Placing (field_fault f bm (get_or cs k 0) (drop r.from bs)) (named_bytes f bm (get_or cs k 0) (drop r.from bs)) p y
    unfolding field_fault named_bytes
    turned =
        let hb = rw (place-part st) at (place-room st a) in
        let ho : width f ≤ length (drop at out) = rw length-drop (omega (arith, turn-room, r.len)) in
        rw (same, named, ← put_fault_lem f (get_or cs k 0) (drop s bs) (drop at out) hb ho)
        (rw (place-part st, tail_part at out) at w)

    pub putting_stop : (e : Refusal) → p ≡ Err e → {o : List ℕ} → Placing (fields_fault formats bm cs bs) (fields_bytes formats bm cs bs) (Err e) o
    putting_stop e n =
        let x : number_of e ≡ field_fault f bm (get_or cs k 0) (drop r.from bs) = rw n at turned.fault_is in
        placing_refused (turn-fault ∙ rw (← x, ne_eqb _ _ (number_positive e)))

    pub putting_more : {m : ℕ} → p ≡ Ok m → length y ≡ length (take (length out - at) (drop at out))
        → Putting bm cs bs most (k + 1) (at + m) (take at out ++ (y ++ drop (length out - at) (drop at out)))
    putting_more {m} z l =
        let ws : List ℕ = named_bytes f bm (get_or cs k 0) (drop r.from bs) in
        let none : field_fault f bm (get_or cs k 0) (drop r.from bs) ≡ 0 = sym turned.fault_is ∙ ap refused_by z in
        let n : m ≡ length ws = ok_same (sym z ∙ turned.size_is none) in
        let fit : length ws ≤ width f = field_fits f bm (get_or cs k 0) (drop r.from bs) none in
        let la : length (take at out) ≡ at = length-take-le at out (omega (arith, turn-room, r.len)) in
        let ly : length y ≡ length out - at = l ∙ rw (tail_part, length-drop) in
        let tk : take (at + length ws) (take at out ++ y) ≡ take at out ++ ws =
        take-add at (length ws) (take at out ++ y) ∙ rw (take_at (take at out) y at la, drop_at (take at out) y at la, turned.bytes none) in
        rw (put_tail, n)
        (record {
          from = r.from + room f;
          place = place-more r.place a;
          fits = omega (arith, turn-room);
          len = length-append (take at out) y ∙ omega (arith, turn-room, r.len);
          faults = turn-fault ∙ rw none;
          whole = turn-bytes ∙ rw (tk, append_assoc);
        })

pub putting_done : {bm cs bs : List ℕ} {most k at : ℕ} {out : List ℕ} → Putting bm cs bs most k at out → rows ≤ k
    → Placing (fields_fault formats bm cs bs) (fields_bytes formats bm cs bs) (Ok at) out
unfolding fields_fault fields_bytes
putting_done {bm} {cs} {bs} {most} {k} {at} {out} r h =
    let e : k ≡ rows = omega (arith, r.place.bound) in
    let w : fields_bytes formats bm cs bs ≡ take at out = r.whole ∙ rw (e, drop-formats, append-nil) in
    let l : length (take at out) ≡ at = length-take-le at out (omega (arith, r.fits, r.len)) in
    record {
      fault_is = sym (r.faults ∙ rw (e, drop-formats));
      size_is = λ _. rw (w, l);
      bytes = λ _. rw (w, l);
    }

-- room for a message's type and bitmap
module _ (fs o : List ℕ) (h : 10 + length fs ≤ length o) where
  pub room-head : 10 ≤ length o
  room-head = omega arith

  module _ (x y : ℕ) where
    pub head_end : 10 ≤ length (set (set o 0 x) 1 y)
    head_end = rw (length-set, length-set) room-head

    pub head-room : (bm : List ℕ) → length bm ≡ 8 → length bm ≤ length (take 8 (drop 2 (set (set o 0 x) 1 y)))
    head-room bm l = rw (length-take, length-drop, length-set, length-set) (omega (arith, l, room-head))

-- a message's type and bitmap
pub put_head : (a b : ℕ) (bm o : List ℕ) {y : List ℕ} → length bm ≡ 8 → 10 ≤ length o
    → y ≡ bm
    → take 2 (set (set o 0 a) 1 b) ++ (y ++ drop 8 (drop 2 (set (set o 0 a) 1 b))) ≡ (a ∷ b ∷ bm) ++ drop 10 o
put_head a b bm o {y} l h e =
    let s : set (set o 0 a) 1 b ≡ a ∷ b ∷ drop 2 o = set-two o a b (omega arith) in
    rw (s, e, drop-drop 8 2 o)

-- fs, copied behind the first p bytes, which are h
pub put_after : (p : ℕ) (h fs o : List ℕ) {b y : List ℕ} → length h ≡ p → p + length fs ≤ length o → b ≡ h ++ drop p o
    → y ≡ fs
    → take p b ++ (y ++ drop (p + length fs - p) (drop p b)) ≡ (h ++ fs) ++ drop (p + length fs) o
put_after p h fs o {b} {y} l f q e =
    let t : take p b ≡ h = rw q (take_at h (drop p o) p l) in
    let d : drop p b ≡ drop p o = rw q (drop_at h (drop p o) p l) in
    let n : p + length fs - p ≡ length fs = omega arith in
    rw (t, e, n, d, drop-drop) (sym (append_assoc h fs (drop (p + length fs) o)))

-- a message of a listed type that names listed fields
module _ (m : Message) {p : Result ℕ Refusal} {o : List ℕ} (i : among m.indicator indicators ≡ true) (l : listed m.bitmap ≡ true)
    (w : Placing (fields_fault formats m.bitmap m.counts m.contents) (fields_bytes formats m.bitmap m.counts m.contents) p o) where
  -- its fields are written, and it is judged as a whole
  pub contents-late : {n : ℕ} (r : Result (Unit {0}) Refusal) → p ≡ Ok n → refused_by r ≡ late_fault m
      → {q : Result ℕ Refusal} → refused_by q ≡ refused_by r → (refused_by r ≡ 0 → q ≡ Ok n)
      → Placing (message_fault m) (fields_bytes formats m.bitmap m.counts m.contents) q o
  unfolding message_fault
  contents-late r z e s k =
      let none = sym w.fault_is ∙ ap refused_by z in
      let f : refused_by _ ≡ message_fault m = s ∙ e ∙ rw (i, l, none) in
      record { fault_is = f; size_is = λ g. k (sym s ∙ f ∙ g) ∙ sym z ∙ w.size_is none; bytes = λ _. w.bytes none }

  pub contents_stop : (e : Refusal) → p ≡ Err e → Placing (message_fault m) (fields_bytes formats m.bitmap m.counts m.contents) (Err e) o
  unfolding message_fault
  contents_stop e q =
      let x : number_of e ≡ fields_fault formats m.bitmap m.counts m.contents = rw q at w.fault_is in
      placing_refused (rw (i, l, ← x, ne_eqb _ _ (number_positive e)))

-- the fields of a message that is not refused leave room for its type and its bitmap
pub contents_fit : (m : Message) {n : ℕ} {p : Result ℕ Refusal} {o : List ℕ}
    → Placing (message_fault m) (fields_bytes formats m.bitmap m.counts m.contents) p o → p ≡ Ok n → 10 + n ≤ largest
contents_fit m {n} w z =
    let none : message_fault m ≡ 0 = sym w.fault_is ∙ ap refused_by z in
    let s : n ≡ length (fields_bytes formats m.bitmap m.counts m.contents) = ok_same (sym z ∙ w.size_is none) in
    omega (arith, formats_fit m.bitmap m.counts m.contents (fault_inversion m none).no_fault)

-- a message that is refused
pub message-refused : (m : Message) (o fs : List ℕ) {p : Result ℕ Refusal} (e : Refusal) → largest ≤ length o
    → Placing (message_fault m) (fields_bytes formats m.bitmap m.counts m.contents) p fs → p ≡ Err e → written (Err (number_of e)) o ≡ write_message m o
unfolding write_message
message-refused m o fs e h w z =
    let x : number_of e ≡ message_fault m = rw z at w.fault_is in
    rw (le-ltb _ _ h, ← x, ne_eqb _ _ (number_positive e))

-- a message that is not refused, its fields' bytes at the front of fs
pub message-written : (m : Message) (o fs : List ℕ) {n k : ℕ} {p : Result ℕ Refusal} {b : List ℕ} → largest ≤ length o
    → Placing (message_fault m) (fields_bytes formats m.bitmap m.counts m.contents) p fs → p ≡ Ok n
    → (k ≡ length (head m ++ take n fs)) × (b ≡ (head m ++ take n fs) ++ drop (length (head m ++ take n fs)) o)
    → written (Ok k) b ≡ write_message m o
unfolding write_message message_bytes
message-written m o fs {n} {k} {b = b} h w z e =
    let none : message_fault m ≡ 0 = sym w.fault_is ∙ ap refused_by z in
    let ws : List ℕ = fields_bytes formats m.bitmap m.counts m.contents in
    let s : n ≡ length ws = ok_same (sym z ∙ w.size_is none) in
    let t : take n fs ≡ ws = rw s (w.bytes none) in
    let l : k ≡ length (head m ++ ws) = e.0 ∙ rw t in
    let y : b ≡ (head m ++ ws) ++ drop (length (head m ++ ws)) o = e.1 ∙ ap (λ (x : List ℕ). (head m ++ x) ++ drop (length (head m ++ x)) o) t in
    rw (le-ltb _ _ h, eq-eqb _ _ none, l, y)
