-- The theorems on whole messages.
use Rattle.std.specs.Prelude.{Ok, Err}
use mathlib.Core.Path.{◌≡◌, refl, ap, sym, ◌∙◌}
use mathlib.Core.List.{List, [], ◌∷◌, ◌++◌}
use mathlib.Core.Bool.{Bool, true, false, cond, not, ◌&&◌, ◌||◌, and-true, and-false, and-eq-true_iff}
use Prim.Native.Nat.{ℕ, ◌+◌, ◌*◌, ◌/◌, ◌%◌, ◌≤◌}
use native.Mathlib.Nat.{not-suc-le-zero}
use native.Mathlib.Omega.{arith}
use native.Mathlib.Decide.{ℕ_discrete}
use lib.Dec.{leb, ltb, eqb}
use lib.ListN.{length, get_or, take, drop, length-append, take-append-drop}
use lib.Seq.{take_at, drop_at}
use borrow.Author.Tests.{le-ltb, ltb-false, eqb-true, eq-eqb, ne_eqb}
use Rattle.field.specs.Table.{among, indicators, key_material, formats}
use Rattle.field.specs.Bitmap.{names, listed}
use Rattle.field.specs.Contents.{key_lengths, allowed, late}
use Rattle.field.specs.Contents as field
use Rattle.field.specs.declared.Format.{Format}
use Rattle.field.proofs.Formats.{every}
use Rattle.message.specs.Message.{Shaped, field_in, field_of, largest}
use Rattle.message.specs.Late.{late_fault, SameNamed}
use Rattle.message.specs.declared.Message.{Message}
use Rattle.reading.specs.Reading.{Fields, bad, good, read_fields, refused, accepted, assembled, indicator_in, bitmap_of, read_message, Reading, Read, Refused as Not}
use Rattle.message.proofs.Places.{rooms-formats}
use Rattle.message.proofs.Late.{late-named, late_kept}
use Rattle.writing.specs.Writing.{fields_fault, fields_bytes, message_bytes, message_fault, written, write_message}
use Rattle.writing.proofs.Faults.{fault_inversion}
use Rattle.writing.proofs.Putting.{message-fits}
use Rattle.message_theorems.specs.RoundTrip.{Bytes, ReadsBack, WrittenReadsBack, ReadWritesBack, NeverLonger}
use Rattle.message_theorems.proofs.Fields.{all_well_formed, kept_counts, kept_contents, fields_back, row_kept, kept-fields, all_late_kept, Again, fields-again}
use Rattle.message_theorems.proofs.Numbers.{among-each}

pub formats-well_formed : all_well_formed formats ≡ true
unfolding formats
formats-well_formed = refl

-- what an accepted writing says
record IsWritten (m : Message) (o : List ℕ) (k : ℕ) : Type 0 where
  no_fault : message_fault m ≡ 0
  count : k ≡ length (message_bytes m)
  buffer : (write_message m o).buffer ≡ message_bytes m ++ drop k o

pub refused-written : {e k : ℕ} → Err e ≡ Ok k → ⊥
refused-written {e} {k} q = let z : ◌≡◌ {A = ℕ} 0 1 = cc in omega arith

is-written : (m : Message) (o : List ℕ) (k : ℕ) → (write_message m o).outcome ≡ Ok k → IsWritten m o k
unfolding write_message
is-written m o k = short (ltb (length o) largest) refl
  where
    room : (b : Bool) → eqb (message_fault m) 0 ≡ b → ltb (length o) largest ≡ false
        → (cond b (written (Ok (length (message_bytes m))) (message_bytes m ++ drop (length (message_bytes m)) o)) (written (Err (message_fault m)) o)).outcome ≡ Ok k
        → IsWritten m o k
    room true e t q =
        let c : length (message_bytes m) ≡ k = cc in
        record { no_fault = eqb-true (message_fault m) 0 e; count = sym c; buffer = rw (t, e, c) }
    room false e t q = absurd (refused-written q)

    short : (b : Bool) → ltb (length o) largest ≡ b
        → (cond b (written (Err 1) o)
        (cond (eqb (message_fault m) 0) (written (Ok (length (message_bytes m))) (message_bytes m ++ drop (length (message_bytes m)) o)) (written (Err (message_fault m)) o))).outcome ≡ Ok k
        → IsWritten m o k
    short true e q = absurd (refused-written q)
    short false e q = room (eqb (message_fault m) 0) refl e q

-- the message that is left where only what the bitmap names is kept
unfoldable pub kept : Message → Message
kept m =
    record {
      indicator = m.indicator;
      bitmap = m.bitmap;
      counts = kept_counts formats m.bitmap m.counts;
      contents = kept_contents formats m.bitmap m.counts m.contents;
    }

-- the first fault of its fields
abbrev pub fault_of : Message → ℕ
fault_of m = fields_fault formats m.bitmap m.counts m.contents

-- the lengths of key material are judged late, and no others
abbrev late_is_keys : Format → Bool
late_is_keys f = not (late f) || eqb f.number 62

rows-kept : (fs : List Format) (cs : List ℕ) (n : ℕ) → every late_is_keys fs ≡ true → (n ≡ 62 → ⊥) → row_kept fs cs n ≡ true
rows-kept [] cs n h k = refl
rows-kept (f ∷ fs) cs n h k =
    let t = (and-eq-true_iff (late_is_keys f) (every late_is_keys fs)).0 h in
    go (ℕ_discrete f.number n) (late f) t.0 (rows-kept fs (drop 1 cs) n t.1 k)
  where
    go : Dec (f.number ≡ n) → (b : Bool) → (not b || eqb f.number 62) ≡ true → row_kept fs (drop 1 cs) n ≡ true
        → cond (eqb f.number n) (not b || allowed f (get_or cs 0 0)) (row_kept fs (drop 1 cs) n) ≡ true
    go (yes q) true e ih = absurd (k (sym q ∙ eqb-true f.number 62 e))
    go (yes q) false e ih = rw (eq-eqb f.number n q)
    go (no q) b e ih = rw (ne_eqb f.number n q) ih

formats-late : every late_is_keys formats ≡ true
unfolding formats
formats-late = refl

-- the lengths of field 62 are those of key material
pub keys-allowed : (n : ℕ) → allowed (key_material 62) n ≡ among n key_lengths
unfolding allowed
keys-allowed n = go (among n key_lengths) refl
  where
    go : (b : Bool) → among n key_lengths ≡ b → (leb 24 n && leb n 84 && b) ≡ b
    go true e = rw (among-each (λ x. leb 24 x) n key_lengths refl e, among-each (λ x. leb x 84) n key_lengths refl e)
    go false e = and-false (leb 24 n && leb n 84)

pub keys_kept_alike : (n : ℕ) → among (field.kept (key_material 62) n) key_lengths ≡ among n key_lengths
keys_kept_alike n = rw (keys-allowed n) (go (among n key_lengths) refl)
  where
    go : (b : Bool) → among n key_lengths ≡ b → among (cond b n 0) key_lengths ≡ b
    go true e = e
    go false e = refl

kept-keys : (m : Message) → names m.bitmap 62 ≡ true → among (field_of (kept m) 62).count key_lengths ≡ among (field_of m 62).count key_lengths
unfolding kept field_in formats
kept-keys m e = rw e (keys_kept_alike (field_of m 62).count)

-- it has what the bitmap names, so the late rules judge it alike
module _ (m : Message) (s : Shaped m) (z : fault_of m ≡ 0) where
  kept_field : (n : ℕ) → names m.bitmap n ≡ true → row_kept formats m.counts n ≡ true → field_of (kept m) n ≡ field_of m n
  unfolding kept
  kept_field = kept-fields formats m.bitmap m.counts m.contents (omega (arith, rooms-formats, s.contents_length)) z

  kept_same : SameNamed (kept m) m
  unfolding kept
  kept_same =
      record {
        indicator = refl;
        bitmap = refl;
        fields = λ n e k. kept_field n e (rows-kept formats m.counts n formats-late k);
        keys = kept-keys m;
      }

-- what the late rules keep of the table is field 62
keys-row : (m : Message) → row_kept formats m.counts 62 ≡ allowed (key_material 62) (field_of m 62).count
unfolding formats field_in
keys-row m = refl

lates_row : (m : Message)
    → all_late_kept formats m.bitmap m.counts ≡ (not (names m.bitmap 62) || allowed (key_material 62) (field_of m 62).count)
unfolding formats field_in
lates_row m = rw and-true

-- in a message that breaks no late rule each row is kept
pub row_kept_lem : (m : Message) → late_fault m ≡ 0 → (n : ℕ) → names m.bitmap n ≡ true → row_kept formats m.counts n ≡ true
row_kept_lem m l n e = go (ℕ_discrete n 62)
  where
    go : Dec (n ≡ 62) → row_kept formats m.counts n ≡ true
    go (yes q) =
        let i : names m.bitmap 62 ≡ true = rw (← q) e in
        let k : among (field_of m 62).count key_lengths ≡ true = rw i at (late_kept m l).keys in
        rw (q, keys-row m, keys-allowed (field_of m 62).count) k
    go (no q) = rows-kept formats m.counts n formats-late q

late-all-kept : (m : Message) → late_fault m ≡ 0 → all_late_kept formats m.bitmap m.counts ≡ true
late-all-kept m l = lates_row m ∙ rw (keys-allowed (field_of m 62).count) (late_kept m l).keys

pub kept-late : (m : Message) → Shaped m → fault_of m ≡ 0 → late_fault (kept m) ≡ late_fault m
kept-late m s z = late-named (kept m) m (kept_same m s z)

-- what is judged after the length: the type, the bitmap, then the fields and the message
unfoldable pub after_head : ℕ → List ℕ → Fields → Reading
after_head i bm x = cond (among i indicators) (cond (listed bm) (assembled i bm x) (refused 5)) (refused 4)

pub head_read : (x y : ℕ) (bm rest : List ℕ) → length bm ≡ 8
    → read_message (x ∷ y ∷ (bm ++ rest)) ≡ after_head (x * 256 + y) bm (read_fields formats bm rest)
unfolding read_message after_head
head_read x y bm rest l =
    rw (le-ltb (length (x ∷ y ∷ (bm ++ rest))) 10 (omega (arith, length-append bm rest)), take_at bm rest 8 l, drop_at bm rest 8 l)

module _ (m : Message) (s : Shaped m) where
  pub bytes-head : read_message (message_bytes m)
      ≡ after_head m.indicator m.bitmap (read_fields formats m.bitmap (fields_bytes formats m.bitmap m.counts m.contents))
  unfolding message_bytes
  bytes-head =
      let i : m.indicator / 256 * 256 + m.indicator % 256 ≡ m.indicator = omega arith in
      rw i at (head_read (m.indicator / 256) (m.indicator % 256) m.bitmap (fields_bytes formats m.bitmap m.counts m.contents) s.bitmap_length)

  pub fields-kept : fault_of m ≡ 0
      → read_fields formats m.bitmap (fields_bytes formats m.bitmap m.counts m.contents) ≡ good (kept m).counts (kept m).contents
  unfolding kept
  fields-kept z = fields_back formats m.bitmap m.counts m.contents formats-well_formed (omega (arith, rooms-formats, s.contents_length)) z

  bytes_read : message_fault m ≡ 0 → read_message (message_bytes m) ≡ record { outcome = Read; message = kept m }
  unfolding after_head kept
  bytes_read z =
      let w = fault_inversion m z in
      rw (bytes-head, w.indicator_listed, w.fields_listed, fields-kept w.no_fault, kept-late m s w.no_fault, w.late)

kept-reads : (m : Message) → Shaped m → fault_of m ≡ 0 → late_fault m ≡ 0 → ReadsBack m (record { outcome = Read; message = kept m })
kept-reads m s z l =
    let k = kept_same m s z in
    record {
      outcome = refl;
      indicator = k.indicator;
      bitmap = k.bitmap;
      fields = λ n e. kept_field m s z n e (row_kept_lem m l n e);
    }

pub written-reads_back : WrittenReadsBack
written-reads_back m o k s q =
    let w = is-written m o k q in
    let t : take k (write_message m o).buffer ≡ message_bytes m = rw w.buffer (take_at (message_bytes m) (drop k o) k (sym w.count)) in
    let v = fault_inversion m w.no_fault in
    rw (t, bytes_read m s w.no_fault) (kept-reads m s v.no_fault v.late)

pub never_longer : NeverLonger
never_longer m o k s q = let w = is-written m o k q in rw w.count (message-fits m s w.no_fault)

pub not_read : {e : ℕ} → Not e ≡ Read → ⊥
not_read {e} q = let z : ◌≡◌ {A = ℕ} 0 1 = cc in omega arith

passed_no : (b : Bool) (e : ℕ) (y : Reading) → (cond b (refused e) y).outcome ≡ Read → (b ≡ false) × (y.outcome ≡ Read)
passed_no true e y q = absurd (not_read q)
passed_no false e y q = (refl, q)

pub passed_yes : (b : Bool) (e : ℕ) (y : Reading) → (cond b y (refused e)).outcome ≡ Read → (b ≡ true) × (y.outcome ≡ Read)
passed_yes true e y q = (refl, q)
passed_yes false e y q = absurd (not_read q)

-- the message of a type, a bitmap, counts and contents
abbrev pub message_from : ℕ → List ℕ → List ℕ → List ℕ → Message
message_from i bm cs bs = record { indicator = i; bitmap = bm; counts = cs; contents = bs }

late-passed : (m : Message) → (accepted m).outcome ≡ Read → late_fault m ≡ 0
late-passed m = go (eqb (late_fault m) 0) refl
  where
    go : (t : Bool) → eqb (late_fault m) 0 ≡ t → (cond t (record { outcome = Read; message = m }) (refused (late_fault m))).outcome ≡ Read → late_fault m ≡ 0
    go true e q = eqb-true (late_fault m) 0 e
    go false e q = absurd (not_read q)

pub fields-good : (i : ℕ) (bm : List ℕ) (x : Fields) → (assembled i bm x).outcome ≡ Read
    → (cs : List ℕ) × (bs : List ℕ) × (x ≡ good cs bs) × (late_fault (message_from i bm cs bs) ≡ 0)
fields-good i bm (bad e) q = absurd (not_read q)
fields-good i bm (good cs bs) q = (cs, bs, refl, late-passed (message_from i bm cs bs) q)

-- what an accepted reading says
pub record IsRead (s : List ℕ) : Type 0 where
  pub counts : List ℕ
  pub contents : List ℕ
  pub long : 10 ≤ length s
  pub indicator_listed : among (indicator_in s) indicators ≡ true
  pub fields_listed : listed (bitmap_of s) ≡ true
  pub again : Again formats (bitmap_of s) (drop 10 s) counts contents
  pub late : late_fault (message_from (indicator_in s) (bitmap_of s) counts contents) ≡ 0
  pub message : (read_message s).message ≡ message_from (indicator_in s) (bitmap_of s) counts contents

message-read : (s cs bs : List ℕ) → ltb (length s) 10 ≡ false → among (indicator_in s) indicators ≡ true → listed (bitmap_of s) ≡ true
    → read_fields formats (bitmap_of s) (drop 10 s) ≡ good cs bs → late_fault (message_from (indicator_in s) (bitmap_of s) cs bs) ≡ 0
    → (read_message s).message ≡ message_from (indicator_in s) (bitmap_of s) cs bs
unfolding read_message
message-read s cs bs a b c g l = rw (a, b, c, g, l)

pub is_read : (s : List ℕ) → (read_message s).outcome ≡ Read → IsRead s
unfolding read_message
is_read s q =
    let a = passed_no (ltb (length s) 10) 3 _ q in
    let b = passed_yes (among (indicator_in s) indicators) 4 _ a.1 in
    let c = passed_yes (listed (bitmap_of s)) 5 _ b.1 in
    let g = fields-good (indicator_in s) (bitmap_of s) (read_fields formats (bitmap_of s) (drop 10 s)) c.1 in
    record {
      counts = g.0;
      contents = g.1;
      long = ltb-false (length s) 10 a.0;
      indicator_listed = b.0;
      fields_listed = c.0;
      again = fields-again formats (bitmap_of s) (drop 10 s) g.0 g.1 g.2;
      late = g.3;
      message = message-read s g.0 g.1 a.0 b.0 c.0 g.2 g.3;
    }

-- the type and the bitmap stand at the front
pub read_head : (s : List ℕ) → (read_message s).outcome ≡ Read
    → ((read_message s).message.indicator ≡ indicator_in s) × ((read_message s).message.bitmap ≡ bitmap_of s)
read_head s q = let r = is_read s q in rw r.message (refl, refl)

-- ten bytes and the rest
pub split_ten : (s : List ℕ) → 10 ≤ length s → get_or s 0 0 ∷ get_or s 1 0 ∷ (take 8 (drop 2 s) ++ drop 10 s) ≡ s
split_ten [] h = absurd (not-suc-le-zero h)
split_ten (a ∷ []) h = absurd (omega arith)
split_ten (a ∷ b ∷ s) h = ap (λ (l : List ℕ). a ∷ b ∷ l) (take-append-drop 8 s)

bytes-again : (s : List ℕ) → Bytes s → (r : IsRead s)
    → message_bytes (message_from (indicator_in s) (bitmap_of s) r.counts r.contents) ≡ s
unfolding message_bytes
bytes-again s b r =
    let h : (get_or s 0 0 * 256 + get_or s 1 0) / 256 ≡ get_or s 0 0 = omega (arith, b 0, b 1) in
    let l : (get_or s 0 0 * 256 + get_or s 1 0) % 256 ≡ get_or s 1 0 = omega (arith, b 0, b 1) in
    rw (h, l, r.again.bytes (late-all-kept (message_from (indicator_in s) (bitmap_of s) r.counts r.contents) r.late)) (split_ten s r.long)

pub read-writes_back : ReadWritesBack
unfolding write_message message_fault
read-writes_back s o b q h =
    let r = is_read s q in
    rw (r.message, le-ltb (length o) largest h, r.indicator_listed, r.fields_listed, r.again.sound, r.late, bytes-again s b r)
