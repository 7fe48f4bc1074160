-- The order of checks in writing.
use Rattle.std.specs.Prelude.{Result, Err, Ok}
use mathlib.Core.Path.{◌≡◌, refl, sym, ◌∙◌}
use mathlib.Core.List.{List, [], ◌∷◌, ◌++◌, append_assoc, append-nil}
use mathlib.Core.Bool.{Bool, true, false, cond, and-eq-true_iff}
use Prim.Native.Nat.{ℕ, ◌+◌, ◌*◌, ◌≤◌}
use native.Mathlib.Omega.{arith}
use native.Mathlib.Decide.{ℕ_discrete}
use lib.Dec.{ltb, eqb}
use lib.ListN.{length, get_or, take, drop, replicate, length-append, length-drop, length-replicate}
use lib.Seq.{take_at, length-take-le}
use borrow.Author.Tests.{lt-ltb, le-ltb, eqb-true, eqb-false, ne_eqb}
use Rattle.digits.specs.Digits.{is_packed}
use Rattle.field.specs.Table.{among, indicators, formats}
use Rattle.field.specs.Bitmap.{names, listed}
use Rattle.field.specs.Contents.{size, room, skip, allowed, late, fault}
use Rattle.field.specs.declared.Class.TheVariants.{Any}
use Rattle.field.specs.declared.Format.{Format}
use Rattle.field.proofs.Formats.{every}
use Rattle.span.specs.Span.{count_in, contents_at, span_at, span, field_bytes}
use Rattle.span.proofs.Held.{span-held, size-bound}
use Rattle.span.proofs.Bytes.{well_formed, length-field, drop_prefix, span_back}
use Rattle.message.specs.Message.{Shaped, largest}
use Rattle.message.specs.Late.{late_fault}
use Rattle.message.specs.declared.Message.{Message}
use Rattle.message.proofs.Late.{late-number}
use Rattle.message.proofs.Places.{rooms_of, rooms-formats}
use Rattle.reading.specs.Reading.{Fields, bad, after_span, refused, accepted, assembled, read_fields, read_message, ReadOutcome, Read, Refused as Unread}
use Rattle.writing.specs.Writing.{field_fault, fields_fault, named_bytes, fields_bytes, message_bytes, contents_fault, message_fault, written, write_message}
use Rattle.message_theorems.specs.Order.{WriteRefused, SmallBufferIsOne, WriteTypeBeforeBitmap, writing_rules, WriteJudgedBy, as_read, WriteJudgesAsRead}
use Rattle.message_theorems.proofs.Fields.{all_well_formed, none-in_form-at, turn_back}
use Rattle.message_theorems.proofs.Messages.{refused-written, kept, fault_of, kept-late, formats-well_formed, after_head, bytes-head, fields-kept}
use Rattle.message_theorems.proofs.Numbers.{among-each, among_others, chosen_number, fault_judged_lem}
use Rattle.message_theorems.proofs.Order.{not_listed}

-- a field's length and its contents
length-first : (f : Format) (n : ℕ) (b : List ℕ) → field_bytes f n b ≡ field_bytes f n [] ++ b
unfolding field_bytes
length-first f n b = rw append-nil

take-length : (f : Format) (n : ℕ) (b rest : List ℕ) → take (skip f.prefix) (field_bytes f n b ++ rest) ≡ field_bytes f n []
take-length f n b rest =
    rw (length-first f n b, append_assoc) (take_at (field_bytes f n []) (b ++ rest) (skip f.prefix) (length-field f n [] ∙ omega arith))

-- the format of a field that may hold bytes of every value
any_of : Format → Format
any_of f = record { number = f.number; class = Any; prefix = f.prefix; low = f.low; high = f.high; lengths = f.lengths }

-- a length that is written is read, whatever the contents
pub length_back : (f : Format) (n : ℕ) → well_formed f ≡ true → allowed f n ≡ true
    → (is_packed (2 * skip f.prefix) (field_bytes f n []) ≡ true) × (count_in f.prefix f.high (field_bytes f n []) ≡ n)
unfolding any_of allowed field_bytes
length_back f n w a =
    let b : List ℕ = replicate n 0 in
    let h = span-held (any_of f) (field_bytes f n b ++ []) (span_back (any_of f) n b [] w a (length-replicate n 0) refl) a in
    (rw (take-length f n b []) at h.packed, rw (take-length f n b []) at h.count)

-- a field that is written with a fault in its contents is refused for it
module _ (f : Format) (n : ℕ) (b rest : List ℕ) where
  span-fault : well_formed f ≡ true → allowed f n ≡ true → length b ≡ size f.class n → (fault f.class n b ≡ 0 → ⊥)
      → span_at f (field_bytes f n b ++ rest) ≡ Err (fault f.class n b)
  unfolding span_at contents_at
  span-fault w a l x =
      let k = skip f.prefix in
      let z = size f.class n in
      let lf : length (field_bytes f n b ++ rest) ≡ k + length b + length rest = length-append (field_bytes f n b) rest ∙ rw length-field in
      let lr : length (b ++ rest) ≡ length b + length rest = length-append b rest in
      let h = length_back f n w a in
      rw (
        le-ltb (length (field_bytes f n b ++ rest)) k (omega arith),
        take-length f n b rest,
        h.0,
        drop_prefix f n b rest,
        h.1,
        a,
        le-ltb (length (b ++ rest)) z (omega arith),
        take_at b rest z l,
        ne_eqb (fault f.class n b) 0 x,
      )

-- the first fault of a field that is not refused by 7
record Faulty (f : Format) (bm : List ℕ) (n : ℕ) (bs : List ℕ) : Type 0 where
  named : names bm f.number ≡ true
  allows : allowed f n ≡ true
  is_fault : field_fault f bm n bs ≡ fault f.class n (take (size f.class n) bs)

faulty : (f : Format) (bm : List ℕ) (n : ℕ) (bs : List ℕ) → (field_fault f bm n bs ≡ 0 → ⊥) → (field_fault f bm n bs ≡ 7 → ⊥) → Faulty f bm n bs
unfolding field_fault
faulty f bm n bs h k = go (names bm f.number) refl (allowed f n) refl
  where
    not_late : names bm f.number ≡ true → allowed f n ≡ false → (l : Bool) → late f ≡ l → Faulty f bm n bs
    not_late p q true e = absurd (h (rw (p, q, e) (none-in_form-at f.class bs)))
    not_late p q false e = absurd (k (rw (p, q, e)))

    go : (a : Bool) → names bm f.number ≡ a → (b : Bool) → allowed f n ≡ b → Faulty f bm n bs
    go true p true q = record { named = p; allows = q; is_fault = rw (p, q) }
    go true p false q = not_late p q (late f) refl
    go false p b q = absurd (h (rw p))

turn-fault : (f : Format) (bm : List ℕ) (n : ℕ) (bs rest : List ℕ) (next : List ℕ → Fields) → well_formed f ≡ true → room f ≤ length bs
    → (field_fault f bm n bs ≡ 0 → ⊥) → (field_fault f bm n bs ≡ 7 → ⊥)
    → after_span f (named_bytes f bm n bs ++ rest) next (span f bm (named_bytes f bm n bs ++ rest)) ≡ bad (field_fault f bm n bs)
unfolding span named_bytes
turn-fault f bm n bs rest next w l h k =
    let z = size f.class n in
    let y = faulty f bm n bs h k in
    let lb : length (take z bs) ≡ z = length-take-le z bs (omega (arith, size-bound f n y.allows)) in
    rw (y.named, y.allows, span-fault f n (take z bs) rest w y.allows lb (λ q. h (y.is_fault ∙ q)), y.is_fault)

-- fields that are written with a fault are refused for the first
fields_fault_back : (fs : List Format) (bm cs bs : List ℕ) → all_well_formed fs ≡ true → rooms_of fs ≤ length bs
    → (fields_fault fs bm cs bs ≡ 0 → ⊥) → (fields_fault fs bm cs bs ≡ 7 → ⊥) → read_fields fs bm (fields_bytes fs bm cs bs) ≡ bad (fields_fault fs bm cs bs)
unfolding read_fields fields_bytes fields_fault
fields_fault_back [] bm cs bs w l h k = absurd (h refl)
fields_fault_back (f ∷ fs) bm cs bs w l h k =
    let wf = (and-eq-true_iff (well_formed f) (all_well_formed fs)).0 w in
    go (eqb x 0) refl wf.0 (fields_fault_back fs bm (drop 1 cs) (drop (room f) bs) wf.1 (rw length-drop (omega arith)))
  where
    x : ℕ
    x = field_fault f bm (get_or cs 0 0) bs

    rest : List ℕ
    rest = fields_bytes fs bm (drop 1 cs) (drop (room f) bs)

    y : ℕ
    y = fields_fault fs bm (drop 1 cs) (drop (room f) bs)

    go : (b : Bool) → eqb x 0 ≡ b → well_formed f ≡ true → ((y ≡ 0 → ⊥) → (y ≡ 7 → ⊥) → read_fields fs bm rest ≡ bad y)
        → after_span f (named_bytes f bm (get_or cs 0 0) bs ++ rest) (read_fields fs bm) (span f bm (named_bytes f bm (get_or cs 0 0) bs ++ rest))
        ≡ bad (cond (eqb x 0) y x)
    go true e v ih =
        turn_back f bm (get_or cs 0 0) bs rest (read_fields fs bm) v (omega arith) (eqb-true x 0 e)
        ∙ rw (e, ih (λ q. h (rw (e, q))) (λ q. k (rw (e, q))))
    go false e v ih =
        rw e (turn-fault f bm (get_or cs 0 0) bs rest (read_fields fs bm) v (omega arith) (eqb-false x 0 e) (λ q. k (rw e q)))

-- what reading says of a first fault, 0 for none
abbrev pub outcome_of : ℕ → ReadOutcome
outcome_of n = cond (eqb n 0) Read (Unread n)

-- the first fault of a message, 0 for none, and the numbers that it is refused by
abbrev is_fault : ℕ → Bool
is_fault n = among n (0 ∷ 4 ∷ 5 ∷ 6 ∷ 7 ∷ 8 ∷ 23 ∷ 24 ∷ [])

abbrev is_rule : ℕ → Bool
is_rule n = among n writing_rules

refused_equal : {a b : ℕ} → ◌≡◌ {A = Result ℕ ℕ} (Err a) (Err b) → a ≡ b
refused_equal q = cc

-- writing into a buffer that has room
module _ (m : Message) (o : List ℕ) (l : largest ≤ length o) where
  fault-refuses : (n : ℕ) → message_fault m ≡ n → (n ≡ 0 → ⊥) → WriteRefused n m o
  unfolding write_message
  fault-refuses n e h = rw (le-ltb (length o) largest l, e, ne_eqb n 0 h)

  pub as_read_lem : as_read (write_message m o).outcome ≡ outcome_of (message_fault m)
  unfolding write_message
  as_read_lem = rw (le-ltb (length o) largest l) (go (eqb (message_fault m) 0))
    where
      go : (b : Bool) → as_read (cond b (written (Ok (length (message_bytes m))) (message_bytes m ++ drop (length (message_bytes m)) o))
          (written (Err (message_fault m)) o)).outcome ≡ cond b Read (Unread (message_fault m))
      go true = refl
      go false = refl

pub small-buffer-is-one : SmallBufferIsOne
unfolding write_message
small-buffer-is-one m o h = rw (lt-ltb (length o) largest h)

pub write_type_before-bitmap : WriteTypeBeforeBitmap
unfolding message_fault
write_type_before-bitmap =
    record {
      type_not_listed = λ m o l e. fault-refuses m o l 4 (rw e) (λ q. omega (arith, q));
      field_not_listed = λ m o s l e n h k.
          fault-refuses m o l 5 (rw (e, not_listed m.bitmap s.bitmap_length n h k)) (λ q. omega (arith, q));
    }

-- what reading says of a message's bytes
late-judged : (m : Message) (n : ℕ) → late_fault m ≡ n → (accepted m).outcome ≡ outcome_of n
late-judged m n e = rw e (go (eqb n 0))
  where
    go : (b : Bool) → (cond b (record { outcome = Read; message = m }) (refused n)).outcome ≡ cond b Read (Unread n)
    go true = refl
    go false = refl

module _ (m : Message) (s : Shaped m) where
  fields_read : Fields
  fields_read = read_fields formats m.bitmap (fields_bytes formats m.bitmap m.counts m.contents)

  contents-judged : (contents_fault m ≡ 7 → ⊥) → (assembled m.indicator m.bitmap fields_read).outcome ≡ outcome_of (contents_fault m)
  unfolding fields_read kept
  contents-judged h = go (eqb (fault_of m) 0) refl
    where
      go : (b : Bool) → eqb (fault_of m) 0 ≡ b → (assembled m.indicator m.bitmap fields_read).outcome ≡ outcome_of (contents_fault m)
      go true e =
          let z : fault_of m ≡ 0 = eqb-true (fault_of m) 0 e in
          rw (e, fields-kept m s z) (late-judged (kept m) (late_fault m) (kept-late m s z))
      go false e =
          let r : rooms_of formats ≤ length m.contents = omega (arith, rooms-formats, s.contents_length) in
          rw (e, fields_fault_back formats m.bitmap m.counts m.contents formats-well_formed r (eqb-false (fault_of m) 0 e) (λ q. h (rw e q)), e)

  bytes-judged : (message_fault m ≡ 7 → ⊥) → (read_message (message_bytes m)).outcome ≡ outcome_of (message_fault m)
  unfolding after_head message_fault fields_read
  bytes-judged h = rw (bytes-head m s) (go (among m.indicator indicators) refl (listed m.bitmap) refl)
    where
      go : (a : Bool) → among m.indicator indicators ≡ a → (b : Bool) → listed m.bitmap ≡ b
          → (cond a (cond b (assembled m.indicator m.bitmap fields_read) (refused 5)) (refused 4)).outcome
          ≡ outcome_of (cond a (cond b (contents_fault m) 5) 4)
      go true p true q = contents-judged (λ e. h (rw (p, q) e))
      go true p false q = refl
      go false p b q = refl

pub write_judges_as_read : WriteJudgesAsRead
write_judges_as_read m o s l h =
    rw (as_read_lem m o l) (bytes-judged m s (λ e. h (fault-refuses m o l 7 e (λ q. omega (arith, q)))))

late-judged_by : (m : Message) → is_fault (late_fault m) ≡ true
late-judged_by m = go (ℕ_discrete (late_fault m) 0)
  where
    go : Dec (late_fault m ≡ 0) → is_fault (late_fault m) ≡ true
    go (yes z) = rw z
    go (no h) = among-each is_fault (late_fault m) (23 ∷ 24 ∷ []) refl (late-number m h)

-- what holds of 4, of 5, of what fields are refused by and of what the late rules give holds of a message's first fault
pub fault-each : (p : ℕ → Bool) (m : Message) → p 4 ≡ true → p 5 ≡ true → every p (0 ∷ 6 ∷ 7 ∷ 8 ∷ []) ≡ true → p (late_fault m) ≡ true
    → p (message_fault m) ≡ true
unfolding message_fault
fault-each p m four five fields l =
    chosen_number p (among m.indicator indicators) _ 4
    (chosen_number p (listed m.bitmap) _ 5
    (chosen_number p (eqb (fault_of m) 0) (late_fault m) (fault_of m) l
    (among-each p (fault_of m) (0 ∷ 6 ∷ 7 ∷ 8 ∷ []) fields (fault_judged_lem formats m.bitmap m.counts m.contents))) five) four

-- a refusal by another number than 1 is by the message's first fault
pub first-fault : (m : Message) (o : List ℕ) (n : ℕ) → WriteRefused n m o → (n ≡ 1 → ⊥) → (message_fault m ≡ n) × (n ≡ 0 → ⊥)
unfolding write_message
first-fault m o n q h = go (ltb (length o) largest) (eqb (message_fault m) 0) refl q
  where
    go : (a b : Bool) → eqb (message_fault m) 0 ≡ b
        → (cond a (written (Err 1) o) (cond b (written (Ok (length (message_bytes m))) (message_bytes m ++ drop (length (message_bytes m)) o))
        (written (Err (message_fault m)) o))).outcome ≡ Err n
        → (message_fault m ≡ n) × (n ≡ 0 → ⊥)
    go true b e q = absurd (h (sym (refused_equal q)))
    go false true e q = absurd (refused-written (sym q))
    go false false e q = (refused_equal q, λ z. eqb-false (message_fault m) 0 e (refused_equal q ∙ z))

pub write_judged_by : WriteJudgedBy
write_judged_by m o n q = go (ℕ_discrete n 1)
  where
    go : Dec (n ≡ 1) → is_rule n ≡ true
    go (yes e) = rw e
    go (no h) =
        let r = first-fault m o n q h in
        let others : List ℕ = 4 ∷ 5 ∷ 6 ∷ 7 ∷ 8 ∷ 23 ∷ 24 ∷ [] in
        among-each is_rule n others refl (among_others n others (rw r.0 at (fault-each is_fault m refl refl refl (late-judged_by m))) r.1)
