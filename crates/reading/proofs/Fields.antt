-- What the loop over the table keeps while it reads the fields.
use Rattle.std.specs.Prelude.{Ok, Err, Result}
use Rattle.checks.specs.Refusals.{number_of, refused_by}
use Rattle.checks.specs.declared.Refusal.{Refusal}
use Rattle.checks.proofs.Refusals.{number_positive}
use mathlib.Core.Path.{◌≡◌, refl, ap, sym, ◌∙◌}
use mathlib.Core.List.{List, [], ◌∷◌, ◌++◌, append_assoc, append-nil}
use mathlib.Core.Bool.{Bool, true, false, cond, ◌||◌}
use Prim.Native.Nat.{ℕ, zero, suc, ◌+◌, ◌-◌, ◌≤◌, ◌<◌}
use native.Mathlib.Omega.{arith}
use native.Mathlib.Decide.{dec_lt}
use native.Mathlib.Numerals.{add-one}
use lib.Dec.{ltb, eqb}
use lib.ListN.{length, get_or, take, drop, set, replicate, length-append, length-take, length-drop, length-set, length-replicate, get_or-replicate, replicate-append-replicate, take-append-drop}
use lib.Seq.{drop-drop, take_at, drop_at, take-suc-set, take_all, length-take-le, get_or-set_other, get_or-take, get_or-drop, set-get_or}
use borrow.Author.Tests.{eq-eqb, ne_eqb, le-ltb}
use Rattle.digits.proofs.Lists.{get_d_past, tail_part, put_tail}
use Rattle.field.specs.Table.{formats, rows}
use Rattle.field.specs.Bitmap.{names}
use Rattle.field.specs.Contents.{room, places}
use Rattle.field.specs.declared.Format.{Format}
use Rattle.field.proofs.Formats.{length-formats, drop-formats}
use Rattle.span.specs.Span.{span_at, span, spans}
use Rattle.span.specs.declared.Span.{Span}
use Rattle.span.proofs.Held.{span-within, span_fits}
use Rattle.message.specs.Build.{padded}
use Rattle.message.proofs.Places.{At, rooms_of, rooms-formats, places-rest}
use Rattle.message.specs.Message.{rooms}
use Rattle.message.specs.declared.Message.{Message}
use Rattle.message.specs.Late.{late_fault}
use Rattle.reading.specs.Found.{told, parsed, Copied}
use Rattle.reading.specs.Reading.{Fields, bad, good, prepend, read_fields, Read, accepted, refused, assembled, indicator_in, bitmap_of}

-- where the contents of the field at place k of the table stand
abbrev pub start_of : ℕ → ℕ
start_of k = rooms - rooms_of (drop k formats)

-- the table of places has it
pub place-start : {ps : List ℕ} {k : ℕ} → ps ≡ places 0 formats → k < rows → get_or ps k 0 ≡ start_of k
place-start {ps} {k} e h = rw e (omega (arith, places-rest formats 0 k (omega (arith, length-formats)), rooms-formats))

-- the fields before k are read: their counts and contents stand at the front, and zeros after them
pub record ReadTo (bm s : List ℕ) (k at to : ℕ) (cs bs : List ℕ) : Type 0 where
  pub k_bound : k ≤ rows
  pub at_bound : at ≤ length s
  pub left : to + rooms_of (drop k formats) ≡ rooms
  pub counts_length : length cs ≡ rows
  pub contents_length : length bs ≡ rooms
  pub no_counts : (j : ℕ) → k ≤ j → get_or cs j 0 ≡ 0
  pub zeros : drop to bs ≡ replicate (rooms_of (drop k formats)) 0
  pub eq : read_fields formats bm s ≡ prepend (take k cs) (take to bs) (read_fields (drop k formats) bm (drop at s))

prepend_nil : (x : Fields) → prepend [] [] x ≡ x
prepend_nil (bad e) = refl
prepend_nil (good cs bs) = refl

prepend-twice : (cs bs cs' bs' : List ℕ) (x : Fields) → prepend cs bs (prepend cs' bs' x) ≡ prepend (cs ++ cs') (bs ++ bs') x
prepend-twice cs bs cs' bs' (bad e) = refl
prepend-twice cs bs cs' bs' (good cs'' bs'') = rw (append_assoc cs cs' cs'', append_assoc bs bs' bs'')

at-start : {bm s : List ℕ} {k at to : ℕ} {cs bs : List ℕ} → ReadTo bm s k at to cs bs → ReadTo bm s k at (start_of k) cs bs
at-start {k = k} {to = to} r = let e : to ≡ start_of k = omega (arith, r.left) in rw e at r

zero-at : (n j : ℕ) → ◌≡◌ {A = ℕ} (get_or (replicate n 0) j 0) 0
zero-at zero j = refl
zero-at (suc n) zero = refl
zero-at (suc n) (suc j) = zero-at n j

pub read_none : (bm s : List ℕ) → ReadTo bm s 0 0 (start_of 0) (replicate rows 0) (replicate rooms 0)
read_none bm s =
    at-start {to = 0}
    (record {
      k_bound = omega arith;
      at_bound = omega arith;
      left = omega (arith, rooms-formats);
      counts_length = refl;
      contents_length = refl;
      no_counts = λ j h. zero-at rows j;
      zeros = rw rooms-formats;
      eq = sym (prepend_nil (read_fields formats bm s));
    })

-- no array changes its length
module _ {bm s cs bs l : List ℕ} {k at to : ℕ} (r : ReadTo bm s k at to cs bs) where
  pub counts-kept : l ≡ replicate rows 0 → length cs ≡ length l
  counts-kept e = r.counts_length ∙ rw e

  pub contents-kept : l ≡ replicate rooms 0 → length bs ≡ length l
  contents-kept e = r.contents_length ∙ rw e

-- zeros after a field's contents fill its place, and those of the fields after it
zeros_split : (z w l o : ℕ) → z ≤ w → drop z (replicate (w + l) o) ≡ replicate (w - z) o ++ replicate l o
zeros_split z w l o h =
    let e : z + (w - z + l) ≡ w + l = omega arith in
    rw (← e, ← replicate-append-replicate z (w - z + l) o, ← replicate-append-replicate (w - z) l o)
    (drop_at (replicate z o) (replicate (w - z) o ++ replicate l o) z (length-replicate z o))

-- one field more
read_more : {bm s : List ℕ} {k at to : ℕ} {cs bs : List ℕ} {f : Format} (n p z : ℕ) (bs' : List ℕ) → ReadTo bm s k at to cs bs → At k f
    → span f bm (drop at s) ≡ spans n p z
    → bs' ≡ take to bs ++ (take z (drop p (drop at s)) ++ drop z (drop to bs))
    → ReadTo bm s (k + 1) (at + p + z) (start_of (k + 1)) (set cs k n) bs'
unfolding read_fields
read_more {bm} {s} {k} {at} {to} {cs} {bs} {f} n p z bs' r a e w =
    let t = span_fits f bm (drop at s) e in
    let b : List ℕ = take z (drop p (drop at s)) in
    let fz : List ℕ = replicate (room f - z) 0 in
    let lz : List ℕ = replicate (rooms_of (drop (k + 1) formats)) 0 in
    let ls : length (drop at s) ≡ length s - at = length-drop at s in
    let lb : length b ≡ z = length-take-le z (drop p (drop at s)) (rw length-drop (omega arith)) in
    let q : rooms_of (drop k formats) ≡ room f + rooms_of (drop (k + 1) formats) = rw a.turn in
    let zs : drop z (drop to bs) ≡ fz ++ lz = rw (r.zeros, q) (zeros_split z (room f) (rooms_of (drop (k + 1) formats)) 0 t.placed) in
    let lt : length (take to bs) ≡ to = length-take-le to bs (omega arith) in
    let front : List ℕ = take to bs ++ (b ++ fz) in
    let w' : bs' ≡ front ++ lz = w ∙ rw (zs, ← append_assoc b fz lz) (sym (append_assoc (take to bs) (b ++ fz) lz)) in
    let lf : length front ≡ to + room f =
    length-append (take to bs) (b ++ fz) ∙ rw (length-append, lt, lb, length-replicate) (omega (arith, t.placed)) in
    let pad : padded (room f) b ≡ b ++ fz = rw lb in
    let sum : at + (p + z) ≡ at + p + z = omega arith in
    let tc : take (k + 1) (set cs k n) ≡ take k cs ++ (n ∷ []) = rw add-one (take-suc-set cs k n (omega (arith, a.below))) in
    at-start {to = to + room f}
    (record {
      k_bound = omega (arith, a.below);
      at_bound = omega (arith, t.within);
      left = omega arith;
      counts_length = length-set cs k n ∙ r.counts_length;
      contents_length = rw w' (length-append front lz ∙ rw (lf, length-replicate) (omega arith));
      no_counts = λ j h. get_or-set_other cs k j n 0 (λ i. omega (arith, i)) ∙ r.no_counts j (omega arith);
      zeros = rw w' (drop_at front lz (to + room f) lf);
      eq = r.eq ∙ rw (a.turn, e, pad, drop-drop (p + z) at s, sum, w', take_at front lz (to + room f) lf, tc)
          (prepend-twice (take k cs) (take to bs) (n ∷ []) (b ++ fz) (read_fields (drop (k + 1) formats) bm (drop (at + p + z) s)));
    })

-- the field at place k of the table, in the code's own terms
module _ {bm s cs bs : List ℕ} {k at : ℕ} {f : Format} (r : ReadTo bm s k at (start_of k) cs bs) (a : At k f) where
  -- the contents from a place on
  rooms_from : (to : ℕ) → take (rooms - to) (drop to bs) ≡ drop to bs
  rooms_from to = rw (← r.contents_length) (tail_part to bs)

  -- its place has room
  pub place-room : {to : ℕ} → to ≡ start_of k → room f ≤ length (take (rooms - to) (drop to bs))
  place-room {to} e = rw (rooms_from, length-drop) (omega (arith, r.left, r.contents_length, ap rooms_of a.turn))

  -- one that the bitmap does not name
  pub read_past : names bm f.number ≡ false → ReadTo bm s (k + 1) at (start_of (k + 1)) cs bs
  unfolding span
  read_past e =
      let u : set cs k 0 ≡ cs = rw (← r.no_counts k (omega arith)) (set-get_or cs k 0) in
      let v : at + 0 + 0 ≡ at = omega arith in
      rw (u, v) at (read_more 0 0 0 bs r a (rw e) (sym (take-append-drop (start_of k) bs)))

  -- one that is found in what is left, its contents copied to its place
  module _ (to : ℕ) {t : Result Span ℕ} {out : List ℕ} (y : Copied f (take (length s - at) (drop at s)) (take (rooms - to) (drop to bs)) t out) where
    found_there : span_at f (drop at s) ≡ t
    found_there = rw (← tail_part at s) (sym y.found)

    pub within : {n p z : ℕ} → t ≡ spans n p z → at + p + z ≤ length s
    within g = omega (arith, span-within f (drop at s) (found_there ∙ g), length-drop at s, r.at_bound)

    module _ (h : names bm f.number ≡ true) where
      named_there : span f bm (drop at s) ≡ t
      unfolding span
      named_there = rw h found_there

      pub read_stop : {x : ℕ} → t ≡ Err x → read_fields formats bm s ≡ bad x
      unfolding read_fields
      read_stop g = r.eq ∙ rw (a.turn, named_there ∙ g)

      pub read_next : {n p z : ℕ} → to ≡ start_of k → t ≡ spans n p z
          → ReadTo bm s (k + 1) (at + p + z) (start_of (k + 1)) (set cs k n) (take to bs ++ (out ++ drop (rooms - to) (drop to bs)))
      read_next {n} {p} {z} e g =
          let u : out ≡ take z (drop p (drop at s)) ++ drop z (drop to bs) = y.copied n p z g ∙ rw (tail_part at s, rooms_from to) in
          let q : take to bs ++ (out ++ drop (rooms - to) (drop to bs)) ≡ take to bs ++ out = rw (← r.contents_length) (put_tail to bs out) in
          rw q (read_more n p z (take to bs ++ out) r a (named_there ∙ g) (rw (u, e)))

at-end : {bm s : List ℕ} {k at to : ℕ} {cs bs : List ℕ} → ReadTo bm s k at to cs bs → rows ≤ k
    → read_fields formats bm s ≡ prepend cs bs (cond (eqb (length (drop at s)) 0) (good [] []) (bad 9))
unfolding read_fields
at-end {bm} {s} {k} {at} {to} {cs} {bs} r h =
    let e : k ≡ rows = omega arith in
    let tc : take k cs ≡ cs = take_all k cs (omega arith) in
    let l : to + rooms_of (drop rows formats) ≡ rooms = rw e at r.left in
    let tb : take to bs ≡ bs = take_all to bs (omega (arith, rw drop-formats at l)) in
    r.eq ∙ rw (tc, tb, e, drop-formats)

pub read-long : {bm s : List ℕ} {k at to : ℕ} {cs bs : List ℕ} → ReadTo bm s k at to cs bs → rows ≤ k → at < length s → read_fields formats bm s ≡ bad 9
read-long {s = s} {at = at} r h l = at-end r h ∙ rw (ne_eqb (length (drop at s)) 0 (λ z. omega (arith, length-drop at s)))

pub read_done : {bm s : List ℕ} {k at to : ℕ} {cs bs : List ℕ} → ReadTo bm s k at to cs bs → rows ≤ k → length s ≤ at
    → read_fields formats bm s ≡ good cs bs
read_done {s = s} {at = at} {cs = cs} {bs = bs} r h l = at-end r h ∙ rw (eq-eqb (length (drop at s)) 0 (omega (arith, length-drop at s)), append-nil cs, append-nil bs)

-- a message whose fields are read, judged as a whole
pub judged-read : (m : Message) (r : Result (Unit {0}) Refusal) → refused_by r ≡ late_fault m → parsed r m ≡ accepted m
judged-read m r h = go r (late_fault m) h
  where
    go : (r : Result (Unit {0}) Refusal) (k : ℕ) → refused_by r ≡ k → parsed r m ≡ cond (eqb k 0) (record { outcome = Read; message = m }) (refused k)
    go (Ok x) k h = rw (← h)
    go (Err x) k h = rw (← h, ne_eqb (number_of x) 0 (number_positive x))

-- a message whose type and bitmap stand, after its fields
module _ (s : List ℕ) (m : Message) {x : Fields} {q : Result (Unit {0}) Refusal} (f : x ≡ told q m.counts m.contents) where
  pub fields-refused : {e : Refusal} → q ≡ Err e → refused (number_of e) ≡ assembled (indicator_in s) (bitmap_of s) x
  fields-refused e = rw (f, e)

  pub fields-judged : (r : Result (Unit {0}) Refusal) {u : Unit {0}} → q ≡ Ok u → m.indicator ≡ indicator_in s → m.bitmap ≡ bitmap_of s
      → refused_by r ≡ late_fault m → parsed r m ≡ assembled (indicator_in s) (bitmap_of s) x
  fields-judged r e i b h = rw (f, e, ← i, ← b) (judged-read m r h)
