-- Fields of any table: those that are written read back, and those that are read are written as the same bytes.
use Rattle.std.specs.Prelude.{Err, Result, Ok}
use mathlib.Core.Path.{◌≡◌, refl, ap, sym, ◌∙◌}
use mathlib.Core.List.{List, [], ◌∷◌, ◌++◌, append_assoc}
use mathlib.Core.Bool.{Bool, true, false, cond, not, ◌&&◌, ◌||◌, and-eq-true_iff}
use Prim.Native.Nat.{ℕ, suc, ◌+◌, ◌-◌, ◌≤◌}
use native.Mathlib.Omega.{arith}
use native.Mathlib.Decide.{ℕ_discrete}
use lib.Dec.{eqb}
use lib.ListN.{length, get_or, take, drop, replicate, length-append, length-drop, length-replicate, take-append-drop}
use lib.Seq.{take_at, drop_at, length-take-le}
use borrow.Author.Tests.{eq-eqb, ne_eqb}
use Rattle.field.specs.Bitmap.{names}
use Rattle.field.specs.Contents.{size, room, skip, allowed, late, kept, fault}
use Rattle.field.specs.declared.Format.{Format}
use Rattle.field.specs.declared.Class.{Class}
use Rattle.field.specs.declared.Class.TheVariants.{Digits, Printable, Any}
use Rattle.field.proofs.Contents.{late-holds, none-in_form}
use Rattle.span.specs.Span.{span_at, span, field_bytes, spans}
use Rattle.span.specs.declared.Span.{Span}
use Rattle.span.proofs.Held.{same_spans, Found, held, passed, span-found, size-bound, kept-bound}
use Rattle.span.proofs.Bytes.{well_formed, length-field, drop_prefix, span-kept, held_bytes}
use Rattle.message.specs.Message.{Field, field_in}
use Rattle.message.specs.Build.{padded}
use Rattle.reading.specs.Reading.{Fields, bad, good, prepend, after_span, read_fields}
use Rattle.message.proofs.Places.{rooms_of}
use Rattle.writing.specs.Writing.{field_fault, fields_fault, named_bytes, fields_bytes}
use Rattle.writing.proofs.Faults.{field-sound, fields-sound}

-- each format of a table can write its counts
abbrev pub all_well_formed : List Format → Bool
all_well_formed [] = true
all_well_formed (f ∷ fs) = well_formed f && all_well_formed fs

-- what is left of a field where only what the bitmap names is kept
abbrev kept_bytes : Format → List ℕ → ℕ → List ℕ → List ℕ
kept_bytes f bm n bs = cond (names bm f.number) (take (size f.class (kept f n)) bs) []

abbrev pub kept_counts : List Format → List ℕ → List ℕ → List ℕ
kept_counts [] bm cs = []
kept_counts (f ∷ fs) bm cs = cond (names bm f.number) (kept f (get_or cs 0 0)) 0 ∷ kept_counts fs bm (drop 1 cs)

abbrev pub kept_contents : List Format → List ℕ → List ℕ → List ℕ → List ℕ
kept_contents [] bm cs bs = []
kept_contents (f ∷ fs) bm cs bs = padded (room f) (kept_bytes f bm (get_or cs 0 0) bs) ++ kept_contents fs bm (drop 1 cs) (drop (room f) bs)

-- the contents of a field are all there
in_length : (f : Format) (n : ℕ) (bs : List ℕ) → room f ≤ length bs → length (take (size f.class (kept f n)) bs) ≡ size f.class (kept f n)
in_length f n bs l = length-take-le (size f.class (kept f n)) bs (omega (arith, kept-bound f n))

-- one field, written and read
pub turn_back : (f : Format) (bm : List ℕ) (n : ℕ) (bs rest : List ℕ) (next : List ℕ → Fields)
    → well_formed f ≡ true → room f ≤ length bs → field_fault f bm n bs ≡ 0
    → after_span f (named_bytes f bm n bs ++ rest) next (span f bm (named_bytes f bm n bs ++ rest))
    ≡ prepend (cond (names bm f.number) (kept f n) 0 ∷ []) (padded (room f) (kept_bytes f bm n bs)) (next rest)
unfolding span named_bytes
turn_back f bm n bs rest next w l z = go (names bm f.number) refl
  where
    h : ℕ
    h = kept f n

    b : List ℕ
    b = take (size f.class h) bs

    go : (k : Bool) → names bm f.number ≡ k
        → after_span f (cond k (field_bytes f h b) [] ++ rest) next (cond k (span_at f (cond k (field_bytes f h b) [] ++ rest)) (spans 0 0 0))
        ≡ prepend (cond k h 0 ∷ []) (padded (room f) (cond k b [])) (next rest)
    go true e =
        let y = field-sound f bm n bs e z in
        let lb : length b ≡ size f.class h = in_length f n bs l in
        let lf : length (field_bytes f h b) ≡ skip f.prefix + size f.class h = length-field f h b ∙ rw lb in
        rw (
          span-kept f n b rest w y.stands_there lb y.no_fault,
          drop_prefix f h b rest,
          take_at b rest (size f.class h) lb,
          drop_at (field_bytes f h b) rest (skip f.prefix + size f.class h) lf,
        )
    go false e = refl

-- fields that are written read back
pub fields_back : (fs : List Format) (bm cs bs : List ℕ) → all_well_formed fs ≡ true → rooms_of fs ≤ length bs → fields_fault fs bm cs bs ≡ 0
    → read_fields fs bm (fields_bytes fs bm cs bs) ≡ good (kept_counts fs bm cs) (kept_contents fs bm cs bs)
unfolding read_fields fields_bytes fields_fault
fields_back [] bm cs bs w l z = refl
fields_back (f ∷ fs) bm cs bs w l z =
    let wf = (and-eq-true_iff (well_formed f) (all_well_formed fs)).0 w in
    let j = fields-sound f fs bm cs bs z in
    turn_back f bm (get_or cs 0 0) bs (fields_bytes fs bm (drop 1 cs) (drop (room f) bs)) (read_fields fs bm) wf.0 (omega arith) j.0
    ∙ rw (fields_back fs bm (drop 1 cs) (drop (room f) bs) wf.1 (rw length-drop (omega arith)) j.1)

length-padded : (w : ℕ) (b : List ℕ) → length b ≤ w → length (padded w b) ≡ w
length-padded w b h = length-append b (replicate (w - length b) 0) ∙ rw length-replicate (omega arith)

-- what stands in a field's place, and what stands after it
pub in_place : (w : ℕ) (b rest : List ℕ) (z : ℕ) → length b ≡ z → take z (padded w b ++ rest) ≡ b
in_place w b rest z l = rw (append_assoc b (replicate (w - length b) 0) rest) (take_at b (replicate (w - length b) 0 ++ rest) z l)

after-place : (w : ℕ) (b rest : List ℕ) → length b ≤ w → drop w (padded w b ++ rest) ≡ rest
after-place w b rest l = drop_at (padded w b) rest w (length-padded w b l)

-- a field's bytes are as long as its place at most, whether it is kept or not
kept-length : (f : Format) (bm : List ℕ) (n : ℕ) (bs : List ℕ) → room f ≤ length bs → length (kept_bytes f bm n bs) ≤ room f
kept-length f bm n bs l = go (names bm f.number)
  where
    go : (k : Bool) → length (cond k (take (size f.class (kept f n)) bs) []) ≤ room f
    go true = rw (in_length f n bs l) (kept-bound f n)
    go false = omega arith

-- a field that the bitmap names is kept whole, where its length is allowed
kept_field : (f : Format) (bm : List ℕ) (n : ℕ) (bs rest : List ℕ) → names bm f.number ≡ true → room f ≤ length bs → allowed f n ≡ true
    → ◌≡◌ {A = Field}
    (record { count = cond (names bm f.number) (kept f n) 0; bytes = take (size f.class (cond (names bm f.number) (kept f n) 0)) (padded (room f) (kept_bytes f bm n bs) ++ rest) })
    (record { count = n; bytes = take (size f.class n) bs })
kept_field f bm n bs rest e l a =
    let lb : length (take (size f.class n) bs) ≡ size f.class n = rw a at (in_length f n bs l) in
    rw (e, a, in_place (room f) (take (size f.class n) bs) rest (size f.class n) lb)

-- field n is not one whose length is judged late, or its length is allowed
abbrev pub row_kept : List Format → List ℕ → ℕ → Bool
row_kept [] cs n = true
row_kept (f ∷ fs) cs n = cond (eqb f.number n) (not (late f) || allowed f (get_or cs 0 0)) (row_kept fs (drop 1 cs) n)

pub both_allow : (a l : Bool) → (a || l) ≡ true → (not l || a) ≡ true → a ≡ true
both_allow true l x y = refl
both_allow false true x y = y
both_allow false false x y = x

pub kept-fields : (fs : List Format) (bm cs bs : List ℕ) → rooms_of fs ≤ length bs → fields_fault fs bm cs bs ≡ 0
    → (n : ℕ) → names bm n ≡ true → row_kept fs cs n ≡ true → field_in fs (kept_counts fs bm cs) (kept_contents fs bm cs bs) n ≡ field_in fs cs bs n
unfolding field_in fields_fault
kept-fields [] bm cs bs l z n e k = refl
kept-fields (f ∷ fs) bm cs bs l z n e k =
    let j = fields-sound f fs bm cs bs z in
    go j.0 (kept-fields fs bm (drop 1 cs) (drop (room f) bs) (rw length-drop (omega arith)) j.1 n e) (ℕ_discrete f.number n)
  where
    b : List ℕ
    b = kept_bytes f bm (get_or cs 0 0) bs

    rest : List ℕ
    rest = kept_contents fs bm (drop 1 cs) (drop (room f) bs)

    go : field_fault f bm (get_or cs 0 0) bs ≡ 0
        → (row_kept fs (drop 1 cs) n ≡ true → field_in fs (kept_counts fs bm (drop 1 cs)) rest n ≡ field_in fs (drop 1 cs) (drop (room f) bs) n)
        → Dec (f.number ≡ n) → field_in (f ∷ fs) (kept_counts (f ∷ fs) bm cs) (kept_contents (f ∷ fs) bm cs bs) n ≡ field_in (f ∷ fs) cs bs n
    go y ih (yes q) =
        let i : names bm f.number ≡ true = rw q e in
        let a = both_allow (allowed f (get_or cs 0 0)) (late f) (field-sound f bm (get_or cs 0 0) bs i y).stands_there (rw (eq-eqb f.number n q) at k) in
        rw (eq-eqb f.number n q) (kept_field f bm (get_or cs 0 0) bs rest i (omega arith) a)
    go y ih (no q) =
        rw (ne_eqb f.number n q, after-place (room f) b rest (kept-length f bm (get_or cs 0 0) bs (omega arith))) (ih (rw (ne_eqb f.number n q) at k))

-- the lengths that are judged late are allowed
abbrev late_kept : Format → List ℕ → ℕ → Bool
late_kept f bm n = not (late f && names bm f.number) || allowed f n

abbrev pub all_late_kept : List Format → List ℕ → List ℕ → Bool
all_late_kept [] bm cs = true
all_late_kept (f ∷ fs) bm cs = late_kept f bm (get_or cs 0 0) && all_late_kept fs bm (drop 1 cs)

-- fields that were read, written again
pub record Again (fs : List Format) (bm s cs bs : List ℕ) : Type 0 where
  pub counts_length : length cs ≡ length fs
  pub contents_length : length bs ≡ rooms_of fs
  pub sound : fields_fault fs bm cs bs ≡ 0
  pub bytes : all_late_kept fs bm cs ≡ true → fields_bytes fs bm cs bs ≡ s

-- one field that was read: its bytes, and where its contents stand
pub record Taken (f : Format) (bm s : List ℕ) (n p z : ℕ) : Type 0 where
  pub fits : length (take z (drop p s)) ≤ room f
  pub sound : (rest : List ℕ) → field_fault f bm n (padded (room f) (take z (drop p s)) ++ rest) ≡ 0
  pub bytes : late_kept f bm n ≡ true → (rest : List ℕ) → named_bytes f bm n (padded (room f) (take z (drop p s)) ++ rest) ≡ take (p + z) s

pub none-in_form-at : (c : Class) (s : List ℕ) → fault c 0 (take (size c 0) s) ≡ 0
none-in_form-at Digits s = none-in_form Digits
none-in_form-at Printable s = none-in_form Printable
none-in_form-at Any s = none-in_form Any

taken : (f : Format) (bm s : List ℕ) (n p z : ℕ) → span f bm s ≡ spans n p z → Taken f bm s n p z
unfolding span field_fault named_bytes
taken f bm s n p z q = go (names bm f.number) refl q
  where
    b : List ℕ
    b = take z (drop p s)

    found : names bm f.number ≡ true → Found f s n p z → Taken f bm s n p z
    found e (held h) =
        let lb : length b ≡ size f.class n = length-take-le z (drop p s) (omega (arith, length-drop p s, h.fits)) ∙ h.size_is in
        record {
          fits = rw lb (size-bound f n h.allows);
          sound = λ rest. rw (e, h.allows, in_place (room f) b rest (size f.class n) lb) h.no_fault;
          bytes = λ _ rest. rw (e, h.allows, in_place (room f) b rest (size f.class n) lb) (held_bytes h);
        }
    found e (passed h) =
        let none = late-holds f h.is_late in
        rw (h.count_none, h.size_none)
        (record {
          fits = omega arith;
          sound = λ rest. rw (e, none, h.is_late) (none-in_form-at f.class (padded (room f) [] ++ rest));
          bytes = λ k. absurd (let y : ◌≡◌ {A = Bool} false true = rw (h.is_late, e, none) at k in let x : ◌≡◌ {A = ℕ} 0 1 = cc in omega arith);
        })

    go : (k : Bool) → names bm f.number ≡ k → cond k (span_at f s) (spans 0 0 0) ≡ spans n p z → Taken f bm s n p z
    go true e q = found e (span-found f s q)
    go false e q =
        let same = same_spans q in
        rw (← same.1.0, ← same.1.1) (record { fits = omega arith; sound = λ rest. rw e; bytes = λ _ rest. rw e })

pub prepend-good : (n : ℕ) (b : List ℕ) (x : Fields) (cs bs : List ℕ) → prepend (n ∷ []) b x ≡ good cs bs
    → (cs' : List ℕ) × (bs' : List ℕ) × (x ≡ good cs' bs') × (n ∷ cs' ≡ cs) × (b ++ bs' ≡ bs)
prepend-good n b (bad e) cs bs q = absurd (let z : ◌≡◌ {A = ℕ} 0 1 = cc in omega arith)
prepend-good n b (good cs' bs') cs bs q = (cs', bs', refl, cc, cc)

again-more : (f : Format) (fs : List Format) (bm s cs bs : List ℕ) (n p z : ℕ) → Taken f bm s n p z → Again fs bm (drop (p + z) s) cs bs
    → Again (f ∷ fs) bm s (n ∷ cs) (padded (room f) (take z (drop p s)) ++ bs)
unfolding fields_fault fields_bytes
again-more f fs bm s cs bs n p z t a =
    let b : List ℕ = take z (drop p s) in
    let d : drop (room f) (padded (room f) b ++ bs) ≡ bs = after-place (room f) b bs t.fits in
    record {
      counts_length = ap suc a.counts_length;
      contents_length = length-append (padded (room f) b) bs ∙ rw (length-padded (room f) b t.fits, a.contents_length);
      sound = rw (t.sound bs, d, a.sound);
      bytes = λ k.
          let j = (and-eq-true_iff (late_kept f bm n) (all_late_kept fs bm cs)).0 k in
          rw (t.bytes j.0 bs, d, a.bytes j.1) (take-append-drop (p + z) s);
    }

none-again : (bm s cs bs : List ℕ) → Dec (length s ≡ 0) → cond (eqb (length s) 0) (good [] []) (bad 9) ≡ good cs bs → Again [] bm s cs bs
unfolding fields_fault fields_bytes
none-again bm s cs bs (yes e) q =
    let y : good [] [] ≡ good cs bs = rw (eq-eqb (length s) 0 e) at q in
    let c : [] ≡ cs = cc in
    let b : [] ≡ bs = cc in
    rw (← c, ← b) (record { counts_length = refl; contents_length = refl; sound = refl; bytes = λ _. sym (empty s e) })
  where
    empty : (s : List ℕ) → length s ≡ 0 → s ≡ []
    empty [] l = refl
    empty (x ∷ s) l = absurd (omega (arith, l))
none-again bm s cs bs (no e) q =
    let y : bad 9 ≡ good cs bs = rw (ne_eqb (length s) 0 e) at q in
    absurd (let z : ◌≡◌ {A = ℕ} 0 1 = cc in omega arith)

again_equal : {fs : List Format} {bm s cs bs cs' bs' : List ℕ} → cs ≡ cs' → bs ≡ bs' → Again fs bm s cs bs → Again fs bm s cs' bs'
again_equal p q a = rw (← p, ← q) a

-- fields that are read are written as the same bytes
pub fields-again : (fs : List Format) (bm s cs bs : List ℕ) → read_fields fs bm s ≡ good cs bs → Again fs bm s cs bs
unfolding read_fields
fields-again [] bm s cs bs q = none-again bm s cs bs (ℕ_discrete (length s) 0) q
fields-again (f ∷ fs) bm s cs bs q = go (fields-again fs bm) (span f bm s) refl q
  where
    go : ((s cs bs : List ℕ) → read_fields fs bm s ≡ good cs bs → Again fs bm s cs bs)
        → (g : Result Span ℕ) → span f bm s ≡ g → after_span f s (read_fields fs bm) g ≡ good cs bs → Again (f ∷ fs) bm s cs bs
    go ih (Ok x) e q =
        let n = x.count in
        let p = x.skip in
        let z = x.size in
        let g = prepend-good n (padded (room f) (take z (drop p s))) (read_fields fs bm (drop (p + z) s)) cs bs q in
        again_equal g.3 g.4 (again-more f fs bm s g.0 g.1 n p z (taken f bm s n p z e) (ih (drop (p + z) s) g.0 g.1 g.2))
    go ih (Err x) e q = absurd (let y : ◌≡◌ {A = ℕ} 0 1 = cc in omega arith)
