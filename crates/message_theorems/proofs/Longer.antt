-- Fields of any table, read from bytes that others follow.
use Rattle.std.specs.Prelude.{Err, Result, Ok}
use mathlib.Core.Path.{◌≡◌, refl, ap, sym, ◌∙◌}
use mathlib.Core.List.{List, [], ◌∷◌, ◌++◌}
use mathlib.Core.Bool.{Bool, true, false, cond}
use Prim.Native.Nat.{ℕ, suc, ◌+◌, ◌*◌, ◌≤◌}
use native.Mathlib.Omega.{arith}
use native.Mathlib.Decide.{ℕ_discrete}
use lib.Dec.{ltb}
use lib.ListN.{length, take, drop, length-append}
use lib.Seq.{take-append-le, drop-append-le}
use borrow.Author.Tests.{le-ltb, ltb-false, ne_eqb}
use Rattle.digits.specs.Digits.{is_packed}
use Rattle.field.specs.Bitmap.{names}
use Rattle.field.specs.Contents.{size, room, skip, allowed, late}
use Rattle.field.specs.declared.Format.{Format}
use Rattle.span.specs.Span.{count_in, passed_at, contents_at, span_at, span, spans}
use Rattle.span.specs.declared.Span.{Span}
use Rattle.span.proofs.Held.{refused-held, span_fits}
use Rattle.message.specs.Build.{padded}
use Rattle.reading.specs.Reading.{Fields, bad, good, prepend, after_span, read_fields}
use Rattle.message_theorems.proofs.Fields.{prepend-good}

-- what is found at the front of s stands whatever follows s, but for 3
passed-stands : (f : Format) (n : ℕ) (s t : List ℕ) → (passed_at f n s ≡ Err 3 → ⊥) → passed_at f n (s ++ t) ≡ passed_at f n s
unfolding passed_at
passed-stands f n s t h = go (late f) refl (ltb (length s) n) refl
  where
    go : (a : Bool) → late f ≡ a → (b : Bool) → ltb (length s) n ≡ b → passed_at f n (s ++ t) ≡ passed_at f n s
    go false e b g = rw e
    go true e true g = absurd (h (rw (e, g)))
    go true e false g =
        let l : n ≤ length s = ltb-false (length s) n g in
        rw (e, g, le-ltb (length (s ++ t)) n (rw length-append (omega arith)))

contents_stand : (f : Format) (n : ℕ) (s t : List ℕ) → (contents_at f n s ≡ Err 3 → ⊥) → contents_at f n (s ++ t) ≡ contents_at f n s
unfolding contents_at
contents_stand f n s t h = go (allowed f n) refl (ltb (length s) (size f.class n)) refl
  where
    go : (a : Bool) → allowed f n ≡ a → (b : Bool) → ltb (length s) (size f.class n) ≡ b → contents_at f n (s ++ t) ≡ contents_at f n s
    go false e b g = rw e (passed-stands f n s t (λ q. h (rw e q)))
    go true e true g = absurd (h (rw (e, g)))
    go true e false g =
        let l : size f.class n ≤ length s = ltb-false (length s) (size f.class n) g in
        rw (e, g, le-ltb (length (s ++ t)) (size f.class n) (rw length-append (omega arith)), take-append-le (size f.class n) s t l)

span_at-stands : (f : Format) (s t : List ℕ) → (span_at f s ≡ Err 3 → ⊥) → span_at f (s ++ t) ≡ span_at f s
unfolding span_at
span_at-stands f s t h = go (ltb (length s) k) refl
  where
    k : ℕ
    k = skip f.prefix

    n : ℕ
    n = count_in f.prefix f.high (take k s)

    judged : (b : Bool) → is_packed (2 * k) (take k s) ≡ b → ltb (length s) k ≡ false
        → cond b (contents_at f n (drop k s ++ t)) (Err 6) ≡ cond b (contents_at f n (drop k s)) (Err 6)
    judged true g e = contents_stand f n (drop k s) t (λ q. h (rw (e, g) q))
    judged false g e = refl

    go : (a : Bool) → ltb (length s) k ≡ a → span_at f (s ++ t) ≡ span_at f s
    go true e = absurd (h (rw e))
    go false e =
        let l : k ≤ length s = ltb-false (length s) k e in
        let long = le-ltb (length (s ++ t)) k (rw length-append (omega arith)) in
        rw (e, long, take-append-le k s t l, drop-append-le k s t l) (judged (is_packed (2 * k) (take k s)) refl e)

span-stands : (f : Format) (bm s t : List ℕ) → (span f bm s ≡ Err 3 → ⊥) → span f bm (s ++ t) ≡ span f bm s
unfolding span
span-stands f bm s t h = go (names bm f.number) refl
  where
    go : (b : Bool) → names bm f.number ≡ b → span f bm (s ++ t) ≡ span f bm s
    go true e = rw e (span_at-stands f s t (λ q. h (rw e q)))
    go false e = rw e

bad-good : {e : ℕ} {cs bs : List ℕ} → bad e ≡ good cs bs → ⊥
bad-good q = let z : ◌≡◌ {A = ℕ} 0 1 = cc in omega arith

refused_equal : {a b : ℕ} → ◌≡◌ {A = Result Span ℕ} (Err a) (Err b) → a ≡ b
refused_equal q = cc

-- one field that is found, and those after it
module _ (f : Format) (fs : List Format) (bm s t : List ℕ) {n p z : ℕ} (q : span f bm s ≡ spans n p z) where
  next-bad : (e : ℕ) → read_fields fs bm (drop (p + z) s ++ t) ≡ bad e → read_fields (f ∷ fs) bm (s ++ t) ≡ bad e
  unfolding read_fields
  next-bad e h =
      let k : span f bm (s ++ t) ≡ spans n p z = span-stands f bm s t (λ x. refused-held (sym x ∙ q)) ∙ q in
      rw (k, drop-append-le (p + z) s t (span_fits f bm s q).within, h)

prepend-bad : (cs bs : List ℕ) (x : Fields) (e : ℕ) → prepend cs bs x ≡ bad e → x ≡ bad e
prepend-bad cs bs (bad x) e q = q
prepend-bad cs bs (good x y) e q = absurd (bad-good (sym q))

-- bytes that follow the last field
bytes_follow : (bm : List ℕ) (x : ℕ) (s : List ℕ) → read_fields [] bm (x ∷ s) ≡ bad 9
unfolding read_fields
bytes_follow bm x s = rw (ne_eqb (suc (length s)) 0 (λ e. omega (arith, e)))

-- fields that are refused, but for 3, are refused by the same number whatever follows
pub fields_stand : (fs : List Format) (bm s t : List ℕ) (e : ℕ) → (e ≡ 3 → ⊥) → read_fields fs bm s ≡ bad e → read_fields fs bm (s ++ t) ≡ bad e
unfolding read_fields
fields_stand [] bm [] t e h q = absurd (bad-good (sym q))
fields_stand [] bm (x ∷ s) t e h q = bytes_follow bm x (s ++ t) ∙ sym (bytes_follow bm x s) ∙ q
fields_stand (f ∷ fs) bm s t e h q = go (λ r. fields_stand fs bm r t e h) (span f bm s) refl q
  where
    go : ((r : List ℕ) → read_fields fs bm r ≡ bad e → read_fields fs bm (r ++ t) ≡ bad e)
        → (g : Result Span ℕ) → span f bm s ≡ g → after_span f s (read_fields fs bm) g ≡ bad e → read_fields (f ∷ fs) bm (s ++ t) ≡ bad e
    go ih (Ok x) k q =
        let n = x.count in
        let p = x.skip in
        let z = x.size in
        next-bad f fs bm s t k e (ih (drop (p + z) s) (prepend-bad (n ∷ []) (padded (room f) (take z (drop p s))) (read_fields fs bm (drop (p + z) s)) e q))
    go ih (Err x) k q =
        let y : x ≡ e = cc in
        let i : span f bm s ≡ Err e = k ∙ ap Err y in
        rw (span-stands f bm s t (λ r. h (refused_equal (sym i ∙ r))), i)

-- fields that are read, with bytes after them
pub fields_longer : (fs : List Format) (bm s : List ℕ) (x : ℕ) (t cs bs : List ℕ) → read_fields fs bm s ≡ good cs bs → read_fields fs bm (s ++ (x ∷ t)) ≡ bad 9
unfolding read_fields
fields_longer [] bm [] x t cs bs q = bytes_follow bm x t
fields_longer [] bm (y ∷ s) x t cs bs q = absurd (bad-good (sym (bytes_follow bm y s) ∙ q))
fields_longer (f ∷ fs) bm s x t cs bs q = go (fields_longer fs bm) (span f bm s) refl q
  where
    go : ((s : List ℕ) (x : ℕ) (t cs bs : List ℕ) → read_fields fs bm s ≡ good cs bs → read_fields fs bm (s ++ (x ∷ t)) ≡ bad 9)
        → (g : Result Span ℕ) → span f bm s ≡ g → after_span f s (read_fields fs bm) g ≡ good cs bs → read_fields (f ∷ fs) bm (s ++ (x ∷ t)) ≡ bad 9
    go ih (Ok h) k q =
        let n = h.count in
        let p = h.skip in
        let z = h.size in
        let g = prepend-good n (padded (room f) (take z (drop p s))) (read_fields fs bm (drop (p + z) s)) cs bs q in
        next-bad f fs bm s (x ∷ t) k 9 (ih (drop (p + z) s) x t g.0 g.1 g.2)
    go ih (Err e) k q = absurd (bad-good q)

-- fields that are read end early wherever they are cut
pub fields-cut : (fs : List Format) (bm s : List ℕ) (x : ℕ) (t cs bs : List ℕ) → read_fields fs bm (s ++ (x ∷ t)) ≡ good cs bs → read_fields fs bm s ≡ bad 3
fields-cut fs bm s x t cs bs q = go (read_fields fs bm s) refl
  where
    go : (y : Fields) → read_fields fs bm s ≡ y → y ≡ bad 3
    go (good c b) h = absurd (bad-good (sym (fields_longer fs bm s x t c b h) ∙ q))
    go (bad e) h = at (ℕ_discrete e 3)
      where
        at : Dec (e ≡ 3) → bad e ≡ bad 3
        at (yes i) = ap bad i
        at (no i) = absurd (bad-good (sym (fields_stand fs bm s (x ∷ t) e i h) ∙ q))
