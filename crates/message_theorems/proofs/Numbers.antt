-- The numbers that fields are refused by.
use Rattle.std.specs.Prelude.{Err, Result, Ok}
use mathlib.Core.Path.{◌≡◌, refl, sym}
use mathlib.Core.List.{List, [], ◌∷◌}
use mathlib.Core.Bool.{Bool, true, false, cond, and-eq-true_iff}
use Prim.Native.Nat.{ℕ, ◌+◌, ◌*◌}
use native.Mathlib.Omega.{arith}
use native.Mathlib.Decide.{ℕ_discrete}
use lib.Dec.{ltb, eqb}
use lib.ListN.{length, get_or, take, drop}
use borrow.Author.Tests.{eqb-false, ne_eqb}
use Rattle.digits.specs.Digits.{is_packed}
use Rattle.field.specs.Table.{among}
use Rattle.field.specs.Bitmap.{names}
use Rattle.field.specs.Contents.{size, room, skip, allowed, late, stands, kept, all_printable, fault}
use Rattle.field.specs.declared.Class.{Class}
use Rattle.field.specs.declared.Class.TheVariants.{Digits, Printable, Any}
use Rattle.field.specs.declared.Format.{Format}
use Rattle.field.proofs.Formats.{every}
use Rattle.span.specs.Span.{count_in, passed_at, contents_at, span_at, span, spans}
use Rattle.span.specs.declared.Span.{Span}
use Rattle.message.specs.Build.{padded}
use Rattle.reading.specs.Reading.{Fields, bad, good, prepend, after_span, read_fields}
use Rattle.writing.specs.Writing.{field_fault, fields_fault}

-- what each number of a list is, one that is among them is
pub among-each : (p : ℕ → Bool) (x : ℕ) (ys : List ℕ) → every p ys ≡ true → among x ys ≡ true → p x ≡ true
among-each p x [] b h = absurd (let z : ◌≡◌ {A = ℕ} 0 1 = cc in omega arith)
among-each p x (y ∷ ys) b h =
    let t = (and-eq-true_iff (p y) (every p ys)).0 b in
    go (ℕ_discrete y x) t.0 (among-each p x ys t.1)
  where
    go : Dec (y ≡ x) → p y ≡ true → (among x ys ≡ true → p x ≡ true) → p x ≡ true
    go (yes q) k rest = rw q at k
    go (no q) k rest = rest (rw (ne_eqb y x q) at h)

pub among_others : (x : ℕ) (ys : List ℕ) → among x (0 ∷ ys) ≡ true → (x ≡ 0 → ⊥) → among x ys ≡ true
among_others x ys h k = rw (ne_eqb 0 x (λ q. k (sym q))) at h

-- the numbers that fields are refused by where they are read, and where they are to be written, 0 for none
abbrev pub span_judged : Result Span ℕ → Bool
span_judged (Ok x) = true
span_judged (Err e) = among e (3 ∷ 6 ∷ 7 ∷ 8 ∷ 9 ∷ [])

abbrev pub fields_judged : Fields → Bool
fields_judged (bad e) = among e (3 ∷ 6 ∷ 7 ∷ 8 ∷ 9 ∷ [])
fields_judged (good cs bs) = true

abbrev pub fault_judged : ℕ → Bool
fault_judged e = among e (0 ∷ 6 ∷ 7 ∷ 8 ∷ [])

-- what holds of both sides of a choice
chosen_span : (b : Bool) (x y : Result Span ℕ) → span_judged x ≡ true → span_judged y ≡ true → span_judged (cond b x y) ≡ true
chosen_span true x y h k = h
chosen_span false x y h k = k

pub chosen_number : (p : ℕ → Bool) (b : Bool) (x y : ℕ) → p x ≡ true → p y ≡ true → p (cond b x y) ≡ true
chosen_number p true x y h k = h
chosen_number p false x y h k = k

contents_fault : (c : Class) (n : ℕ) (b : List ℕ) → fault_judged (fault c n b) ≡ true
contents_fault Digits n b = chosen_number fault_judged (is_packed n b) 0 6 refl refl
contents_fault Printable n b = chosen_number fault_judged (all_printable b) 0 8 refl refl
contents_fault Any n b = refl

-- the fields of a table, to be written
field-judged : (f : Format) (bm : List ℕ) (n : ℕ) (bs : List ℕ) → fault_judged (field_fault f bm n bs) ≡ true
unfolding field_fault
field-judged f bm n bs =
    chosen_number fault_judged (names bm f.number) _ 0 (chosen_number fault_judged (stands f n) _ 7 (contents_fault f.class (kept f n) (take (size f.class (kept f n)) bs)) refl) refl

pub fault_judged_lem : (fs : List Format) (bm cs bs : List ℕ) → fault_judged (fields_fault fs bm cs bs) ≡ true
unfolding fields_fault
fault_judged_lem [] bm cs bs = refl
fault_judged_lem (f ∷ fs) bm cs bs =
    chosen_number fault_judged (eqb (field_fault f bm (get_or cs 0 0) bs) 0) _ _ (fault_judged_lem fs bm (drop 1 cs) (drop (room f) bs)) (field-judged f bm (get_or cs 0 0) bs)

-- and read
refused-fault : (x n p z : ℕ) → fault_judged x ≡ true → span_judged (cond (eqb x 0) (spans n p z) (Err x)) ≡ true
refused-fault x n p z h = go (eqb x 0) refl
  where
    go : (b : Bool) → eqb x 0 ≡ b → span_judged (cond b (spans n p z) (Err x)) ≡ true
    go true e = refl
    go false e =
        among-each (λ y. span_judged (Err y)) x (6 ∷ 7 ∷ 8 ∷ []) refl (among_others x (6 ∷ 7 ∷ 8 ∷ []) h (eqb-false x 0 e))

passed-judged : (f : Format) (n : ℕ) (s : List ℕ) → span_judged (passed_at f n s) ≡ true
unfolding passed_at
passed-judged f n s = chosen_span (late f) _ (Err 7) (chosen_span (ltb (length s) n) (Err 3) _ refl refl) refl

contents-judged : (f : Format) (n : ℕ) (s : List ℕ) → span_judged (contents_at f n s) ≡ true
unfolding contents_at
contents-judged f n s =
    chosen_span (allowed f n) _ (passed_at f n s)
    (chosen_span (ltb (length s) (size f.class n)) (Err 3) _ refl
    (refused-fault (fault f.class n (take (size f.class n) s)) n (skip f.prefix) (size f.class n)
    (contents_fault f.class n (take (size f.class n) s))))
    (passed-judged f n s)

span_judged_lem : (f : Format) (bm s : List ℕ) → span_judged (span f bm s) ≡ true
unfolding span span_at
span_judged_lem f bm s =
    let k = skip f.prefix in
    chosen_span (names bm f.number) _ (spans 0 0 0)
    (chosen_span (ltb (length s) k) (Err 3) _ refl
    (chosen_span (is_packed (2 * k) (take k s)) _ (Err 6) (contents-judged f (count_in f.prefix f.high (take k s)) (drop k s)) refl))
    refl

after-judged : (f : Format) (s : List ℕ) (next : List ℕ → Fields) (g : Result Span ℕ) → span_judged g ≡ true → ((r : List ℕ) → fields_judged (next r) ≡ true)
    → fields_judged (after_span f s next g) ≡ true
after-judged f s next (Ok x) h k = go (next (drop (x.skip + x.size) s)) (k (drop (x.skip + x.size) s))
  where
    go : (y : Fields) → fields_judged y ≡ true → fields_judged (prepend (x.count ∷ []) (padded (room f) (take x.size (drop x.skip s))) y) ≡ true
    go (bad e) h = h
    go (good cs bs) h = refl
after-judged f s next (Err e) h k = h

pub fields_judged_lem : (fs : List Format) (bm s : List ℕ) → fields_judged (read_fields fs bm s) ≡ true
unfolding read_fields
fields_judged_lem [] bm s = go (eqb (length s) 0)
  where
    go : (b : Bool) → fields_judged (cond b (good [] []) (bad 9)) ≡ true
    go true = refl
    go false = refl
fields_judged_lem (f ∷ fs) bm s = after-judged f s (read_fields fs bm) (span f bm s) (span_judged_lem f bm s) (fields_judged_lem fs bm)
