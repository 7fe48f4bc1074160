-- What a field that was found says of its bytes.
use Rattle.std.specs.Prelude.{Result, Ok, Err}
use mathlib.Core.Path.{◌≡◌, refl, ap, sym, ◌∙◌}
use mathlib.Core.List.{List}
use mathlib.Core.Bool.{Bool, true, false, cond}
use Prim.Native.Nat.{ℕ, ◌+◌, ◌*◌, ◌≤◌}
use native.Mathlib.Omega.{arith}
use lib.Dec.{ltb, eqb}
use lib.ListN.{length, take, drop, length-drop}
use borrow.Author.Tests.{ltb-false, eqb-true}
use Rattle.digits.specs.Digits.{is_packed}
use Rattle.field.specs.Bitmap.{names}
use Rattle.field.specs.Contents.{size, room, skip, allowed, late, kept, fault}
use Rattle.field.specs.declared.Prefix.{Prefix}
use Rattle.field.specs.declared.Prefix.TheVariants.{Absent, One, Two}
use Rattle.field.specs.declared.Format.{Format}
use Rattle.field.proofs.Contents.{size_mono, allowed-bounds, late-holds}
use Rattle.span.specs.Span.{count_in, passed_at, contents_at, span_at, span, spans}
use Rattle.span.specs.declared.Span.{Span}

pub record IsHeld (f : Format) (s : List ℕ) (n p z : ℕ) : Type 0 where
  pub skip_is : p ≡ skip f.prefix
  pub size_is : z ≡ size f.class n
  pub packed : is_packed (2 * skip f.prefix) (take (skip f.prefix) s) ≡ true
  pub count : count_in f.prefix f.high (take (skip f.prefix) s) ≡ n
  pub allows : allowed f n ≡ true
  pub fits : p + z ≤ length s
  pub no_fault : fault f.class n (take z (drop p s)) ≡ 0

pub skip_le : (p : Prefix) → skip p ≤ 2
skip_le Absent = omega arith
skip_le One = omega arith
skip_le Two = omega arith

-- spans that are equal are equal part by part
abbrev part : (Span → ℕ) → Result Span ℕ → ℕ
part f (Ok x) = f x
part f (Err e) = 0

pub same_spans : {a b c n p z : ℕ} → spans a b c ≡ spans n p z → (a ≡ n) × ((b ≡ p) × (c ≡ z))
same_spans q = (ap (part (λ x. x.count)) q, (ap (part (λ x. x.skip)) q, ap (part (λ x. x.size)) q))

pub refused-held : {e n p z : ℕ} → Err e ≡ spans n p z → ⊥
refused-held {e} {n} {p} {z} q = let y : ◌≡◌ {A = ℕ} 0 1 = cc in omega arith

-- a test that refuses where it holds, and one that refuses where it does not
pub passed_no : (b : Bool) (e : ℕ) (y : Result Span ℕ) {n p z : ℕ} → cond b (Err e) y ≡ spans n p z → (b ≡ false) × (y ≡ spans n p z)
passed_no true e y q = absurd (refused-held q)
passed_no false e y q = (refl, q)

pub passed_yes : (b : Bool) (e : ℕ) (y : Result Span ℕ) {n p z : ℕ} → cond b y (Err e) ≡ spans n p z → (b ≡ true) × (y ≡ spans n p z)
passed_yes true e y q = (refl, q)
passed_yes false e y q = absurd (refused-held q)

-- key material of another length was walked past
pub record IsPassed (f : Format) (s : List ℕ) (n p z : ℕ) : Type 0 where
  pub is_late : late f ≡ true
  pub count_none : n ≡ 0
  pub size_none : z ≡ 0
  pub within : p ≤ length s

pub passed-held : (f : Format) (m : ℕ) (s : List ℕ) {n p z : ℕ} → passed_at f m (drop (skip f.prefix) s) ≡ spans n p z
    → skip f.prefix ≤ length s → IsPassed f s n p z
unfolding passed_at
passed-held f m s {n} {p} {z} q l =
    let k = skip f.prefix in
    let r = drop k s in
    let a = passed_yes (late f) 7 _ q in
    let b = passed_no (ltb (length r) m) 3 (spans 0 (k + m) 0) a.1 in
    let mr : m ≤ length r = ltb-false (length r) m b.0 in
    let e = same_spans b.1 in
    record { is_late = a.0; count_none = sym e.0; size_none = sym e.1.1; within = omega (arith, length-drop k s, e.1.0) }

-- a field that was found is held, or was walked past
pub data Found (f : Format) (s : List ℕ) (n p z : ℕ) : Type 0 where
  held : IsHeld f s n p z → Found f s n p z
  passed : IsPassed f s n p z → Found f s n p z

pub span-found : (f : Format) (s : List ℕ) {n p z : ℕ} → span_at f s ≡ spans n p z → Found f s n p z
unfolding span_at contents_at
span-found f s {n} {p} {z} q =
    let k = skip f.prefix in
    let a = passed_no (ltb (length s) k) 3 _ q in
    let b = passed_yes (is_packed (2 * k) (take k s)) 6 _ a.1 in
    go (allowed f (count_in f.prefix f.high (take k s))) refl (ltb-false (length s) k a.0) b.0 b.1
  where
    k : ℕ
    k = skip f.prefix

    m : ℕ
    m = count_in f.prefix f.high (take k s)

    w : ℕ
    w = size f.class m

    x : ℕ
    x = fault f.class m (take w (drop k s))

    go : (t : Bool) → allowed f m ≡ t → k ≤ length s → is_packed (2 * k) (take k s) ≡ true
        → cond t (cond (ltb (length (drop k s)) w) (Err 3) (cond (eqb x 0) (spans m k w) (Err x))) (passed_at f m (drop k s)) ≡ spans n p z
        → Found f s n p z
    go true t kp pk q =
        let d = passed_no (ltb (length (drop k s)) w) 3 _ q in
        let e = passed_yes (eqb x 0) x (spans m k w) d.1 in
        let wr : w ≤ length (drop k s) = ltb-false (length (drop k s)) w d.0 in
        let x0 : x ≡ 0 = eqb-true x 0 e.0 in
        let same = same_spans e.1 in
        let mn : m ≡ n = same.0 in
        let kq : k ≡ p = same.1.0 in
        let zw : w ≡ z = same.1.1 in
        held
        (record {
          skip_is = sym kq;
          size_is = sym zw ∙ ap (size f.class) mn;
          packed = pk;
          count = mn;
          allows = rw mn at t;
          fits = omega (arith, length-drop k s);
          no_fault = rw (← zw, ← kq, ← mn) x0;
        })
    go false t kp pk q = passed (passed-held f m s q kp)

-- what has an allowed count is held
pub span-held : (f : Format) (s : List ℕ) {n p z : ℕ} → span_at f s ≡ spans n p z → allowed f n ≡ true → IsHeld f s n p z
span-held f s {n} {p} {z} q a = go (span-found f s q)
  where
    go : Found f s n p z → IsHeld f s n p z
    go (held h) = h
    go (passed h) = let y : allowed f 0 ≡ true = rw (← h.count_none) a in let e = late-holds f h.is_late in absurd (let t : ◌≡◌ {A = ℕ} 0 1 = cc in omega arith)

-- the bytes that a field takes are there
pub span-within : (f : Format) (s : List ℕ) {n p z : ℕ} → span_at f s ≡ spans n p z → p + z ≤ length s
span-within f s {n} {p} {z} q = go (span-found f s q)
  where
    go : Found f s n p z → p + z ≤ length s
    go (held h) = h.fits
    go (passed h) = omega (arith, h.within, h.size_none)

pub size-bound : (f : Format) (n : ℕ) → allowed f n ≡ true → size f.class n ≤ room f
size-bound f n h = size_mono f.class n f.high (allowed-bounds f n h).1

pub kept-bound : (f : Format) (n : ℕ) → size f.class (kept f n) ≤ room f
kept-bound f n = go (allowed f n) refl
  where
    go : (t : Bool) → allowed f n ≡ t → size f.class (cond t n 0) ≤ room f
    go true e = size-bound f n e
    go false e = size_mono f.class 0 f.high (omega arith)

-- the bytes that a field takes are there, and its contents fit its place
pub record Fits (f : Format) (s : List ℕ) (p z : ℕ) : Type 0 where
  pub within : p + z ≤ length s
  pub placed : z ≤ room f

pub span_fits : (f : Format) (bm s : List ℕ) {n p z : ℕ} → span f bm s ≡ spans n p z → Fits f s p z
unfolding span
span_fits f bm s {n} {p} {z} q = go (names bm f.number) q
  where
    go : (b : Bool) → cond b (span_at f s) (spans 0 0 0) ≡ spans n p z → Fits f s p z
    go true q = found (span-found f s q)
      where
        found : Found f s n p z → Fits f s p z
        found (held h) = record { within = h.fits; placed = rw h.size_is (size-bound f n h.allows) }
        found (passed h) = record { within = omega (arith, h.within, h.size_none); placed = omega (arith, h.size_none) }
    go false q =
        let e = same_spans q in
        record { within = omega (arith, e.1.0, e.1.1); placed = omega (arith, e.1.1) }
