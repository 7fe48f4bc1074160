-- A field that is written is found again, and one that is found is written as the same bytes.
use mathlib.Core.Path.{◌≡◌, refl, sym, ◌∙◌}
use mathlib.Core.List.{List, [], ◌∷◌, ◌++◌, append_assoc}
use mathlib.Core.Bool.{Bool, true, false, cond, not, ◌&&◌, ◌||◌, and-eq-true_iff}
use Prim.Native.Nat.{ℕ, ◌+◌, ◌*◌, ◌^◌, ◌≤◌, ◌<◌}
use native.Mathlib.Omega.{arith}
use lib.Dec.{ltb, eqb}
use lib.ListN.{length, take, drop, length-append}
use lib.Seq.{take_at, drop_at, take-add, length-take-le}
use borrow.Author.Tests.{le-ltb, ltb-true, eqb-true}
use Rattle.digits.specs.Digits.{pack, unpack, is_packed}
use Rattle.digits.specs.Numbers.{value, digits_of}
use Rattle.digits.proofs.Packing.{length-pack, length-unpack, unpack-pack, packed-pack, pack-unpack, unpack-digits}
use Rattle.digits.proofs.Numbers.{length_digits_of, digits_of_digits, value_digits_of, digits_of_value}
use Rattle.field.specs.Contents.{size, skip, allowed, late, stands, kept, fault}
use Rattle.field.specs.declared.Class.{Class}
use Rattle.field.specs.declared.Class.TheVariants.{Digits, Printable, Any}
use Rattle.field.specs.declared.Prefix.{Prefix}
use Rattle.field.specs.declared.Prefix.TheVariants.{Absent, One, Two}
use Rattle.field.specs.declared.Format.{Format}
use Rattle.field.proofs.Contents.{allowed-bounds, late-holds}
use Rattle.span.specs.Span.{count_in, passed_at, contents_at, span_at, field_bytes, spans}
use Rattle.span.proofs.Held.{IsHeld}

-- a field with no length has one count, and one with a length can write each count
abbrev pub countable : Prefix → ℕ → ℕ → Bool
countable Absent low high = eqb low high
countable One low high = ltb high (10 ^ 2)
countable Two low high = ltb high (10 ^ 4)

-- a length stands before the field
abbrev pub prefixed : Prefix → Bool
prefixed Absent = false
prefixed One = true
prefixed Two = true

-- one whose other lengths are judged late has a length before it
abbrev pub well_formed : Format → Bool
well_formed f = countable f.prefix f.low f.high && (not (late f) || prefixed f.prefix)

prefix_of : ℕ → ℕ → List ℕ
prefix_of k n = pack (digits_of (2 * k) n)

length_prefix : (k n : ℕ) → length (prefix_of k n) ≡ k
unfolding prefix_of
length_prefix k n = length-pack (digits_of (2 * k) n) ∙ omega (arith, length_digits_of (2 * k) n)

prefix_packed : (k n : ℕ) → is_packed (2 * k) (prefix_of k n) ≡ true
unfolding prefix_of
prefix_packed k n = rw (length_digits_of (2 * k) n) at (packed-pack (digits_of (2 * k) n) (digits_of_digits (2 * k) n))

-- numbers of m digits, packed and unpacked
value_back : (m n : ℕ) → n < 10 ^ m → value (unpack m (pack (digits_of m n))) ≡ n
value_back m n h =
    let u : unpack m (pack (digits_of m n)) ≡ digits_of m n = rw (length_digits_of m n) at (unpack-pack (digits_of m n) (digits_of_digits m n)) in
    rw u (value_digits_of m n h)

pack_back : (m : ℕ) (h : List ℕ) → is_packed m h ≡ true → pack (digits_of m (value (unpack m h))) ≡ h
pack_back m h p =
    let u : digits_of m (value (unpack m h)) ≡ unpack m h = rw (length-unpack m h) at (digits_of_value (unpack m h) (unpack-digits m h p)) in
    rw u (pack-unpack m h p)

count_back : (p : Prefix) (low high n : ℕ) → countable p low high ≡ true → low ≤ n → n ≤ high → count_in p high (prefix_of (skip p) n) ≡ n
unfolding prefix_of
count_back Absent low high n w l h = omega (arith, eqb-true low high w)
count_back One low high n w l h = value_back 2 n (omega (arith, ltb-true high (10 ^ 2) w))
count_back Two low high n w l h = value_back 4 n (omega (arith, ltb-true high (10 ^ 4) w))

count_none : (p : Prefix) (high : ℕ) → prefixed p ≡ true → count_in p high (prefix_of (skip p) 0) ≡ 0
unfolding prefix_of
count_none Absent high h = absurd (let z : ◌≡◌ {A = ℕ} 0 1 = cc in omega arith)
count_none One high h = value_back 2 0 (omega arith)
count_none Two high h = value_back 4 0 (omega arith)

prefix_back : (p : Prefix) (high n : ℕ) (h : List ℕ) → is_packed (2 * skip p) h ≡ true → length h ≡ skip p → count_in p high h ≡ n
    → prefix_of (skip p) n ≡ h
unfolding prefix_of pack
prefix_back Absent high n h k l c = sym (empty h l)
  where
    empty : (h : List ℕ) → length h ≡ 0 → h ≡ []
    empty [] l = refl
    empty (x ∷ h) l = absurd (omega (arith, l))
prefix_back One high n h k l c = rw (← c) (pack_back 2 h k)
prefix_back Two high n h k l c = rw (← c) (pack_back 4 h k)

pub length-field : (f : Format) (n : ℕ) (b : List ℕ) → length (field_bytes f n b) ≡ skip f.prefix + length b
unfolding field_bytes prefix_of
length-field f n b = length-append (prefix_of (skip f.prefix) n) b ∙ rw (length_prefix (skip f.prefix) n)

module _ (f : Format) (n : ℕ) (b rest : List ℕ) where
  take-prefix : take (skip f.prefix) (field_bytes f n b ++ rest) ≡ prefix_of (skip f.prefix) n
  unfolding field_bytes prefix_of
  take-prefix = rw append_assoc (take_at (prefix_of (skip f.prefix) n) (b ++ rest) (skip f.prefix) (length_prefix (skip f.prefix) n))

  pub drop_prefix : drop (skip f.prefix) (field_bytes f n b ++ rest) ≡ b ++ rest
  unfolding field_bytes prefix_of
  drop_prefix = rw append_assoc (drop_at (prefix_of (skip f.prefix) n) (b ++ rest) (skip f.prefix) (length_prefix (skip f.prefix) n))

  -- a field that is written is found again
  pub span_back : well_formed f ≡ true → allowed f n ≡ true → length b ≡ size f.class n → fault f.class n b ≡ 0
      → span_at f (field_bytes f n b ++ rest) ≡ spans n (skip f.prefix) (size f.class n)
  unfolding span_at contents_at
  span_back w a l x =
      let k = skip f.prefix in
      let z = size f.class n in
      let lf : length (field_bytes f n b ++ rest) ≡ k + length b + length rest = length-append (field_bytes f n b) rest ∙ rw length-field in
      let lr : length (b ++ rest) ≡ length b + length rest = length-append b rest in
      let c : count_in f.prefix f.high (prefix_of k n) ≡ n =
      count_back f.prefix f.low f.high n ((and-eq-true_iff (countable f.prefix f.low f.high) (not (late f) || prefixed f.prefix)).0 w).0 (allowed-bounds f n a).0 (allowed-bounds f n a).1 in
      let tb : take z (b ++ rest) ≡ b = take_at b rest z l in
      rw (
        le-ltb (length (field_bytes f n b ++ rest)) k (omega arith),
        take-prefix,
        prefix_packed k n,
        drop_prefix,
        c,
        a,
        le-ltb (length (b ++ rest)) z (omega arith),
        tb,
        x,
      )

-- of one whose length is judged late a length 0 is found again, and nothing is held
span_none : (f : Format) (rest : List ℕ) → well_formed f ≡ true → late f ≡ true → span_at f (field_bytes f 0 [] ++ rest) ≡ spans 0 (skip f.prefix) 0
unfolding span_at contents_at passed_at
span_none f rest w a =
    let k = skip f.prefix in
    let x = ((and-eq-true_iff (countable f.prefix f.low f.high) (not (late f) || prefixed f.prefix)).0 w).1 in
    let p : prefixed f.prefix ≡ true = rw a at x in
    let lf : length (field_bytes f 0 [] ++ rest) ≡ k + length rest = length-append (field_bytes f 0 []) rest ∙ rw length-field (omega arith) in
    let z : k + 0 ≡ k = omega arith in
    rw (
      le-ltb (length (field_bytes f 0 [] ++ rest)) k (omega arith),
      take-prefix f 0 [] rest,
      prefix_packed k 0,
      drop_prefix f 0 [] rest,
      count_none f.prefix f.high p,
      late-holds f a,
      a,
      le-ltb (length rest) 0 (omega arith),
      z,
    )

-- what is kept of a field that stands is found again
pub span-kept : (f : Format) (n : ℕ) (b rest : List ℕ) → well_formed f ≡ true → stands f n ≡ true → length b ≡ size f.class (kept f n)
    → fault f.class (kept f n) b ≡ 0 → span_at f (field_bytes f (kept f n) b ++ rest) ≡ spans (kept f n) (skip f.prefix) (size f.class (kept f n))
span-kept f n b rest w y l x = go (allowed f n) refl y l x
  where
    none : (c : Class) → size c 0 ≡ 0
    none Digits = refl
    none Printable = refl
    none Any = refl

    empty : (b : List ℕ) → length b ≡ 0 → b ≡ []
    empty [] l = refl
    empty (x ∷ b) l = absurd (omega (arith, l))

    go : (t : Bool) → allowed f n ≡ t → (t || late f) ≡ true → length b ≡ size f.class (cond t n 0) → fault f.class (cond t n 0) b ≡ 0
        → span_at f (field_bytes f (cond t n 0) b ++ rest) ≡ spans (cond t n 0) (skip f.prefix) (size f.class (cond t n 0))
    go true a y l x = span_back f n b rest w a l x
    go false a y l x = rw (empty b (l ∙ none f.class), none f.class) (span_none f rest w y)

-- a field that is found is written as the same bytes
pub held_bytes : {f : Format} {s : List ℕ} {n p z : ℕ} → IsHeld f s n p z → field_bytes f n (take z (drop p s)) ≡ take (p + z) s
unfolding field_bytes prefix_of
held_bytes {f} {s} {n} {p} {z} h =
    let k = skip f.prefix in
    let l : length (take k s) ≡ k = length-take-le k s (omega (arith, h.fits, h.skip_is)) in
    let e : prefix_of k n ≡ take k s = prefix_back f.prefix f.high n (take k s) h.packed l h.count in
    rw (e, h.skip_is) (sym (take-add k z s))
