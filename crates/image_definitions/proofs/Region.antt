-- Laws of the region of bytes: a chip reads back from it, and it from a chip.
use mathlib.Core.Path.{◌≡◌, refl, ◌∙◌}
use mathlib.Core.List.{List, [], ◌∷◌, ◌++◌, append_assoc, append-nil}
use mathlib.Core.Bool.{Bool, true, false}
use Prim.Native.Nat.{ℕ, zero, suc, ◌+◌, ◌^◌, ◌≤◌, ◌<◌}
use native.Mathlib.Nat.{mod-eq_of_lt}
use native.Mathlib.Omega.{arith}
use lib.Dec.{eqb}
use lib.ListN.{length, get_or, take, drop, replicate, length-append, length-drop, length-replicate, take-append-drop}
use lib.Seq.{drop_at, drop-drop, length-take-le, take_all, take-append-le, take_at}
use Rattle.state.specs.declared.Chip.{Chip}
use Rattle.image_definitions.specs.Layout.{region_offset, size, first_of}
use Rattle.image_definitions.specs.Image.{flag_value, chip_values, region_of, chip_in}
use Rattle.image_definitions.specs.Sized.{Bytes, SizedChip}
use Rattle.image_definitions.proofs.Laid.{append-bytes, drop-bytes}

length-first : (n : ℕ) (b : List ℕ) → length (first_of n b) ≡ n
unfolding first_of
length-first n b = length-take-le n (b ++ replicate n 0) (simp (length-append, length-replicate) (omega arith))

-- of enough bytes no zeros are needed
pub first-take : (n : ℕ) (b : List ℕ) → n ≤ length b → first_of n b ≡ take n b
unfolding first_of
first-take n b h = take-append-le n b (replicate n 0) h

first-all : (n : ℕ) (b : List ℕ) → length b ≡ n → first_of n b ≡ b
first-all n b l = first-take n b (omega arith) ∙ take_all n b (omega arith)

zeros-bytes : (n : ℕ) → Bytes (replicate n 0)
zeros-bytes zero i = omega arith
zeros-bytes (suc n) zero = omega arith
zeros-bytes (suc n) (suc i) = zeros-bytes n i

take-bytes : (n : ℕ) (b : List ℕ) → Bytes b → Bytes (take n b)
take-bytes zero b s i = omega arith
take-bytes (suc n) [] s i = omega arith
take-bytes (suc n) (x ∷ b) s zero = s 0
take-bytes (suc n) (x ∷ b) s (suc i) = take-bytes n b (λ j. s (suc j)) i

first-bytes : (n : ℕ) (b : List ℕ) → Bytes b → Bytes (first_of n b)
unfolding first_of
first-bytes n b s = take-bytes n (b ++ replicate n 0) (append-bytes b (replicate n 0) s (zeros-bytes n))

pub length_region : (c : Chip) → length (region_of c) + region_offset ≡ size
unfolding region_of
length_region c = simp (length-append, length-first)

-- the chip that bytes say is within the sizes of its types
pub sized_chip : (v r : List ℕ) → get_or v 2 0 < 2 ^ 64 → Bytes r → SizedChip (chip_in v r)
sized_chip v r amount s =
    record {
      count = omega arith;
      amount = amount;
      field = length-first 255 r;
      field_bytes = first-bytes 255 r s;
      date = length-first 2 (drop 255 r);
      date_bytes = first-bytes 2 (drop 255 r) (drop-bytes 255 r s);
      authorisation = length-first 6 (drop 257 r);
      authorisation_bytes = first-bytes 6 (drop 257 r) (drop-bytes 257 r s);
      reference = length-first 12 (drop 263 r);
      reference_bytes = first-bytes 12 (drop 263 r) (drop-bytes 263 r s);
    }

-- parts of their lengths are the region
pub region_is : (c : Chip) → length c.bytes ≡ 255 → length c.date ≡ 2 → length c.authorisation ≡ 6 → length c.reference ≡ 12
    → region_of c ≡ c.bytes ++ (c.date ++ (c.authorisation ++ c.reference))
unfolding region_of
region_is c f d a r =
    rw (first-all 255 c.bytes f, first-all 2 c.date d, first-all 6 c.authorisation a, first-all 12 c.reference r)

-- a part x of the region
part-first : (at n : ℕ) {r : List ℕ} (a x y : List ℕ) → r ≡ a ++ (x ++ y) → length a ≡ at → length x ≡ n → first_of n (drop at r) ≡ x
part-first at n a x y e l k =
    rw (e, drop_at a (x ++ y) at l, first-take n (x ++ y) (simp length-append (omega arith))) (take_at x y n k)

pub flag_back : (on : Bool) → eqb (flag_value on) 1 ≡ on
flag_back true = refl
flag_back false = refl

-- the rows and the region of a chip say that chip
pub chip_back : (c : Chip) → SizedChip c → chip_in (chip_values c) (region_of c) ≡ c
chip_back c z =
    let e = region_is c z.field z.date z.authorisation z.reference in
    let f = c.bytes in
    let d = c.date in
    let a = c.authorisation in
    let r = c.reference in
    rw (
      mod-eq_of_lt z.count,
      flag_back c.approved,
      part-first 0 255 [] f (d ++ (a ++ r)) e refl z.field,
      part-first 255 2 f d (a ++ r) e z.field z.date,
      part-first 257 6 (f ++ d) a r (e ∙ simp append_assoc) (simp length-append (omega arith)) z.authorisation,
      part-first 263 12 ((f ++ d) ++ a) r [] (e ∙ simp (append_assoc, append-nil)) (simp length-append (omega arith)) z.reference,
    )

-- the bytes from a place on, cut
cut_at : (at n : ℕ) (r : List ℕ) → take n (drop at r) ++ drop (at + n) r ≡ drop at r
cut_at at n r = rw (← drop-drop n at r) (take-append-drop n (drop at r))

first-twice : (at n : ℕ) (r : List ℕ) → at + n ≤ length r → first_of n (first_of n (drop at r)) ≡ take n (drop at r)
first-twice at n r h =
    first-all n (first_of n (drop at r)) (length-first n (drop at r)) ∙ first-take n (drop at r) (rw length-drop (omega arith))

-- the region of the chip that bytes say is these bytes
pub region_back : (v r : List ℕ) → length r + region_offset ≡ size → region_of (chip_in v r) ≡ r
unfolding region_of
region_back v r l =
    rw (
      first-twice 0 255 r (omega arith),
      first-twice 255 2 r (omega arith),
      first-twice 257 6 r (omega arith),
      first-twice 263 12 r (omega arith),
      take_all 12 (drop 263 r) (rw length-drop (omega arith)),
      cut_at 257 6 r,
      cut_at 255 2 r,
    )
    (take-append-drop 255 r)
