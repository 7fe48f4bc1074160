-- The region as the code writes and reads it: its parts are put one after the other, and copied one by one.
use Rattle.std.proofs.Common.{◌≡◌, ℕ, ◌+◌, ◌-◌, ◌≤◌, List, [], ◌++◌, length, get_or, take, drop, eqb, refl, sym, ◌∙◌, append_assoc, append-nil, arith}
use Rattle.std.proofs.lemmas.List.{length-append, length-drop, length-take-le, take_all, take_at, drop_at}
use lib.ListN.{drop_of_length-le}
use borrow.Rule.Slice.PartMut.{put_mid, same_len_mid}
use Rattle.digits.specs.Lists.{copied}
use Rattle.digits.proofs.Copies.{copied_whole}
use Rattle.state.specs.declared.Chip.{Chip}
use Rattle.state.specs.declared.State.{State}
use Rattle.image_definitions.specs.Layout.{region_offset, size}
use Rattle.image_definitions.specs.Image.{bits_of, row_bytes, region_of, image, chip_in}
use Rattle.image_definitions.proofs.Region.{first-take, region_is}
use Rattle.image_definitions.proofs.Theorems.{length-rows}

-- the bytes before at are written, of so many
record Begun (total : ℕ) (done : List ℕ) (at : ℕ) (b : List ℕ) : Type 0 where
  count : length done ≡ at
  front : take at b ≡ done
  long : length b ≡ total

-- a part copied behind them
begun_more : {total at : ℕ} {done b e : List ℕ} (n : ℕ) (s : List ℕ) → Begun total done at b → length s ≡ n → at + n ≤ total
    → e ≡ copied s (take n (drop at b)) → Begun total (done ++ s) (at + n) (put_mid at n b e)
begun_more {total} {at} {done} {b} {e} n s r l h q =
    let k : length s ≡ length (take n (drop at b)) =
    l ∙ sym (length-take-le n (drop at b) (rw length-drop (omega (arith, r.long)))) in
    let w : e ≡ s = copied_whole s (take n (drop at b)) q k in
    let m : length (done ++ s) ≡ at + n = length-append done s ∙ omega (arith, r.count) in
    record {
      count = m;
      front = rw (w, r.front, ← append_assoc done s (drop n (drop at b))) (take_at (done ++ s) _ (at + n) m);
      long = same_len_mid at n b e (rw w k) ∙ r.long;
    }

-- a chip's parts, put one after the other
pub region_put : (c : Chip) (b : List ℕ) {f d a r : List ℕ} → length c.bytes ≡ 255 → length c.date ≡ 2 → length c.authorisation ≡ 6
    → length c.reference ≡ 12 → length b + region_offset ≡ size
    → (let first = put_mid 0 255 b f in
    let second = put_mid 255 2 first d in
    let third = put_mid 257 6 second a in
    f ≡ copied c.bytes (take 255 b) → d ≡ copied c.date (take 2 (drop 255 first)) → a ≡ copied c.authorisation (take 6 (drop 257 second))
    → r ≡ copied c.reference (take (length third - 263) (drop 263 third)) → put_mid 263 (length third - 263) third r ≡ region_of c)
region_put c b {f} {d} {a} {r} lf ld la lr l ef ed ea er =
    let r₀ : Begun 275 [] 0 b = record { count = refl; front = refl; long = omega arith } in
    let r₁ = begun_more 255 c.bytes r₀ lf (omega arith) ef in
    let r₂ = begun_more 2 c.date r₁ ld (omega arith) ed in
    let r₃ = begun_more 6 c.authorisation r₂ la (omega arith) ea in
    let third = put_mid 257 6 (put_mid 255 2 (put_mid 0 255 b f) d) a in
    let n : length third - 263 ≡ 12 = omega (arith, r₃.long) in
    let r₄ = begun_more (length third - 263) c.reference r₃ (omega arith) (omega arith) er in
    sym (take_all _ _ (omega (arith, r₄.long))) ∙ r₄.front ∙ rw (region_is c lf ld la lr) (simp append_assoc)

-- the parts of a region, copied
pub chip-copied : (v r : List ℕ) {f d a x : List ℕ} → length r + region_offset ≡ size → f ≡ take 255 r → d ≡ take 2 (drop 255 r)
    → a ≡ take 6 (drop 257 r) → x ≡ take (length r - 263) (drop 263 r)
    → ◌≡◌ {A = Chip}
    (record { length = bits_of 8 v 0; bytes = f; approved = eqb (get_or v 1 0) 1; amount = get_or v 2 0; date = d; authorisation = a; reference = x })
    (chip_in v r)
chip-copied v r l ef ed ea ex =
    let n : length r - 263 ≡ 12 = omega arith in
    rw (
      ef,
      ed,
      ea,
      ex,
      n,
      first-take 255 r (omega arith),
      first-take 2 (drop 255 r) (rw length-drop (omega arith)),
      first-take 6 (drop 257 r) (rw length-drop (omega arith)),
      first-take 12 (drop 263 r) (rw length-drop (omega arith)),
    )

-- the rows, and the region behind them
pub image_put : (s : State) (z : List ℕ) {b r : List ℕ} → length z ≡ 275 → b ≡ row_bytes s → r ≡ region_of s.chip
    → put_mid 140 275 (b ++ z) r ≡ image s
unfolding image
image_put s z l eb er =
    rw (eb, er, take_at (row_bytes s) z 140 (length-rows s), drop_at (row_bytes s) z 140 (length-rows s), drop_of_length-le z {i = 275} (omega arith), append-nil)
