-- The reading that the code finds.
use mathlib.Core.Path.{◌≡◌, refl, ap, sym, ◌∙◌}
use mathlib.Core.List.{List}
use mathlib.Core.Bool.{Bool, true, false, true≢false}
use Prim.Native.Nat.{ℕ}
use native.Mathlib.Omega.{arith}
use lib.Dec.{eqb}
use lib.ListN.{length, take, drop, length-drop, take-append-drop}
use borrow.Author.Tests.{ne_eqb, eqb-true, eqb-false}
use Rattle.digits.specs.Lists.{same_bytes}
use Rattle.state.specs.declared.State.{State}
use Rattle.image_definitions.specs.Layout.{widths, region_offset, size, numbers_in}
use Rattle.image_definitions.specs.Image.{Reading, rows_from, values_of, row_bytes, region_of, image, state_of, state_in, accepted, refused, judged, read_image}
use Rattle.image_definitions.specs.Sized.{Bytes, Sized}
use Rattle.image_definitions.proofs.Laid.{laid-numbers}
use Rattle.image_definitions.proofs.Region.{region_back}
use Rattle.image_definitions.proofs.Theorems.{image-length, image-numbers, judged-image, judged_other, sized_read}

-- bytes of another length
pub read_length : (b : List ℕ) → (length b ≡ size → ⊥) → refused ≡ read_image b
unfolding read_image judged same_bytes
read_length b h = rw (image-length (state_in b), ne_eqb (length b) size h)

-- accepted bytes have the length of an image
pub accepted-length : (b : List ℕ) → (read_image b).accepted ≡ true → length b ≡ size
accepted-length b h = go (eqb (length b) size) refl
  where
    go : (x : Bool) → eqb (length b) size ≡ x → length b ≡ size
    go true e = eqb-true (length b) size e
    go false e = absurd (true≢false (sym h ∙ ap (λ (x : Reading). x.accepted) (sym (read_length b (eqb-false (length b) size e)))))

-- the state that the bytes say, and whether its numbers are theirs: the region is
module _ (b : List ℕ) {s : State} {again : List ℕ} (l : length b ≡ size) (h : Bytes b) (es : s ≡ state_in b) (ea : again ≡ values_of s) where
  region_is : region_of s.chip ≡ drop region_offset b
  unfolding state_of
  region_is = rw es (region_back (rows_from 31 3 (numbers_in widths b)) (drop region_offset b) (rw length-drop (omega arith)))

  rows_are : values_of s ≡ numbers_in widths b → row_bytes s ≡ take region_offset b
  unfolding widths
  rows_are e = rw e (laid-numbers widths b h (omega arith))

  pub read_same : numbers_in widths b ≡ again → accepted s ≡ read_image b
  unfolding read_image image
  read_same e =
      let v : values_of s ≡ numbers_in widths b = sym (e ∙ ea) in
      let f : image s ≡ b = rw (rows_are v, region_is) (take-append-drop region_offset b) in
      rw (← es) (sym (judged-image b s f))

  pub read_other : (numbers_in widths b ≡ again → ⊥) → refused ≡ read_image b
  unfolding read_image
  read_other e =
      let z : Sized s = rw es (sized_read b h) in
      let n : image s ≡ b → ⊥ =
      λ f. e (ap (numbers_in widths) (sym f) ∙ image-numbers s z ∙ sym ea) in
      rw (← es) (sym (judged_other b s (same_bytes b (image s)) refl n))
