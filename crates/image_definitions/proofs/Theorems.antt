-- Images and readings are each other's inverse.
use mathlib.Core.Path.{◌≡◌, refl, ap, sym, ◌∙◌}
use mathlib.Core.List.{List}
use mathlib.Core.Bool.{Bool, true, false, true≢false}
use Prim.Native.Nat.{ℕ}
use native.Mathlib.Omega.{arith}
use lib.ListN.{length, drop, length-append}
use lib.Seq.{drop_at}
use Rattle.digits.specs.Lists.{same_bytes}
use Rattle.digits.proofs.Lists.{same_bytes_lem, same_list}
use Rattle.state.specs.declared.State.{State}
use Rattle.image_definitions.specs.Layout.{widths, region_offset, numbers_in}
use Rattle.image_definitions.specs.Image.{Reading, values_of, row_bytes, region_of, image, state_in, accepted, refused, judged, read_image}
use Rattle.image_definitions.specs.Sized.{Bytes, Sized}
use Rattle.image_definitions.specs.Theorems.{ImageLength, ImageReadsBack, ReadImagesBack, AcceptedNumbers, OthersRefused}
use Rattle.image_definitions.proofs.Laid.{drop-bytes, length-laid, numbers-laid, numbers-below}
use Rattle.image_definitions.proofs.Region.{length_region}
use Rattle.image_definitions.proofs.Values.{state_back, values_fit}
use Rattle.image_definitions.proofs.Bounds.{sized_state}

pub length-rows : (s : State) → length (row_bytes s) ≡ region_offset
unfolding widths
length-rows s = length-laid widths (values_of s)

pub image-length : ImageLength
unfolding image
image-length s = length-append (row_bytes s) (region_of s.chip) ∙ omega (arith, length-rows s, length_region s.chip)

-- the numbers in the image of a state
pub image-numbers : (s : State) → Sized s → numbers_in widths (image s) ≡ values_of s
unfolding image
image-numbers s z = numbers-laid widths (values_of s) (region_of s.chip) (values_fit s z)

image_region : (s : State) → drop region_offset (image s) ≡ region_of s.chip
unfolding image
image_region s = drop_at (row_bytes s) (region_of s.chip) region_offset (length-rows s)

-- a state is accepted where the bytes are its image
pub judged-image : (b : List ℕ) (s : State) → image s ≡ b → judged b s ≡ accepted s
unfolding judged
judged-image b s e = rw (e, same_bytes_lem b)

pub image-reads_back : ImageReadsBack
unfolding read_image
image-reads_back s z = rw (image-numbers s z, image_region s, state_back s z) (judged-image (image s) s refl)

-- what is accepted is the image of its state
module _ (b : List ℕ) (t : State) where
  judged_true : (s : State) → same_bytes b (image t) ≡ true → judged b t ≡ accepted s → (t ≡ s) × (image s ≡ b)
  unfolding judged
  judged_true s e q =
      let r : t ≡ s = ap (λ (x : Reading). x.state) (rw e at q) in
      (r, rw (← r) (sym (same_list b (image t) e)))

  judged_back : (s : State) (x : Bool) → same_bytes b (image t) ≡ x → judged b t ≡ accepted s → (t ≡ s) × (image s ≡ b)
  unfolding judged
  judged_back s true e q = judged_true s e q
  judged_back s false e q = absurd (true≢false (sym (ap (λ (x : Reading). x.accepted) (rw e at q))))

  pub judged_other : (x : Bool) → same_bytes b (image t) ≡ x → (image t ≡ b → ⊥) → judged b t ≡ refused
  unfolding judged
  judged_other true e h = absurd (h (sym (same_list b (image t) e)))
  judged_other false e h = rw e

pub sized_read : (b : List ℕ) → Bytes b → Sized (state_in b)
sized_read b s = sized_state (numbers_in widths b) (drop region_offset b) (numbers-below widths b s) (drop-bytes region_offset b s)

pub read_images_back : ReadImagesBack
unfolding read_image
read_images_back b s h q =
    let t = state_in b in
    let r = judged_back b t s (same_bytes b (image t)) refl q in
    (rw r.0 at (sized_read b h), r.1)

pub accepted-numbers : AcceptedNumbers
accepted-numbers b s h q =
    let r = read_images_back b s h q in
    rw (← r.1) (image-numbers s r.0)

pub others_refused : OthersRefused
unfolding read_image
others_refused b h n =
    let t = state_in b in
    judged_other b t (same_bytes b (image t)) refl (n t (sized_read b h))
