-- Laws of the desk's field 55.
use mathlib.Core.Path.{◌≡◌, refl, sym, ◌∙◌}
use mathlib.Core.List.{List, [], ◌∷◌}
use mathlib.Core.Bool.{Bool, true, false, cond, not, ◌&&◌, true≢false, and-eq-true_iff}
use Prim.Native.Nat.{ℕ, ◌≤◌}
use native.Mathlib.Omega.{arith}
use lib.Dec.{leb}
use lib.ListN.{length, drop, replicate}
use lib.Seq.{take-append_seam}
use borrow.Author.Tests.{leb-true}
use Rattle.checks.specs.Checks.{first_broken}
use Rattle.elements.specs.Elements.{elements_in_form, chip_in_form}
use Rattle.state.specs.State.{no_chip, chip_of, chip_bytes, has_chip}
use Rattle.state.specs.declared.Chip.{Chip}
use Rattle.desk.specs.declared.Desk.{Desk}
use Rattle.desk.specs.DeskRules.{sends_field55, chip_from, chip_rules}

-- what passes 23 is in form where it is sent
pub chip-passed : (d : Desk) (b : List ℕ) → first_broken (chip_rules d b) ≡ 0 → sends_field55 d ≡ true → chip_in_form b ≡ true
unfolding first_broken
chip-passed d b h s = go (chip_in_form b) refl (rw s at h)
  where
    go : (t : Bool) → chip_in_form b ≡ t → first_broken (record { number = 23; broken = true && not t } ∷ []) ≡ 0 → t ≡ true
    go true e q = refl
    go false e q = absurd (omega (arith, q))

-- a chip in form has 1 to 255 bytes
pub chip-length : (b : List ℕ) → chip_in_form b ≡ true → (1 ≤ length b) × (length b ≤ 255)
unfolding chip_in_form
chip-length b e =
    let a = (and-eq-true_iff (leb 1 (length b) && leb (length b) 255) (elements_in_form b)).0 e in
    let l = (and-eq-true_iff (leb 1 (length b)) (leb (length b) 255)).0 a.0 in
    (leb-true 1 (length b) l.0, leb-true (length b) 255 l.1)

-- the chip that is sent
pub chip_sent : (d : Desk) (b : List ℕ) {s : Bool} {c : Chip} → s ≡ sends_field55 d → (length b ≤ 255 → c ≡ chip_of b) → s ≡ true
    → first_broken (chip_rules d b) ≡ 0 → c ≡ chip_from d b
chip_sent d b e k t h =
    let y : sends_field55 d ≡ true = sym e ∙ t in
    rw y (k (chip-length b (chip-passed d b h y)).1)

-- its bytes are those that the desk handed in, and are in form
pub chip_bytes_lem : (b : List ℕ) → chip_bytes (chip_of b) ≡ b
chip_bytes_lem b = take-append_seam b (drop (length b) (replicate 255 0))

pub chip_sent-form : (d : Desk) (b : List ℕ) → first_broken (chip_rules d b) ≡ 0 → has_chip (chip_from d b) ≡ true
    → chip_in_form (chip_bytes (chip_from d b)) ≡ true
chip_sent-form d b h = go (sends_field55 d) refl
  where
    go : (t : Bool) → sends_field55 d ≡ t → has_chip (cond t (chip_of b) no_chip) ≡ true → chip_in_form (chip_bytes (cond t (chip_of b) no_chip)) ≡ true
    go true e y = rw (chip_bytes_lem b) (chip-passed d b h e)
    go false e y = absurd (true≢false (sym y))
