-- The types that leave, and those of their answers.
use mathlib.Core.Path.{◌≡◌, refl, sym, ◌∙◌}
use mathlib.Core.List.{[], ◌∷◌}
use mathlib.Core.Bool.{Bool, true, false, true≢false}
use Prim.Native.Nat.{ℕ, ◌+◌}
use native.Mathlib.Decide.{ℕ_discrete}
use lib.Dec.{eqb}
use borrow.Author.Tests.{ne_eqb}
use Rattle.field.specs.Table.{among, indicators}
use Rattle.centre_types.specs.Types.{left_as, answer_type}
use Rattle.centre_types.specs.declared.Left.{Left}
use Rattle.centre_types.specs.declared.Left.TheVariants.{Nothing, Request, Reversal, Settlement, Upload, SignOn}

-- a card request
abbrev pub is_request : Left → Bool
is_request Nothing = false
is_request Request = true
is_request Reversal = false
is_request Settlement = false
is_request Upload = false
is_request SignOn = false

-- a type that leaves
pub record Leaves (i : ℕ) : Type 0 where
  pub answer : answer_type i ≡ i + 0x10
  pub answer_listed : among (answer_type i) indicators ≡ true
  pub requests : among i (0x0100 ∷ 0x0200 ∷ 0x0220 ∷ []) ≡ is_request (left_as i)

pub leaves : (i : ℕ) → (left_as i ≡ Nothing → ⊥) → Leaves i
unfolding left_as answer_type indicators
leaves i h =
    go (ℕ_discrete i 0x0100) (ℕ_discrete i 0x0200) (ℕ_discrete i 0x0220) (ℕ_discrete i 0x0320) (ℕ_discrete i 0x0400) (ℕ_discrete i 0x0500)
    (ℕ_discrete i 0x0800)
  where
    other : (n : ℕ) → (i ≡ n → ⊥) → eqb n i ≡ false
    other n e = ne_eqb n i (λ q. e (sym q))

    go : Dec (i ≡ 0x0100) → Dec (i ≡ 0x0200) → Dec (i ≡ 0x0220) → Dec (i ≡ 0x0320) → Dec (i ≡ 0x0400) → Dec (i ≡ 0x0500)
        → Dec (i ≡ 0x0800) → Leaves i
    go (yes e) b c d f g k = rw e (record { answer = refl; answer_listed = refl; requests = refl })
    go (no a) (yes e) c d f g k = rw e (record { answer = refl; answer_listed = refl; requests = refl })
    go (no a) (no b) (yes e) d f g k = rw e (record { answer = refl; answer_listed = refl; requests = refl })
    go (no a) (no b) (no c) (yes e) f g k = rw e (record { answer = refl; answer_listed = refl; requests = refl })
    go (no a) (no b) (no c) (no d) (yes e) g k = rw e (record { answer = refl; answer_listed = refl; requests = refl })
    go (no a) (no b) (no c) (no d) (no f) (yes e) k = rw e (record { answer = refl; answer_listed = refl; requests = refl })
    go (no a) (no b) (no c) (no d) (no f) (no g) (yes e) = rw e (record { answer = refl; answer_listed = refl; requests = refl })
    go (no a) (no b) (no c) (no d) (no f) (no g) (no k) =
        absurd
        (h (rw (
          other 0x0100 a,
          other 0x0200 b,
          other 0x0220 c,
          ne_eqb i 0x0320 d,
          ne_eqb i 0x0400 f,
          ne_eqb i 0x0500 g,
          ne_eqb i 0x0800 k,
        )))

-- the type of a card request
pub record RequestType (i : ℕ) : Type 0 where
  pub no_settlement : eqb i 0x0500 ≡ false
  pub no_sign_on : eqb i 0x0800 ≡ false
  pub left_is : left_as i ≡ Request

pub request_type : (i : ℕ) → among i (0x0100 ∷ 0x0200 ∷ 0x0220 ∷ []) ≡ true → RequestType i
unfolding left_as
request_type i h = go (ℕ_discrete i 0x0100) (ℕ_discrete i 0x0200) (ℕ_discrete i 0x0220)
  where
    go : Dec (i ≡ 0x0100) → Dec (i ≡ 0x0200) → Dec (i ≡ 0x0220) → RequestType i
    go (yes e) b c = rw e (record { no_settlement = refl; no_sign_on = refl; left_is = refl })
    go (no a) (yes e) c = rw e (record { no_settlement = refl; no_sign_on = refl; left_is = refl })
    go (no a) (no b) (yes e) = rw e (record { no_settlement = refl; no_sign_on = refl; left_is = refl })
    go (no a) (no b) (no c) =
        absurd
        (true≢false (sym h
        ∙ rw (
          ne_eqb 0x0100 i (λ q. a (sym q)),
          ne_eqb 0x0200 i (λ q. b (sym q)),
          ne_eqb 0x0220 i (λ q. c (sym q)),
        )))
