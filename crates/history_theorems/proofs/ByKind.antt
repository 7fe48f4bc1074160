-- Tests of a kind: those of the terminal are those of the history.
use mathlib.Core.Path.{◌≡◌, refl, sym, ◌∙◌}
use mathlib.Core.List.{List, [], ◌∷◌, ◌++◌}
use mathlib.Core.Bool.{Bool, true, false, cond, ◌||◌, or-false, or_assoc, true≢false}
use Prim.Native.Nat.{ℕ}
use native.Mathlib.Decide.{ℕ_discrete}
use lib.Dec.{eqb}
use borrow.Author.Tests.{ne_eqb, eqb-true}
use Rattle.digits.specs.Numbers.{digits_of}
use Rattle.field.specs.Table.{among}
use Rattle.kinds.specs.Kinds.{is_kind, indicator_of, processing_of, condition_of, takes_original, keys_authorisation, keys_date, sends_chip}
use Rattle.history.specs.Words.{type_for, processing_for, condition_for}
use Rattle.history_theorems.specs.Requests.{is_void}

eqb_turned : (a b : ℕ) → eqb a b ≡ eqb b a
eqb_turned a b = go (ℕ_discrete a b)
  where
    go : Dec (a ≡ b) → eqb a b ≡ eqb b a
    go (yes e) = rw e
    go (no n) = ne_eqb a b n ∙ sym (ne_eqb b a (λ e. n (sym e)))

-- one of two lists, one number, one of two or three
joined : (k : ℕ) (ns ms : List ℕ) → (among k ns || among k ms) ≡ among k (ns ++ ms)
joined k [] ms = refl
joined k (n ∷ ns) ms = or_assoc (eqb n k) (among k ns) (among k ms) ∙ rw (joined k ns ms)

one : (k a : ℕ) → eqb k a ≡ among k (a ∷ [])
one k a = rw (eqb_turned a k, or-false)

two : (k a b : ℕ) → (eqb k a || eqb k b) ≡ among k (a ∷ b ∷ [])
two k a b = rw (one k a, one k b) (joined k (a ∷ []) (b ∷ []))

pub void_is : (k : ℕ) → takes_original k ≡ is_void k
unfolding takes_original is_void
void_is k = two k 21 23

pub authorisation-keyed : (k : ℕ) → keys_authorisation k ≡ among k (11 ∷ 20 ∷ [])
authorisation-keyed k = two k 11 20

pub chip_is : (k : ℕ) → sends_chip k ≡ among k (10 ∷ 22 ∷ [])
chip_is k = two k 10 22

pub date-keyed : (k : ℕ) → keys_date k ≡ among k (11 ∷ 20 ∷ 25 ∷ [])
date-keyed k = rw (two k 11 20, one k 25) (joined k (11 ∷ 20 ∷ []) (25 ∷ []))

pub kind_listed : (k : ℕ) → is_kind k ≡ among k (10 ∷ 11 ∷ 20 ∷ 21 ∷ 22 ∷ 23 ∷ 25 ∷ [])
unfolding is_kind
kind_listed k =
    rw (joined k (10 ∷ 11 ∷ []) (20 ∷ 21 ∷ 22 ∷ 23 ∷ []), one k 25) (joined k (10 ∷ 11 ∷ 20 ∷ 21 ∷ 22 ∷ 23 ∷ []) (25 ∷ []))

-- fields 3 and 25, and the type
pub processing_is : (k : ℕ) → digits_of 6 (processing_of k) ≡ processing_for k
unfolding processing_of processing_for
processing_is k = go (eqb k 10) (among k (20 ∷ 22 ∷ []))
  where
    go : (a b : Bool) → digits_of 6 (cond a 30000 (cond b 0 200000))
        ≡ cond a (0 ∷ 3 ∷ 0 ∷ 0 ∷ 0 ∷ 0 ∷ []) (cond b (0 ∷ 0 ∷ 0 ∷ 0 ∷ 0 ∷ 0 ∷ []) (2 ∷ 0 ∷ 0 ∷ 0 ∷ 0 ∷ 0 ∷ []))
    go true b = refl
    go false true = refl
    go false false = refl

pub condition_is : (k : ℕ) → digits_of 2 (condition_of k) ≡ condition_for k
unfolding condition_of condition_for
condition_is k = rw (joined k (10 ∷ 11 ∷ []) (20 ∷ 21 ∷ [])) (go (among k (10 ∷ 11 ∷ 20 ∷ 21 ∷ [])))
  where
    go : (a : Bool) → digits_of 2 (cond a 6 0) ≡ cond a (0 ∷ 6 ∷ []) (0 ∷ 0 ∷ [])
    go true = refl
    go false = refl

pub type_is : (k : ℕ) → is_kind k ≡ true → indicator_of k ≡ type_for k
unfolding is_kind indicator_of type_for
type_is k h = go (eqb k 25) refl (among k (10 ∷ 11 ∷ [])) (among k (20 ∷ 21 ∷ 22 ∷ 23 ∷ [])) refl refl h
  where
    go : (c : Bool) → eqb k 25 ≡ c → (a b : Bool) → among k (10 ∷ 11 ∷ []) ≡ a → among k (20 ∷ 21 ∷ 22 ∷ 23 ∷ []) ≡ b → (a || b || c) ≡ true
        → ◌≡◌ {A = ℕ} (cond a 0x0100 (cond b 0x0200 0x0220)) (cond a 0x0100 (cond c 0x0220 0x0200))
    go true e a b p q h = let z = eqb-true k 25 e in rw (← p, ← q, z)
    go false e true b p q h = refl
    go false e false true p q h = refl
    go false e false false p q h = absurd (true≢false (sym h))
