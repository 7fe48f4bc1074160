-- The place of an entry: what `==` and `is_none` say of it.
use Rattle.std.specs.Prelude.{Some, None, Option, is_some}
use Rattle.std.specs.Option.{option_eq}
use mathlib.Core.Path.{◌≡◌, refl, ap, sym, ◌∙◌}
use mathlib.Core.List.{List, [], ◌∷◌}
use mathlib.Core.Bool.{Bool, true, false, cond, not, ◌&&◌, not-not}
use Prim.Native.Nat.{ℕ, suc}
use lib.Dec.{eqb}
use Rattle.entry.specs.declared.Entry.{Entry}
use Rattle.entry.specs.Form.{fits}
use Rattle.journal.specs.Journal.{is_at, fits_at, nowhere, every, first_of, has_trace, absent}

-- what `place == Some(i)` ensures
pub at-is : (place : Option ℕ) (i : ℕ) → option_eq eqb place (Some i) ≡ is_at place i
at-is (Some k) i = refl
at-is None i = refl

-- a test of each entry that is told whether it is the awaited one, as code asks that
abbrev pub fits_place : ℕ → Bool → Option ℕ → ℕ → Entry → Bool
fits_place l uploading awaited i e = fits l uploading (option_eq eqb awaited (Some i)) e

pub fits-place : (l : ℕ) (uploading : Bool) (awaited : Option ℕ) (i : ℕ) (es : List Entry)
    → every (fits_place l uploading awaited) i es ≡ every (fits_at l uploading awaited) i es
fits-place l uploading awaited i [] = refl
fits-place l uploading awaited i (e ∷ es) = rw (at-is awaited i, fits-place l uploading awaited (suc i) es)

-- from what `place.is_none()` ensures of its result r
pub none_is : (place : Option ℕ) (r : Bool) → is_some place ≡ not r → r ≡ nowhere place
none_is place r h = sym (not-not r) ∙ ap not (sym h) ∙ nowhere_is place
  where
    nowhere_is : (f : Option ℕ) → not (is_some f) ≡ nowhere f
    nowhere_is (Some k) = refl
    nowhere_is None = refl

-- the first that satisfies p is nowhere: none does
pub nowhere_every : (p : Entry → Bool) (i : ℕ) (es : List Entry) → nowhere (first_of p i es) ≡ every (λ k e. not (p e)) i es
nowhere_every p i [] = refl
nowhere_every p i (e ∷ es) = go (p e) (nowhere_every p (suc i) es)
  where
    go : (b : Bool) → nowhere (first_of p (suc i) es) ≡ every (λ k e. not (p e)) (suc i) es
        → nowhere (cond b (Some i) (first_of p (suc i) es)) ≡ (not b && every (λ k e. not (p e)) (suc i) es)
    go true h = refl
    go false h = h

pub nowhere-absent : (x : ℕ) (es : List Entry) → nowhere (first_of (has_trace x) 0 es) ≡ absent x es
unfolding absent
nowhere-absent x es = nowhere_every (has_trace x) 0 es
