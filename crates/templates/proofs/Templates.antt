-- Laws of templates.
use mathlib.Core.Path.{◌≡◌, refl, sym, ◌∙◌}
use mathlib.Core.List.{List, [], ◌∷◌, ◌++◌, append_assoc, append-nil}
use Prim.Native.Nat.{ℕ, ◌+◌, ◌≤◌, ◌<◌}
use native.Mathlib.Omega.{arith}
use native.Mathlib.Numerals.{add-one}
use lib.ListN.{length, get_or, drop, drop_of_length-le}
use lib.Seq.{drop-cons, drop-drop, get_or-drop}
use Rattle.texts.specs.Text.{Adds}
use Rattle.texts.proofs.Texts.{nothing, and_then}
use Rattle.templates.specs.Template.{meant, taken, filled}

-- the first i characters of a template t are added, and they have taken k values: what a loop over the template keeps
pub record FilledTo (t vs x : List ℕ) (n : ℕ) (o : List ℕ) (i k at : ℕ) (l : List ℕ) : Type 0 where
  pub text : List ℕ
  pub adds : Adds text n o at l
  pub len : length l ≡ length o
  pub few : k ≤ i
  pub eq : text ++ filled (drop i t) (drop k vs) x ≡ filled t vs x

pub filled_none : (t vs x : List ℕ) (n : ℕ) (o : List ℕ) → FilledTo t vs x n o 0 0 n o
filled_none t vs x n o = record { text = []; adds = nothing; len = refl; few = omega arith; eq = refl }

module _ {t vs x : List ℕ} {n : ℕ} {o : List ℕ} {i k at : ℕ} {l : List ℕ} (r : FilledTo t vs x n o i k at l) where
  first-value : get_or (drop k vs) 0 0 ≡ get_or vs k 0
  first-value = let e : k + 0 ≡ k = omega arith in get_or-drop k vs 0 0 ∙ rw e

  turn : i < length t → filled (drop i t) (drop k vs) x
      ≡ meant (get_or t i 0) (get_or vs k 0) x ++ filled (drop (i + 1) t) (drop (k + taken (get_or t i 0)) vs) x
  unfolding filled
  turn h = rw (drop-cons t i 0 h, first-value, drop-drop (taken (get_or t i 0)) k vs, add-one)

  pub filled_more : {m w : ℕ} {e : List ℕ} → i < length t → w ≡ taken (get_or t i 0) → w ≤ 1 → length e ≡ length l
      → Adds (meant (get_or t i 0) (get_or vs k 0) x) at l m e → FilledTo t vs x n o (i + 1) (k + w) m e
  filled_more {m} {w} {e} h q b d a =
      record {
        text = r.text ++ meant (get_or t i 0) (get_or vs k 0) x;
        adds = and_then r.adds a;
        len = omega (arith, r.len);
        few = omega (arith, r.few);
        eq = rw (q, append_assoc) (rw (turn h) at r.eq);
      }

  pub filled-done : length t ≤ i → Adds (filled t vs x) n o at l
  unfolding filled
  filled-done h =
      let d : r.text ≡ filled t vs x = rw (drop_of_length-le t {i = i} h, append-nil) at r.eq in
      rw d at r.adds

-- texts one after another
abbrev pub joined : List (List ℕ) → List ℕ
joined [] = []
joined (x ∷ xs) = x ++ joined xs

-- the same, as `a ++ b ++ c` joins them
abbrev pub chained : List ℕ → List (List ℕ) → List ℕ
chained a [] = a
chained a (x ∷ xs) = chained (a ++ x) xs

pub parts : (a : List ℕ) (xs : List (List ℕ)) → a ++ joined xs ≡ chained a xs
parts a [] = append-nil a
parts a (x ∷ xs) = rw (← append_assoc) (parts (a ++ x) xs)

-- a text and what is equal to it are added alike
pub adds-is : {x y o l : List ℕ} {n r : ℕ} → x ≡ y → Adds x n o r l → Adds y n o r l
adds-is e a = rw e at a

-- a text, and one of several parts
pub and_parts : {x o l l2 : List ℕ} {n r r2 : ℕ} (y : List ℕ) (ys : List (List ℕ)) → Adds x n o r l → Adds (chained y ys) r l r2 l2
    → Adds (chained (x ++ y) ys) n o r2 l2
and_parts {x} y ys a b = adds-is (parts x (y ∷ ys)) (and_then a (adds-is (sym (parts y ys)) b))
