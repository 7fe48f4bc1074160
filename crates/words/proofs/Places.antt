-- Where a byte stands first.
use Rattle.std.proofs.Common.{◌≡◌, ℕ, ◌+◌, ◌≤◌, Bool, true, false, cond, List, Option, Some, None, eqb, ltb, length, unwrap_or, refl, ltb-false, arith}
use Rattle.std.specs.List.{position_or_len}
use Rattle.std.proofs.lemmas.List.Sums.{prefix_len-le-length}
use Rattle.std.proofs.lemmas.List.Recursion.{is_position_or_len}
use Rattle.words.specs.Bytes.{index_of, index_after}

step : (t : Bool) (n : ℕ) → index_after t n ≡ cond t 0 (1 + n)
unfolding index_after
step true n = refl
step false n = omega arith

index_of-position : (b : ℕ) (s : List ℕ) → index_of b s ≡ position_or_len (λ x. eqb x b) s
unfolding index_of
index_of-position b s = is_position_or_len (index_of b) (λ x. eqb x b) refl (λ x xs. step (eqb x b) (index_of b xs)) s

index_of-le : (b : ℕ) (s : List ℕ) → index_of b s ≤ length s
index_of-le b s = rw index_of-position (prefix_len-le-length _ s)

-- the place that `position` found, or the length where it found none
pub index_of-found : (b : ℕ) (s : List ℕ) (r : Option ℕ)
    → r ≡ cond (ltb (position_or_len (λ x. eqb x b) s) (length s)) (Some (position_or_len (λ x. eqb x b) s)) None
    → (unwrap_or r (length s) ≡ index_of b s) × (unwrap_or r (length s) ≤ length s)
index_of-found b s r e = rw (e, ← index_of-position b s) (go (ltb (index_of b s) (length s)) refl)
  where
    go : (t : Bool) → ltb (index_of b s) (length s) ≡ t
        → (unwrap_or (cond t (Some (index_of b s)) None) (length s) ≡ index_of b s) × (unwrap_or (cond t (Some (index_of b s)) None) (length s) ≤ length s)
    go true q = (refl, index_of-le b s)
    go false q = (omega (arith, ltb-false (index_of b s) (length s) q, index_of-le b s), omega arith)
