-- Where a byte stands first in some bytes, and a part of them.
use Rattle.std.specs.Prelude.{ℕ, zero, suc, Bool, true, false, List, [], ◌∷◌, take, drop, eqb}

unfoldable pub index_after : Bool → ℕ → ℕ
index_after true n = zero
index_after false n = suc n

-- the place of the first b; the length where there is none
unfoldable pub index_of : ℕ → List ℕ → ℕ
index_of b [] = zero
index_of b (x ∷ xs) = index_after (eqb x b) (index_of b xs)

-- the bytes from place i up to place j
unfoldable pub slice : ℕ → ℕ → List ℕ → List ℕ
slice i j s = drop i (take j s)
