-- Numbers in decimal.
use Rattle.std.specs.Prelude.{List, [], ◌∷◌, ◌++◌, cond, ℕ, zero, suc, ◌+◌, ◌/◌, ◌%◌, ltb}

-- x in decimal with no zeros before it, of at most n digits
unfoldable pub decimal_of : ℕ → ℕ → List ℕ
decimal_of zero x = []
decimal_of (suc n) x = cond (ltb x 10) ((x + 0x30) ∷ []) (decimal_of n (x / 10) ++ ((x % 10 + 0x30) ∷ []))

-- a number of 64 bits has at most 20 digits
unfoldable pub decimal : ℕ → List ℕ
decimal x = decimal_of 20 x
