-- A line of a program's input: the spaces around its words, and whether it is skipped.
use Rattle.std.specs.Prelude.{List, [], ◌∷◌, Bool, cond, ◌||◌, ℕ, zero, suc, eqb, length, get_or, take, drop}

-- how many spaces stand at the front of s
unfoldable pub spaces : List ℕ → ℕ
spaces [] = 0
spaces (b ∷ s) = cond (eqb b 0x20) (suc (spaces s)) 0

-- where the first n characters of s end without the spaces at their end
unfoldable pub last_end : List ℕ → ℕ → ℕ
last_end s zero = 0
last_end s (suc n) = cond (eqb (get_or s n 0) 0x20) (last_end s n) (suc n)

-- s without the spaces at its end
unfoldable pub cut : List ℕ → List ℕ
cut s = take (last_end s (length s)) s

-- s without the spaces at its front and at its end
unfoldable pub trimmed : List ℕ → List ℕ
trimmed s = cut (drop (spaces s) s)

-- a line of these words is skipped: it is blank, or its first character is #
unfoldable pub skipped : List ℕ → Bool
skipped s = eqb (length s) 0 || eqb (get_or s 0 0) 0x23
