-- Templates: texts in which marks stand for numbers and for another text.
use Rattle.std.specs.Prelude.{List, [], ◌∷◌, ◌++◌, cond, ◌||◌, ℕ, eqb, get_or, drop}
use Rattle.hexadecimal.specs.Hexadecimal.{to_hex}
use Rattle.texts.specs.Decimal.{decimal}
use Rattle.texts.specs.Text.{six_digits}

-- what a character stands for: # for a number in decimal, % for its last six digits, $ for a text, @ for its bytes in hexadecimal, and
-- every other one for itself
unfoldable pub meant : ℕ → ℕ → List ℕ → List ℕ
meant c value x =
    cond (eqb c 0x23) (decimal value)
    (cond (eqb c 0x25) (six_digits value)
    (cond (eqb c 0x24) x
    (cond (eqb c 0x40) (to_hex x) (c ∷ []))))

-- how many numbers it takes
unfoldable pub taken : ℕ → ℕ
taken c = cond (eqb c 0x23 || eqb c 0x25) 1 0

-- a template, filled with numbers in their order and with a text
unfoldable pub filled : List ℕ → List ℕ → List ℕ → List ℕ
filled [] values x = []
filled (c ∷ template) values x = meant c (get_or values 0 0) x ++ filled template (drop (taken c) values) x
