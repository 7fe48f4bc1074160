-- Packed digits as text; a card number is never shown whole.
use Rattle.std.specs.Prelude.{List, Bool, cond, ◌&&◌, ℕ, ◌+◌, leb, ltb}
use Rattle.digits.specs.Lists.{tabulate}
use Rattle.digits.specs.Digits.{half}

-- character i of n packed digits: of a card number the first six and the last four stand, and a * for each digit between
unfoldable pub symbol : Bool → ℕ → List ℕ → ℕ → ℕ
symbol card n b i = cond (card && leb 6 i && ltb (i + 4) n) 0x2A (half b i + 0x30)

-- n packed digits
unfoldable pub digits_text : Bool → ℕ → List ℕ → List ℕ
digits_text card n b = tabulate n (symbol card n b)
