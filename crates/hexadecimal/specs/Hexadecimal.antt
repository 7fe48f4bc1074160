-- Bytes as hexadecimal digits, of either case when they are read and capitals when they are written.
use Rattle.std.specs.Prelude.{List, Bool, cond, ◌&&◌, ℕ, ◌+◌, ◌-◌, ◌*◌, ◌/◌, ◌%◌, leb, ltb, eqb, length, get_or}
use Rattle.digits.specs.Lists.{tabulate, all}

-- the value of a hexadecimal digit, or 16 for another character
unfoldable pub hex_value : ℕ → ℕ
hex_value b =
    cond (leb 0x30 b && leb b 0x39) (b - 0x30)
    (cond (leb 0x41 b && leb b 0x46) (b - 0x37)
    (cond (leb 0x61 b && leb b 0x66) (b - 0x57) 16))

-- a digit's character
unfoldable pub hex_digit : ℕ → ℕ
hex_digit x = cond (ltb x 10) (x + 0x30) (x + 0x37)

-- s is an even number of hexadecimal digits
unfoldable pub is_hex : List ℕ → Bool
is_hex s = eqb (length s % 2) 0 && all (length s) (λ i. ltb (hex_value (get_or s i 0)) 16)

-- the bytes that s says
unfoldable pub from_hex : List ℕ → List ℕ
from_hex s = tabulate (length s / 2) (λ j. hex_value (get_or s (2 * j) 0) * 16 + hex_value (get_or s (2 * j + 1) 0))

-- character i of the text of s, two to a byte
unfoldable pub hex_at : List ℕ → ℕ → ℕ
hex_at s i = cond (eqb (i % 2) 0) (hex_digit (get_or s (i / 2) 0 / 16)) (hex_digit (get_or s (i / 2) 0 % 16))

unfoldable pub to_hex : List ℕ → List ℕ
to_hex s = tabulate (2 * length s) (hex_at s)
