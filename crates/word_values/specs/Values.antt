-- What a word says: a number in decimal, a text, or whether a MAC is good.
use Rattle.std.specs.Prelude.{List, Bool, cond, ◌&&◌, ℕ, ◌+◌, ◌-◌, ◌*◌, leb, eqb, length, get_or, drop, Some, None, Option}
use Rattle.digits.specs.Lists.{tabulate}
use Rattle.digits.specs.Numbers.{number_of}
use Rattle.hexadecimal.specs.Hexadecimal.{is_hex, from_hex}
use Rattle.texts.specs.Text.{text}
use Rattle.digits.specs.Lists.{same_bytes}

-- the digit that a character is; 10 for another character
unfoldable pub digit_of : ℕ → ℕ
digit_of b = cond (leb 0x30 b && leb b 0x39) (b - 0x30) 10

-- the number that a word of 1 to so many digits says; at most 19 are read
unfoldable pub number_in : ℕ → List ℕ → Option ℕ
number_in longest w =
    cond (leb 1 (length w) && leb (length w) longest)
    (number_of (tabulate (length w) (λ i. digit_of (get_or w i 0))))
    None

-- a number that is at most so much
abbrev pub up_to : ℕ → Option ℕ → Option ℕ
up_to most (Some x) = cond (leb x most) (Some x) None
up_to most None = None

-- numbers are decimal, up to 18 digits
unfoldable pub number_up_to : ℕ → List ℕ → Option ℕ
number_up_to most w = up_to most (number_in 18 w)

-- a word that begins with = is bytes in hexadecimal
unfoldable pub says_bytes : List ℕ → Bool
says_bytes w = eqb (get_or w 0 0) 0x3D

-- _ stands for a space
unfoldable pub character : ℕ → ℕ
character b = cond (eqb b 0x5F) 0x20 b

-- a word is a text of n bytes
unfoldable pub is_text : ℕ → List ℕ → Bool
is_text n w = cond (says_bytes w) (is_hex (drop 1 w) && eqb (length w) (2 * n + 1)) (eqb (length w) n)

-- the bytes of a text
unfoldable pub text_in : List ℕ → List ℕ
text_in w = cond (says_bytes w) (from_hex (drop 1 w)) (tabulate (length w) (λ i. character (get_or w i 0)))

-- a word says that a MAC is good
unfoldable pub is_good : List ℕ → Bool
is_good w = same_bytes w (text "good")
