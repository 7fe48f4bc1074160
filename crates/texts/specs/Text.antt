-- Quoted texts as bytes, and a text that grows in a buffer.
use Rattle.std.specs.Prelude.{◌≡◌, List, [], ◌∷◌, ◌++◌, ℕ, min, length, take}
use Prim.Native.Char.{code}
use Prim.Native.String.{String, [] as no-characters, ◌∷◌ as ◌before◌}
use Rattle.digits.specs.Digits.{pack}
use Rattle.digits.specs.Numbers.{digits_of}
use Rattle.hexadecimal.specs.Hexadecimal.{to_hex}

-- the bytes of a quoted text
abbrev pub text : String → List ℕ
text no-characters = []
text (c before s) = code c ∷ text s

-- a space; a line feed
abbrev pub space : List ℕ
space = 0x20 ∷ []

abbrev pub feed : List ℕ
feed = 0x0A ∷ []

-- a number's last six digits
unfoldable pub six_digits : ℕ → List ℕ
six_digits x = to_hex (pack (digits_of 6 x))

-- the first n bytes of o are the text w, as far as o has room for it
pub record Text (w : List ℕ) (n : ℕ) (o : List ℕ) : Type 0 where
  pub count : n ≡ min (length w) (length o)
  pub holds : take n o ≡ take n w

-- a text of n bytes in o has grown by x: it has r bytes then, and the buffer is l
abbrev pub Adds : List ℕ → ℕ → List ℕ → ℕ → List ℕ → Type 0
Adds x n o r l = (w : List ℕ) → Text w n o → Text (w ++ x) r l
