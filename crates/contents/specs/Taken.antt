-- Contents that are tested and copied.
use Rattle.std.specs.Prelude.{◌≡◌, List, cond, ℕ, eqb, length}
use Rattle.field.specs.Contents.{fault}
use Rattle.field.specs.declared.Class.{Class}

-- what contents b of n digits or bytes are refused for, where room bytes are to be filled: 3 where they are not filled
unfoldable pub refusal : Class → ℕ → List ℕ → ℕ → ℕ
refusal class n b room = cond (eqb room (length b)) (fault class n b) 3

-- contents b of n digits or bytes give the number r and leave out
pub record Taken (class : Class) (n : ℕ) (b : List ℕ) (room r : ℕ) (out : List ℕ) : Type 0 where
  pub number : r ≡ refusal class n b room
  pub copied : r ≡ 0 → out ≡ b
