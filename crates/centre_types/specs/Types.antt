-- What left by its message type, the type of the answer to it, and whether the code of an answer approves.
use Rattle.std.specs.Prelude.{List, [], ◌∷◌, Bool, cond, ◌&&◌, ℕ, ◌+◌, eqb, get_or}
use Rattle.field.specs.Table.{among}
use Rattle.centre_types.specs.declared.Left.{Left}
use Rattle.centre_types.specs.declared.Left.TheVariants.{Nothing, Request, Reversal, Settlement, Upload, SignOn}

-- what left, by its type
unfoldable pub left_as : ℕ → Left
left_as i =
    cond (among i (0x0100 ∷ 0x0200 ∷ 0x0220 ∷ [])) Request
    (cond (eqb i 0x0400) Reversal
    (cond (eqb i 0x0500) Settlement
    (cond (eqb i 0x0320) Upload
    (cond (eqb i 0x0800) SignOn Nothing))))

-- the type of the answer: its type plus 10
unfoldable pub answer_type : ℕ → ℕ
answer_type i = cond (among i (0x0100 ∷ 0x0200 ∷ 0x0220 ∷ 0x0320 ∷ 0x0400 ∷ 0x0500 ∷ 0x0800 ∷ [])) (i + 0x10) 0

-- the code is 00
unfoldable pub is_approval : List ℕ → Bool
is_approval code = eqb (get_or code 0 0) 0x30 && eqb (get_or code 1 0) 0x30
