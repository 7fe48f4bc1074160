-- A field that is to be written: what it is refused for, and where its bytes stand then.
use Rattle.std.specs.Prelude.{◌≡◌, List, cond, ℕ, ◌+◌, ltb, length, take, Result, Ok}
use Rattle.checks.specs.Refusals.{refused_by}
use Rattle.checks.specs.declared.Refusal.{Refusal}
use Rattle.field.specs.Contents.{size, skip, stands, kept, fault}
use Rattle.field.specs.declared.Format.{Format}

-- what a field of n digits or bytes, with bs at its place, is refused for where o is written: length before contents; 0 for nothing.
-- Contents that are cut off are refused by 3, and an o that is too small by 1
unfoldable pub held_fault : Format → ℕ → List ℕ → List ℕ → ℕ
held_fault f n bs o =
    cond (ltb (length bs) (size f.class n)) 3
    (cond (ltb (length o) (skip f.prefix + size f.class n)) 1
    (fault f.class n (take (size f.class n) bs)))

unfoldable pub put_fault : Format → ℕ → List ℕ → List ℕ → ℕ
put_fault f n bs o = cond (stands f n) (held_fault f (kept f n) bs o) 7

-- bs is refused by e, or stands at the front of o
pub record Placing (e : ℕ) (bs : List ℕ) (r : Result ℕ Refusal) (o : List ℕ) : Type 0 where
  pub fault_is : refused_by r ≡ e
  pub size_is : e ≡ 0 → r ≡ Ok (length bs)
  pub bytes : e ≡ 0 → take (length bs) o ≡ bs
