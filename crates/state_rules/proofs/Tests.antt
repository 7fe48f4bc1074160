-- A law of the bound of rule 21.
use mathlib.Core.Path.{◌≡◌, refl}
use mathlib.Core.Bool.{false}
use Prim.Native.Nat.{ℕ, ◌+◌, ◌≤◌}
use native.Mathlib.Omega.{arith}
use borrow.Author.Tests.{le-ltb, ltb-false}
use Rattle.numbers.specs.Limits.{largest_total}
use Rattle.kinds.specs.Kinds.{side_of}
use Rattle.kinds.specs.declared.Side.{Side}
use Rattle.kinds.specs.declared.Side.TheVariants.{Debit, Credit, Neither}
use Rattle.kinds.specs.declared.Totals.{Totals}
use Rattle.state_rules.specs.StateRules.{past_on, past}

-- a smaller amount passes no bound that the larger one does not
pub past_less : (kind x y : ℕ) (t : Totals) → x ≤ y → past kind y t ≡ false → past kind x t ≡ false
unfolding past
past_less kind x y t l h = go (side_of kind) h
  where
    go : (d : Side) → past_on d y t ≡ false → past_on d x t ≡ false
    go Debit e = le-ltb largest_total (t.debit + x) (omega (arith, ltb-false largest_total (t.debit + y) e))
    go Credit e = le-ltb largest_total (t.credit + x) (omega (arith, ltb-false largest_total (t.credit + y) e))
    go Neither e = refl
