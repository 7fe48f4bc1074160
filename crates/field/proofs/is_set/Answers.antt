-- `field::is_set` meets its contract.
use mathlib.Core.Path.{◌≡◌}
use Prim.Native.Nat.{◌-◌, ◌%◌}
use native.Mathlib.Omega.{arith}
use Rattle.field.specs.Bitmap.{has_in}
use Rattle.field.proofs.is_set.Goals as goal

pub returns : goal.returns
unfolding has_in
returns c = λ h.
    let e : (256 - (64 - c.args.i)) % 64 ≡ c.args.i % 64 = omega arith in
    rw e
