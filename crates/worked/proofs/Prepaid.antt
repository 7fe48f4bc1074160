-- A sale that a card covers in part: each example computes.
use mathlib.Core.Path.{refl}
use Rattle.worked.specs.Prepaid.{Prepaid}
use Rattle.worked.proofs.Machine.{machine}

pub prepaid : Prepaid
unfolding machine
prepaid =
    record {
      entered = refl;
      booked = refl;
      void_asks = refl;
      taken_back = refl;
      least = refl;
      whole = refl;
      nothing = refl;
      more = refl;
      reversed = refl;
      reversal_asks = refl;
      agreed = refl;
      declined = refl;
      refund_declined = refl;
      refund_ends = refl;
    }
