-- Every phase, every ending and both closings are reached: each example computes.
use mathlib.Core.Path.{refl}
use Rattle.worked.specs.Reached.{Reached}
use Rattle.worked.proofs.Machine.{machine}

pub reached : Reached
unfolding machine
reached =
    record {
      resting = refl;
      request_out = refl;
      card_awaited = refl;
      pending = refl;
      reversal_out = refl;
      sign_on_out = refl;
      sign_on_over_reversal = refl;
      settlement_out = refl;
      settling = refl;
      uploading = refl;
      item_out = refl;
      end_out = refl;
      endings = refl;
      closed = refl;
      closed_after_upload = refl;
    }
