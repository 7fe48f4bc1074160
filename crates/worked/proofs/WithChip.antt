-- A sale with a chip: each example computes.
use mathlib.Core.Path.{refl}
use Rattle.worked.specs.WithChip.{WithChip}
use Rattle.worked.proofs.Machine.{machine}

pub with_chip : WithChip
unfolding machine
with_chip =
    record {
      sent = refl;
      sent_bytes = refl;
      journal_stays = refl;
      counts_stay = refl;
      phase_stays = refl;
      answer_refused = refl;
      sale_refused = refl;
      agreed = refl;
      agreed_counts = refl;
      declined = refl;
      silent = refl;
      reversal = refl;
      reversal_reason = refl;
      reversal_chip = refl;
      unasked = refl;
      twice_refused = refl;
      twice_refused_signed_off = refl;
      sale_refused_signed_off = refl;
    }
