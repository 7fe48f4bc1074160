-- The statements of specs/Theorems.antt: a screen shows the stored sums, and these are the history's.
use mathlib.Core.Path.{◌≡◌, refl, sym, ap, ◌∙◌}
use Prim.Native.Nat.{ℕ, ◌<◌}
use native.Mathlib.Omega.{arith}
use lib.ListN.{get_or}
use Rattle.state.specs.declared.State.{State}
use Rattle.image_definitions.specs.Layout.{rows}
use Rattle.image_definitions.specs.Image.{values_of, image}
use Rattle.image_definitions.specs.Sized.{Sized}
use Rattle.image_definitions.proofs.Theorems.{image-reads_back}
use Rattle.interface_definitions.specs.Interface.{returned, number_at}
use Rattle.interface_definitions.proofs.Leaves.{number_read, totals-read}
use Rattle.history.specs.Demand.{runs, begun}
use Rattle.history.proofs.Theorem.{stored-sums}
use Rattle.screen.specs.Shows.{totals_line}
use Rattle.screen_theorems.specs.Theorems.{LineOfHistory, ImageOfHistory}

pub line_of-history : LineOfHistory
unfolding totals_line
line_of-history x j ts w v h lent e =
    let s = stored-sums x j ts w v in
    rw (e, s.debit_amount, s.debit_count, s.credit_amount, s.credit_count)

-- the number that C reads in a row of a state's image
number_of : (s : State) → Sized s → (row old : ℕ) {n : ℕ} → row < rows → get_or (values_of s) row 0 ≡ n → number_at (image s) row old ≡ returned 0 n
number_of s z row old l e = sym (number_read (image s) (sym (image-reads_back s z)) row old l refl refl) ∙ ap (returned 0) e

pub image-of-history : ImageOfHistory
unfolding values_of
image-of-history x j ts w v z =
    let s = (runs ts (begun x j)).state in
    let h = stored-sums x j ts w v in
    record {
      all =
          λ old.
          sym (totals-read (image s) (sym (image-reads_back s z)) old refl)
          ∙ rw (h.debit_amount, h.debit_count, h.credit_amount, h.credit_count);
      debit_amount = λ old. number_of s z 17 old (omega arith) h.debit_amount;
      debit_count = λ old. number_of s z 18 old (omega arith) h.debit_count;
      credit_amount = λ old. number_of s z 19 old (omega arith) h.credit_amount;
      credit_count = λ old. number_of s z 20 old (omega arith) h.credit_count;
    }
