-- The journal's five sums and the totals that the terminal holds.
use mathlib.Core.Path.{◌≡◌, ap, sym, ◌∙◌}
use Rattle.kinds.specs.Sums.{together}
use Rattle.kinds.specs.declared.Totals.{Totals}
use Rattle.kinds.specs.declared.sums.Sums.{Sums}
use Rattle.journal.specs.Journal.{batch_sums}
use Rattle.journal.proofs.Reordered.{totals_in_any_order}
use Rattle.rules.specs.Summing.{AddUp, SumsAddUp, SumsAddUpReordered}
use Rattle.rules.proofs.InOrder.{keeps_rule2_lem}

add_up : (x : Sums) (t : Totals) → t ≡ together x → AddUp x t
unfolding together
add_up x t e =
    record {
      debit_amount = ap (λ (t : Totals). t.debit) e;
      debit_count = ap (λ (t : Totals). t.debits) e;
      credit_amount = ap (λ (t : Totals). t.credit) e;
      credit_count = ap (λ (t : Totals). t.credits) e;
    }

pub sums_add_up : SumsAddUp
sums_add_up s es h = add_up (batch_sums es) s.totals (keeps_rule2_lem s es h).state.totals

pub sums_add_up_reordered : SumsAddUpReordered
sums_add_up_reordered s es fs h r =
    add_up (batch_sums fs) s.totals ((keeps_rule2_lem s es h).state.totals ∙ sym (totals_in_any_order es fs r))
