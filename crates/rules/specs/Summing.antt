-- Document 02, request 5: what the journal's five sums are to the totals that the terminal holds and its settlement carries.
use Rattle.std.specs.Prelude.{◌≡◌, List, true, ◌+◌}
use Rattle.kinds.specs.declared.Totals.{Totals}
use Rattle.kinds.specs.declared.sums.Sums.{Sums}
use Rattle.entry.specs.declared.Entry.{Entry}
use Rattle.journal.specs.Journal.{batch_sums}
use Rattle.journal.specs.Reordered.{Reordered}
use Rattle.state.specs.declared.State.{State}
use Rattle.rules.specs.Rules.{keeps_rule2}

-- debit is sales and completions together, credit refunds, sale voids and completion voids
pub record AddUp (x : Sums) (t : Totals) : Type 0 where
  pub debit_amount : t.debit ≡ x.sales.amount + x.completions.amount
  pub debit_count : t.debits ≡ x.sales.count + x.completions.count
  pub credit_amount : t.credit ≡ x.refunds.amount + x.sale_voids.amount + x.completion_voids.amount
  pub credit_count : t.credits ≡ x.refunds.count + x.sale_voids.count + x.completion_voids.count

-- for every journal that passes rule 2, and in whatever order its entries are added up
abbrev pub SumsAddUp : Type 0
SumsAddUp = (s : State) (es : List Entry) → keeps_rule2 s es ≡ true → AddUp (batch_sums es) s.totals

abbrev pub SumsAddUpReordered : Type 0
SumsAddUpReordered = (s : State) (es fs : List Entry) → keeps_rule2 s es ≡ true → Reordered es fs → AddUp (batch_sums fs) s.totals
