-- A state whose stored sums differ from its journal is refused by 2.
use mathlib.Core.Path.{◌≡◌, refl}
use mathlib.Core.Bool.{Bool, true, false}
use Rattle.journal.specs.Journal.{entries_of, totals_of}
use Rattle.state.specs.declared.State.{State}
use Rattle.state.specs.Calls.{Lent, judged}
use Rattle.checks.specs.Checks.{first_broken}
use Rattle.rules.specs.Rules.{keeps_rule2}
use Rattle.rules.proofs.InOrder.{keeps_rule2_lem}
use Rattle.call_definitions.specs.SignOn.{sign_on}
use Rattle.call_definitions.specs.Start.{start}
use Rattle.call_definitions.specs.Answer.{answer, no_answer, power_returned, card_agrees, card_declines}
use Rattle.call_definitions.specs.SendReversal.{send_reversal}
use Rattle.call_definitions.specs.Settle.{settle}
use Rattle.call_definitions.specs.SendNextUpload.{send_next_upload}
use Rattle.call_definitions.specs.Events.{sign_on_event, starts, answers, no_answer_event, power_returned_event, card_agrees_event, card_declines_event, send_reversal_event, settles, send_next_upload_event}
use Rattle.call_theorems.specs.Sums.{OtherSumsRefused}

module _ (s : State) (lent : Lent) (other : s.totals ≡ totals_of (entries_of s.entries lent.journal) → ⊥) where
  out_of_order : keeps_rule2 s (entries_of s.entries lent.journal) ≡ false
  out_of_order = go (keeps_rule2 s (entries_of s.entries lent.journal)) refl
    where
      go : (b : Bool) → keeps_rule2 s (entries_of s.entries lent.journal) ≡ b → b ≡ false
      go true e = absurd (other (keeps_rule2_lem s (entries_of s.entries lent.journal) e).state.totals)
      go false e = refl

pub other_sums-refused : OtherSumsRefused
unfolding sign_on start answer no_answer power_returned card_agrees card_declines send_reversal settle send_next_upload judged first_broken
other_sums-refused sign_on_event s lent l d = rw (l, out_of_order s lent d)
other_sums-refused (starts k b) s lent l d = rw (l, out_of_order s lent d)
other_sums-refused (answers b good) s lent l d = rw (l, out_of_order s lent d)
other_sums-refused no_answer_event s lent l d = rw (l, out_of_order s lent d)
other_sums-refused power_returned_event s lent l d = rw (l, out_of_order s lent d)
other_sums-refused card_agrees_event s lent l d = rw (l, out_of_order s lent d)
other_sums-refused card_declines_event s lent l d = rw (l, out_of_order s lent d)
other_sums-refused send_reversal_event s lent l d = rw (l, out_of_order s lent d)
other_sums-refused settles s lent l d = rw (l, out_of_order s lent d)
other_sums-refused send_next_upload_event s lent l d = rw (l, out_of_order s lent d)
