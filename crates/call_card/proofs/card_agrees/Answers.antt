-- `call_card::card_agrees` meets its contract.
use Rattle.rules.proofs.Judged.{refuses_by}
use Rattle.call_definitions.specs.Answer.{card_agrees}
use Rattle.call_card.proofs.Steps.{word_taken}
use Rattle.call_card.proofs.card_agrees.Goals as goal

pub returns-in-Err : goal.returns-in-Err
unfolding card_agrees
returns-in-Err c = rw (c.refused.ensures, c.into.ensures) (refuses_by _ _ _ _ _ c.in-Err.ensures)

pub returns : goal.returns
unfolding card_agrees
returns c = word_taken _ _ c.in_default.ensures _ _ _ _ c.agreed_in.ensures c.quiet.ensures
