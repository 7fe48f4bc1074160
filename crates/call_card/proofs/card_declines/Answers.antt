-- `call_card::card_declines` meets its contract.
use Rattle.rules.proofs.Judged.{refuses_by}
use Rattle.call_definitions.specs.Answer.{card_declines}
use Rattle.call_card.proofs.Steps.{word_taken}
use Rattle.call_card.proofs.card_declines.Goals as goal

pub returns-in-Err : goal.returns-in-Err
unfolding card_declines
returns-in-Err c = rw (c.refused.ensures, c.into.ensures) (refuses_by _ _ _ _ _ c.in-Err.ensures)

pub returns : goal.returns
unfolding card_declines
returns c = word_taken _ _ c.in_default.ensures _ _ _ _ (λ room. c.silent_in.ensures room.counts) c.quiet.ensures
