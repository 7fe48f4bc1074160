-- `rehearse::answer` meets its contract.
use Rattle.std.proofs.Common.{sym, ◌∙◌, []}
use Rattle.texts.proofs.Texts.{start}
use Rattle.rehearse.proofs.Scripts.{answered-long, answered-none, answered_words}
use Rattle.rehearse.proofs.answer.Goals as goal

pub returns-then-is_too_long : goal.returns-then-is_too_long
returns-then-is_too_long c =
    answered-long _ _ _ _ (sym c.is_too_long.ensures ∙ c.if-is_too_long.true) (c.add_error.ensures [] (start _))

pub returns-then-is_empty : goal.returns-then-is_empty
returns-then-is_empty c =
    answered-none _ _ _ _ _ (sym c.is_too_long.ensures ∙ c.if-is_too_long.false)
    (rw c.words_of-words.ensures at (sym c.is_empty.ensures ∙ c.if-is_empty.true))

pub returns : goal.returns
returns c =
    answered_words _ _ _ _ (sym c.is_too_long.ensures ∙ c.if-is_too_long.false)
    (rw c.words_of-words.ensures at (sym c.is_empty.ensures ∙ c.if-is_empty.false))
    (rw c.words_of-words.ensures at c.act.ensures)
