-- `lines::shows::say` meets its contract.
use Rattle.std.proofs.Common.{[]}
use Rattle.texts.proofs.Texts.{start}
use Rattle.lines.proofs.Laws.{says_error, says, keeps_silent}
use Rattle.lines.proofs.shows.say.Goals as goal

pub returns-then-error-ne0 : goal.returns-then-error-ne0
returns-then-error-ne0 c =
    says_error _ _ _ _ _ c.if-error-ne0.true (rw c.row.ensures at (c.add_error.ensures [] (start _)))

pub returns-in-Show : goal.returns-in-Show
returns-in-Show c = says _ _ _ _ _ c.if-error-ne0.false c.in-Show.is c.show.ensures

pub returns-in-Wrong : goal.returns-in-Wrong
returns-in-Wrong c = says _ _ _ _ _ c.if-error-ne0.false c.in-Wrong.is c.add_fault.ensures

pub returns-in_default : goal.returns-in_default
returns-in_default c =
    keeps_silent _ _ _ _ _ _ c.if-error-ne0.false c.in_default.not-Show c.in_default.not-Wrong
