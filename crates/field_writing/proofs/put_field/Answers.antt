-- `field_writing::put_field` meets its contract.
use Rattle.std.proofs.Common.{sym, ◌∙◌}
use Rattle.field_writing.specs.Placing.{put_fault}
use Rattle.field_writing.proofs.Parts.{placing_refused}
use Rattle.field_writing.proofs.put_field.Goals as goal

pub returns-then-is_allowed : goal.returns-then-is_allowed
unfolding put_fault
returns-then-is_allowed c =
    rw (rw c.from.ensures at (sym c.is_allowed.ensures ∙ c.if-is_allowed.true)) c.put_held.ensures

pub returns-then-is_late : goal.returns-then-is_late
unfolding put_fault
returns-then-is_late c =
    rw (rw c.from.ensures at (sym c.is_allowed.ensures ∙ c.if-is_allowed.false), sym c.is_late.ensures ∙ c.if-is_late.true)
    c.put_held-then-is_late.ensures

pub returns : goal.returns
unfolding put_fault
returns c =
    placing_refused (rw (rw c.from.ensures at (sym c.is_allowed.ensures ∙ c.if-is_allowed.false), sym c.is_late.ensures ∙ c.if-is_late.false))
