-- `span::frame_of` meets its contract.
use Rattle.std.proofs.Common.{sym, ◌∙◌}
use Rattle.span.proofs.Frame.{frame_absent}
use Rattle.span.proofs.frame_of.Goals as goal

pub returns-in-Absent : goal.returns-in-Absent
returns-in-Absent c = c.sized_at.ensures ∙ rw c.from.ensures (sym (frame_absent _ _ c.in-Absent.is))
