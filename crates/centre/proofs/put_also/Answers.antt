-- `centre::put_also` meets its contract.
use Rattle.std.proofs.Common.{sym, ◌∙◌}
use Rattle.centre.proofs.put_also.Goals as goal

pub returns-in-Request : goal.returns-in-Request
returns-in-Request c = rw (sym c.left_as.ensures ∙ c.in-Request.is) c.put_approval_fields.ensures
