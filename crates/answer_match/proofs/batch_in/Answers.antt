-- `answer_match::batch_in` meets its contract.
use Rattle.std.proofs.Common.{arith, sym, ◌∙◌}
use Rattle.numbers.proofs.Bounds.{within-bounds}
use Rattle.answer_match.proofs.batch_in.Goals as goal

pub overflow_cast-result : goal.overflow_cast-result
overflow_cast-result c = omega (arith, within-bounds _ _ _ (sym c.is_within.ensures ∙ c.if-is_within.true), c.from.ensures)
