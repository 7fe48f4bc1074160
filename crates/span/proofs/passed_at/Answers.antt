-- `span::passed_at` meets its contract.
use Rattle.std.proofs.Common.{arith, sym, ◌∙◌}
use borrow.Author.Tests.{lt-ltb, le-ltb}
use Rattle.span.specs.Span.{passed_at}
use Rattle.span.proofs.Held.{skip_le}
use Rattle.span.proofs.passed_at.Goals as goal

pub returns-then-not-is_late : goal.returns-then-not-is_late
unfolding passed_at
returns-then-not-is_late c = rw (sym c.is_late.ensures ∙ c.if-not-is_late.true)

pub returns-then-s-n : goal.returns-then-s-n
unfolding passed_at
returns-then-s-n c = rw (sym c.is_late.ensures ∙ c.if-not-is_late.false, lt-ltb _ _ c.if-s-n.true)

pub overflow_add-result : goal.overflow_add-result
overflow_add-result c = omega (arith, c.skip_of.ensures, skip_le c.args.f.prefix, c.requires)

pub returns : goal.returns
unfolding passed_at
returns c = rw (sym c.is_late.ensures ∙ c.if-not-is_late.false, le-ltb _ _ c.if-s-n.false, c.skip_of.ensures)
