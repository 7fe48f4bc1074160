-- `span::sized_at` meets its contract.
use Rattle.std.proofs.Common.{arith, sym, ◌∙◌}
use borrow.Author.Tests.{lt-ltb, le-ltb}
use Rattle.field.proofs.Contents.{allowed-bounds}
use Rattle.span.specs.Span.{sized_at}
use Rattle.span.proofs.sized_at.Goals as goal

pub returns-then-not-is_allowed : goal.returns-then-not-is_allowed
unfolding sized_at
returns-then-not-is_allowed c = rw (sym c.is_allowed.ensures ∙ c.if-not-is_allowed.true) c.passed_at.ensures

pub overflow_cast-count : goal.overflow_cast-count
overflow_cast-count c = omega (arith, allowed-bounds c.args.f c.args.n (sym c.is_allowed.ensures ∙ c.if-not-is_allowed.false))

pub returns-then-s-size : goal.returns-then-s-size
unfolding sized_at
returns-then-s-size c =
    rw (sym c.is_allowed.ensures ∙ c.if-not-is_allowed.false, ← c.size_of-size.ensures, lt-ltb _ _ c.if-s-size.true)

pub returns : goal.returns
unfolding sized_at
returns c =
    rw (sym c.is_allowed.ensures ∙ c.if-not-is_allowed.false, ← c.size_of-size.ensures, le-ltb _ _ c.if-s-size.false, c.skip_of-skip.ensures)
