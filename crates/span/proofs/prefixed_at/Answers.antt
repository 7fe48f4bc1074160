-- `span::prefixed_at` meets its contract.
use Rattle.std.proofs.Common.{sym, ◌∙◌}
use borrow.Author.Tests.{lt-ltb, le-ltb}
use Rattle.digits.proofs.Lists.{tail_part}
use Rattle.span.specs.Span.{frame_at}
use Rattle.span.proofs.prefixed_at.Goals as goal

pub returns-then-s-skip : goal.returns-then-s-skip
unfolding frame_at
returns-then-s-skip c = rw (← c.skip_of-skip.ensures, lt-ltb _ _ c.if-s-skip.true)

pub returns-then-is_packed : goal.returns-then-is_packed
unfolding frame_at
returns-then-is_packed c =
    rw (← c.skip_of-skip.ensures, le-ltb _ _ c.if-s-skip.false, sym c.is_packed.ensures ∙ c.if-is_packed.true, ← c.count_in-n.ensures.0)
    (c.sized_at.ensures ∙ rw tail_part)

pub returns : goal.returns
unfolding frame_at
returns c =
    rw (← c.skip_of-skip.ensures, le-ltb _ _ c.if-s-skip.false, sym c.is_packed.ensures ∙ c.if-is_packed.false)
