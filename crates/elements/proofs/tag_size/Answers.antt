-- `elements::tag_size` meets its contract.
use borrow.Author.Tests.{eq-eqb, ne_eqb}
use Rattle.elements.specs.Elements.{tag_size}
use Rattle.elements.proofs.tag_size.Goals as goal

pub returns-then-byte_at-eq31 : goal.returns-then-byte_at-eq31
unfolding tag_size
returns-then-byte_at-eq31 c = rw (← c.byte_at.ensures, eq-eqb _ _ c.if-byte_at-eq31.true)

pub returns : goal.returns
unfolding tag_size
returns c = rw (← c.byte_at.ensures, ne_eqb _ _ c.if-byte_at-eq31.false)
