-- `elements::element_size` meets its contract.
use mathlib.Core.Path.{sym}
use native.Mathlib.Omega.{arith}
use borrow.Author.Tests.{le-leb, lt-leb}
use Rattle.elements.proofs.Elements.{tag_small, size_none, size-judged, head_small}
use Rattle.elements.proofs.element_size.Goals as goal

pub length_size-length-requires : goal.length_size-length-requires
length_size-length-requires c = rw c.tag_size-tag.ensures (tag_small _).1

pub returns-then-length-eq0 : goal.returns-then-length-eq0
returns-then-length-eq0 c =
    sym (size_none _ c.tag_size-tag.ensures c.length_size-length.ensures c.if-length-eq0.true)

pub overflow_add-head : goal.overflow_add-head
overflow_add-head c =
    omega (arith, head_small _ c.tag_size-tag.ensures c.length_size-length.ensures)

pub overflow_add-end : goal.overflow_add-end
overflow_add-end c =
    omega (arith, head_small _ c.tag_size-tag.ensures c.length_size-length.ensures)

pub returns-then-end-b : goal.returns-then-end-b
returns-then-end-b c =
    rw (size-judged _ c.tag_size-tag.ensures c.length_size-length.ensures c.if-length-eq0.false c.byte_at.ensures, le-leb _ _ c.if-end-b.true)

pub returns : goal.returns
returns c =
    rw (size-judged _ c.tag_size-tag.ensures c.length_size-length.ensures c.if-length-eq0.false c.byte_at.ensures, lt-leb _ _ c.if-end-b.false)
