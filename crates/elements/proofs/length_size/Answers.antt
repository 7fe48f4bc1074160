-- `elements::length_size` meets its contract.
use native.Mathlib.Omega.{arith}
use borrow.Author.Tests.{le-leb}
use Rattle.elements.specs.Elements.{length_size}
use Rattle.elements.proofs.Elements.{length-long}
use Rattle.elements.proofs.length_size.Goals as goal

pub returns-then-first-le127 : goal.returns-then-first-le127
unfolding length_size
returns-then-first-le127 c = rw (← c.byte_at-first.ensures, le-leb _ _ c.if-first-le127.true)

pub returns-then-first-second : goal.returns-then-first-second
returns-then-first-second c =
    rw (length-long _ _ c.byte_at-first.ensures c.byte_at-second.ensures c.if-first-le127.false (omega arith), c.if-first-second.true)

pub returns : goal.returns
returns c =
    rw (length-long _ _ c.byte_at-first.ensures c.byte_at-second.ensures c.if-first-le127.false (omega arith), c.if-first-second.false)
