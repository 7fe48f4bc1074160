-- `contents::take` meets its contract.
use Rattle.digits.proofs.Copies.{copied_whole}
use borrow.Author.Rules.{rules}
use mathlib.Core.Path.{sym, ◌∙◌}
use native.Mathlib.Omega.{arith}
use Rattle.contents.proofs.Taken.{not_filled, filled}
use Rattle.contents.proofs.take.Goals as goal

pub returns-then-out-b : goal.returns-then-out-b
returns-then-out-b c = not_filled c.if-out-b.true

pub returns-then-take_digits : goal.returns-then-take_digits
returns-then-take_digits c =
    filled c.if-out-b.false
    (rw (
      c.in-Digits.is,
      sym c.take_digits.ensures.0 ∙ c.if-take_digits.true,
    )) (λ e. c.take_digits.ensures.1 c.if-take_digits.true)

pub returns-then-take_printable : goal.returns-then-take_printable
returns-then-take_printable c =
    filled c.if-out-b.false
    (rw (
      c.in-Printable.is,
      sym c.take_printable.ensures.0 ∙ c.if-take_printable.true,
    )) (λ e. c.take_printable.ensures.1 c.if-take_printable.true)

pub returns-else-take_digits : goal.returns-else-take_digits
returns-else-take_digits c =
    filled c.if-out-b.false
    (rw (
      c.in-Digits.is,
      sym c.take_digits.ensures.0 ∙ c.if-take_digits.false,
    )) (λ e. absurd (omega (arith, e)))

pub returns-else-take_printable : goal.returns-else-take_printable
returns-else-take_printable c =
    filled c.if-out-b.false
    (rw (
      c.in-Printable.is,
      sym c.take_printable.ensures.0 ∙ c.if-take_printable.false,
    )) (λ e. absurd (omega (arith, e)))

pub returns-in-Any : goal.returns-in-Any
returns-in-Any c =
    filled c.if-out-b.false (rw c.in-Any.is) (λ e. (copied_whole _ _ c.copy.ensures (search rules)))
