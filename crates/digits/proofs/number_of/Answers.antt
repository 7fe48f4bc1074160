-- `number_of` meets its contract.
use Rattle.std.proofs.Common.{sym, ap, ◌∙◌, Some}
use mathlib.Core.Bool.{and-false}
use borrow.Author.Tests.{lt-leb}
use Rattle.digits.specs.Numbers.{number_of}
use Rattle.digits.proofs.Numbers.{number_is}
use Rattle.digits.proofs.number_of.Goals.{then-ds-gt19-via-then-ds-gt19, then-ds-gt19-via-else-ds-gt19+then-not-all_digits}
use Rattle.digits.proofs.number_of.Goals as goal

pub returns-then-ds-gt19 : goal.returns-then-ds-gt19
unfolding number_of
returns-then-ds-gt19 c =
    elim c.then-ds-gt19.branch [
      | then-ds-gt19-via-then-ds-gt19 w ↦ rw (lt-leb _ _ w.if-ds-gt19.true)
      | then-ds-gt19-via-else-ds-gt19+then-not-all_digits w ↦ rw (sym w.all_digits.ensures ∙ w.if-not-all_digits.true, and-false)
    ]

pub returns : goal.returns
returns c =
    ap Some c.sum_of.ensures ∙ sym (number_is _ c.if-ds-gt19.false (sym c.all_digits.ensures ∙ c.if-not-all_digits.false))
