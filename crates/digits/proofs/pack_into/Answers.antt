-- `pack_into` meets its contract.
use Rattle.std.proofs.Common.{arith, length, refl, sym, ◌≡◌, ◌∙◌}
use mathlib.Core.Bool.{and-false}
use borrow.Author.Tests.{eq-eqb, ne_eqb}
use Rattle.digits.specs.Digits.{bytes_for, packable}
use Rattle.digits.proofs.pack_into.Goals.{then-out-div_ceil-via-then-out-div_ceil, then-out-div_ceil-via-else-out-div_ceil+then-not-all_digits}
use Rattle.digits.proofs.pack_into.Goals as goal

pub returns-then-out-div_ceil : goal.returns-then-out-div_ceil
unfolding packable
returns-then-out-div_ceil c =
    elim c.then-out-div_ceil.branch [
      | then-out-div_ceil-via-then-out-div_ceil w ↦
          rw (ne_eqb (length c.args.out.now) (bytes_for (length c.args.ds.now)) (λ e. omega arith)) (refl, refl)
      | then-out-div_ceil-via-else-out-div_ceil+then-not-all_digits w ↦
          rw (sym w.all_digits.ensures ∙ w.if-not-all_digits.true, and-false) (refl, refl)
    ]

pub returns : goal.returns
unfolding packable
returns c =
    let l : length c.args.out.now ≡ bytes_for (length c.args.ds.now) = omega arith in
    rw (eq-eqb _ _ l, sym c.all_digits.ensures ∙ c.if-not-all_digits.false) (refl, c.pack_digits.ensures)
