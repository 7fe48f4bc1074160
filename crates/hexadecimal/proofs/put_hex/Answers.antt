-- `hexadecimal::put_hex` meets its contract.
use mathlib.Core.Path.{refl}
use borrow.Author.Tests.{eq-eqb, ne_eqb}
use Rattle.hexadecimal.proofs.put_hex.Goals as goal

pub returns-then-out-s : goal.returns-then-out-s
returns-then-out-s c = (rw (ne_eqb _ _ c.if-out-s.true), refl)

pub returns : goal.returns
returns c =
    (rw (eq-eqb _ _ c.if-out-s.false), c.put_digits.ensures)
