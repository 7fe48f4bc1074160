-- `span::count_in` meets its contract.
use native.Mathlib.Omega.{arith}
use Rattle.digits.specs.Digits.{unpack}
use Rattle.digits.specs.Numbers.{value}
use Rattle.span.proofs.count_in.Goals as goal

pub returns-in-One : goal.returns-in-One
unfolding value unpack
returns-in-One c = rw c.in-One.is (omega (arith, c.half_at.ensures, c.half_at-in-One.ensures))

pub returns-in-Two : goal.returns-in-Two
unfolding value unpack
returns-in-Two c = rw c.in-Two.is (omega (arith, c.half_at-in-Two.ensures, c.half_at-in-Two-2.ensures, c.half_at-in-Two-3.ensures, c.half_at-in-Two-4.ensures))
