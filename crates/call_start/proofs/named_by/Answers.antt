-- `call_start::named_by` meets its contract: the original's four digits of date fit 16 bits.
use borrow.Author.Rules.{rules}
use native.Mathlib.Omega.{arith}
use Rattle.call_start.proofs.Dates.{named-date}
use Rattle.digits.proofs.Packed.{number-below}
use Rattle.call_start.proofs.named_by.Goals as goal

pub overflow_cast-result : goal.overflow_cast-result
overflow_cast-result c =
    let e = named-date c.args.e _ (search rules)
    c.packed_number.ensures in
    omega (arith, e, number-below 4 c.args.e.date)
