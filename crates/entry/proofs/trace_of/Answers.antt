-- `trace_of` meets its contract: six digits fit 32 bits.
use native.Mathlib.Omega.{arith}
use borrow.Author.Rules.{rules}
use Rattle.entry.proofs.Bytes.{part-number, trace-small}
use Rattle.entry.proofs.trace_of.Goals as goal

pub overflow_cast-result : goal.overflow_cast-result
overflow_cast-result c =
    omega (arith, c.packed_number.ensures, part-number 4 3 c.args.b.now (search rules), trace-small c.args.b.now)
