-- `packed_number` meets its contract.
use Rattle.std.proofs.Common.{arith, sym}
use Rattle.digits.proofs.Packed.{told_more, told-fits, told-done, left_fails, right_fails, too_many}
use Rattle.digits.proofs.packed_number.Goals.{then-b-gt9-via-then-b-gt9, then-b-gt9-via-else-b-gt9+then-b-gt9-2}
use Rattle.digits.proofs.packed_number.Goals as goal

pub returns-then-s-gt9 : goal.returns-then-s-gt9
returns-then-s-gt9 c = sym (too_many c.args.s.now c.if-s-gt9.true)

pub returns-then-b-gt9 : goal.returns-then-b-gt9
returns-then-b-gt9 c =
    elim c.then-b-gt9.branch [
      | then-b-gt9-via-then-b-gt9 w ↦ sym (left_fails c.args.s.now c.loop-b.b-index (omega arith) w.if-b-gt9.true)
      | then-b-gt9-via-else-b-gt9+then-b-gt9-2 w ↦ sym (right_fails c.args.s.now c.loop-b.b-index (omega arith) w.if-b-gt9-2.true)
    ]

pub overflow_mul-v : goal.overflow_mul-v
overflow_mul-v c = omega (arith, told-fits c.loop-b.invariant (omega arith) c.if-s-gt9.false)

pub overflow_add-v : goal.overflow_add-v
overflow_add-v c = omega (arith, told-fits c.loop-b.invariant (omega arith) c.if-s-gt9.false)

pub loop-b-preserved : goal.loop-b-preserved
loop-b-preserved c = rw c.from.ensures (told_more c.loop-b.invariant (omega arith) c.if-b-gt9.false c.if-b-gt9-2.false)

pub returns : goal.returns
returns c = told-done c.loop-b.invariant (omega arith) (omega arith) c.if-s-gt9.false
