-- `field_writing::put_count` meets its contract.
use mathlib.Core.Path.{ap, ◌∙◌}
use Rattle.field.specs.Contents.{skip}
use lib.ListN.{length-set, drop_of_length-le}
use borrow.Author.Rules.{rules}
use native.Mathlib.Omega.{arith}
use Rattle.digits.specs.Digits.{pack}
use Rattle.field_writing.proofs.Counts.{one_byte, two_bytes, set_first, set-two}
use Rattle.field_writing.proofs.put_count.Goals as goal

pub bounds-out-0 : goal.bounds-out-0
bounds-out-0 c =
    omega (arith, c.requires ∙ ap skip c.in-One.is)

pub bounds-out-0-in-Two : goal.bounds-out-0-in-Two
bounds-out-0-in-Two c =
    omega (arith, c.requires ∙ ap skip c.in-Two.is)

pub bounds-out-1 : goal.bounds-out-1
bounds-out-1 c =
    rw length-set (omega (arith, c.requires ∙ ap skip c.in-Two.is))

pub returns-in-Absent : goal.returns-in-Absent
unfolding pack
returns-in-Absent c =
    rw c.in-Absent.is (drop_of_length-le c.args.out.now {i = 0} (omega (arith, c.requires ∙ ap skip c.in-Absent.is)))

pub returns-in-One : goal.returns-in-One
returns-in-One c =
    let l = c.requires ∙ ap skip c.in-One.is in
    rw (c.in-One.is, one_byte, c.pair.ensures, set_first c.args.out.now _ (omega arith), drop_of_length-le c.args.out.now {i = 1} (omega arith))

pub returns-in-Two : goal.returns-in-Two
returns-in-Two c =
    let l = c.requires ∙ ap skip c.in-Two.is in
    rw (c.in-Two.is, two_bytes c.args.n (search rules), c.pair-in-Two.ensures, set-two c.args.out.now _ _ (omega arith), drop_of_length-le c.args.out.now {i = 2} (omega arith))
