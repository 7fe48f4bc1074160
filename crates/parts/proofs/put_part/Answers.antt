-- `parts::put_part` meets its contract.
use native.Mathlib.Omega.{arith}
use Rattle.parts.proofs.Laid.{part-short, part_put}
use Rattle.parts.proofs.put_part.Goals as goal

pub returns-then-ds-at : goal.returns-then-ds-at
returns-then-ds-at c =
    part-short c.args.p c.args.x c.args.ds.now c.place_of-at.ensures (omega arith)

pub returns-then-ds-at-2 : goal.returns-then-ds-at-2
returns-then-ds-at-2 c =
    part-short c.args.p c.args.x c.args.ds.now c.place_of-at.ensures (omega arith)

pub returns : goal.returns
returns c =
    part_put c.args.p c.args.x c.args.ds.now c.place_of-at.ensures (omega arith) c.digits_into.ensures
