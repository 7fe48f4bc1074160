-- `copy` meets its contract.
use Rattle.std.proofs.Common.{arith, min, length, ◌≡◌}
use Rattle.digits.proofs.Copies.{copied_front}
use Rattle.digits.proofs.copy.Goals as goal

pub returns : goal.returns
returns c =
    let n : c.loop-i.i ≡ min (length c.args.from.now) (length c.args.out.now) = omega arith in
    copied_front c.args.from.now c.args.out.now c.loop-i.out c.loop-i.i n c.loop-i.auto.out c.loop-i.invariant.0 c.loop-i.invariant.1
