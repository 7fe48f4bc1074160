-- `compose::put_number` meets its contract.
use Rattle.std.proofs.Common.{arith, ℕ, replicate}
use Rattle.compose.proofs.Places.{number_put}
use Rattle.compose.proofs.put_number.Goals as goal

pub returns : goal.returns
returns c =
    number_put c.args.m.now _ c.args.count c.args.x (replicate {A = ℕ} 255 0) c.from-end.ensures (omega arith)
    c.digits_into.ensures c.put_digits.ensures
