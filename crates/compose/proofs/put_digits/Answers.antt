-- `compose::put_digits` meets its contract.
use Rattle.std.proofs.Common.{arith, ℕ, replicate}
use Rattle.compose.proofs.Places.{digits_long, digits_not, digits_put}
use Rattle.compose.proofs.put_digits.Goals as goal

pub returns-then-count-gt255 : goal.returns-then-count-gt255
returns-then-count-gt255 c = digits_long _ _ c.args.ds.now c.if-count-gt255.true

pub returns-then-pack_into : goal.returns-then-pack_into
returns-then-pack_into c =
    digits_put c.args.m.now _ c.args.ds.now (replicate {A = ℕ} 128 0) (omega arith) (omega arith) c.pack_into.ensures.0
    c.if-pack_into.true c.pack_into.ensures.1 c.put_item.ensures

pub returns-else-pack_into : goal.returns-else-pack_into
returns-else-pack_into c =
    digits_not c.args.m.now _ c.args.ds.now (replicate {A = ℕ} 128 0) (omega arith) (omega arith) c.pack_into.ensures.0 c.if-pack_into.false
