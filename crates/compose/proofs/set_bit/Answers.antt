-- `compose::set_bit` meets its contract.
use Rattle.std.proofs.Common.{rules, arith, get_or, ◌-◌, ◌/◌, Fits, w8}
use Rattle.compose.proofs.Bitmaps.{bit_there, bit-fits, bit-set}
use Rattle.compose.proofs.set_bit.Goals as goal

pub overflow_add-bitmap : goal.overflow_add-bitmap
overflow_add-bitmap c =
    let b : Fits w8 (get_or c.args.bitmap.now ((c.from-i.result - 1) / 8) 0) = search rules in
    omega (arith, bit-fits c.args.bitmap.now _ c.named.ensures c.requires.0 c.from-i.ensures c.if-not-named.true (omega arith))

pub returns-then-not-named : goal.returns-then-not-named
returns-then-not-named c = bit-set _ _ c.named.ensures c.requires.0 c.from-i.ensures c.if-not-named.true

pub returns-else-not-named : goal.returns-else-not-named
returns-else-not-named c = bit_there _ _ c.named.ensures c.if-not-named.false
