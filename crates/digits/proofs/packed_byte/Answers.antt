-- `packed_byte` meets its contract: two digits fit one byte.
use Rattle.std.proofs.Common.{arith, rules, ◌≡◌, get_or, ◌+◌, ◌*◌}
use Rattle.digits.specs.Digits.{packed_byte}
use Rattle.digits.proofs.Packing.{digit_at}
use Rattle.digits.proofs.packed_byte.Goals as goal

pub overflow_mul-result : goal.overflow_mul-result
overflow_mul-result c = omega (arith, digit_at _ c.requires.1 (2 * c.args.j))

pub overflow_add-result : goal.overflow_add-result
overflow_add-result c =
    let h : c.unwrap_or.result ≡ get_or c.args.ds.now (2 * c.args.j + 1) 0 = search rules in
    omega (arith, h, digit_at _ c.requires.1 (2 * c.args.j), digit_at _ c.requires.1 (2 * c.args.j + 1))

pub returns : goal.returns
unfolding packed_byte
returns c =
    let h : c.unwrap_or.result ≡ get_or c.args.ds.now (2 * c.args.j + 1) 0 = search rules in
    rw h
