-- `half_at` meets its contract.
use Rattle.std.proofs.Common.{rules, sym, ◌≡◌, get_or, ◌/◌}
use Rattle.digits.proofs.Packing.{half_even, half_odd}
use Rattle.digits.proofs.half_at.Goals as goal

pub returns-then-i-eq0 : goal.returns-then-i-eq0
returns-then-i-eq0 c =
    let h : c.unwrap_or-b.result ≡ get_or c.args.s.now (c.args.i / 2) 0 = search rules in
    rw h (sym (half_even _ _ c.if-i-eq0.true))

pub returns-else-i-eq0 : goal.returns-else-i-eq0
returns-else-i-eq0 c =
    let h : c.unwrap_or-b.result ≡ get_or c.args.s.now (c.args.i / 2) 0 = search rules in
    rw h (sym (half_odd _ _ c.if-i-eq0.false))
