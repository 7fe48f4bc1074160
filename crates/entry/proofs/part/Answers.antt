-- `part` meets its contract.
use Rattle.std.proofs.Common.{rules, ◌≡◌, ◌+◌, ◌-◌, arith}
use Rattle.digits.proofs.Copies.{copied_whole}
use Rattle.entry.proofs.part.Goals as goal

pub returns : goal.returns
returns g c =
    let n : c.args.at + g.row.N - c.args.at ≡ g.row.N = omega arith in
    rw n at (copied_whole _ _ c.copy.ensures (search rules))
