-- `masking::add_digits` meets its contract.
use Rattle.std.proofs.Common.{◌≡◌, replicate, arith, rules}
use Rattle.masking.proofs.Symbols.{front-is}
use Rattle.masking.proofs.add_digits.Goals as goal

pub returns : goal.returns
returns c =
    let e : c.from-end.result ≡ c.args.n = search rules in
    rw (front-is c.args.card c.from-end.result _ _ (replicate 255 0) (omega arith) c.put_symbols.ensures, e) at c.add.ensures
