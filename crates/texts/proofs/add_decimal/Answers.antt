-- `texts::add_decimal` meets its contract.
use native.Mathlib.Omega.{arith}
use Rattle.texts.proofs.Decimal.{decimal-is}
use Rattle.texts.proofs.add_decimal.Goals as goal

pub returns : goal.returns
returns c =
    rw (← decimal-is c.decimal-k.result c.args.x (omega arith) c.decimal-k.ensures.len, ← c.decimal-k.ensures.digits) c.add.ensures
