-- `texts::add` meets its contract.
use Rattle.std.proofs.Common.{rules, arith}
use Rattle.digits.proofs.Copies.{copied_whole}
use Rattle.texts.proofs.Texts.{adds-copied}
use Rattle.texts.proofs.add.Goals as goal

pub returns : goal.returns
returns c =
    adds-copied _ _ _ _ c.if-out-n.false (omega (arith, c.min-k.ensures)) _ (copied_whole _ _ c.copy.ensures (search rules))
