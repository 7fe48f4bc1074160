-- `approval::card_of` meets its contract: as many digits are unpacked as the entry says, and are its number.
use Rattle.std.proofs.Common.{arith, ℕ, replicate}
use Rattle.approval.proofs.Fronts.{card_is}
use Rattle.approval.proofs.card_of.Goals as goal

pub returns : goal.returns
returns c =
    card_is c.args.e (replicate {A = ℕ} 255 0) c.from-n.ensures (omega arith) c.unpack_into.ensures c.number_of.ensures c.unwrap_or.ensures
