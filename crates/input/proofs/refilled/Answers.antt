-- `input::refilled` meets its contract.
use Rattle.std.proofs.Common.{arith}
use Rattle.input.proofs.Feeds.{left-read}
use Rattle.input.proofs.refilled.Goals as goal

pub returns : goal.returns
returns c =
    left-read _ _ _ _ (λ h e. grind arith) (record { ordered = omega arith; ends = c.read_some.ensures })
