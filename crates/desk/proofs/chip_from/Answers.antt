-- `desk::chip_from` meets its contract.
use Rattle.desk.proofs.Chips.{chip_sent}
use Rattle.desk.proofs.chip_from.Goals as goal

pub returns-then-sends_field55 : goal.returns-then-sends_field55
returns-then-sends_field55 c =
    λ h. chip_sent c.args.d c.args.chip.now
    c.sends_field55.ensures c.chip_of.ensures c.if-sends_field55.true h
