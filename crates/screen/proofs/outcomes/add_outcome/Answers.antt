-- `screen::outcomes::add_outcome` meets its contract.
use Rattle.templates.proofs.Templates.{adds-is}
use Rattle.screen.proofs.Lines.{sent-filled, refused-filled}
use Rattle.screen.specs.Outcomes.{reason}
use Rattle.screen.proofs.outcomes.add_outcome.Goals as goal

pub returns-in-Send : goal.returns-in-Send
returns-in-Send c =
    rw c.in-Send.is (adds-is (sent-filled _ _) (rw c.front.ensures at c.add_filled.ensures))

pub returns-in-Quiet : goal.returns-in-Quiet
returns-in-Quiet c =
    rw c.in-Quiet.is c.add.ensures

pub returns-in-Refused : goal.returns-in-Refused
unfolding reason
returns-in-Refused c =
    rw c.in-Refused.is (adds-is (refused-filled _ _) (rw (c.from.ensures, c.row.ensures, c.from-in-Refused.ensures) at c.add_filled-in-Refused.ensures))
