-- `screen::shows::add_totals` meets its contract.
use Rattle.templates.proofs.Templates.{adds-is}
use Rattle.screen.proofs.Lines.{totals-filled}
use Rattle.screen.proofs.shows.add_totals.Goals as goal

pub returns : goal.returns
returns c = adds-is (totals-filled c.args.t) (rw (c.from.ensures, c.from-2.ensures) at c.add_filled.ensures)
