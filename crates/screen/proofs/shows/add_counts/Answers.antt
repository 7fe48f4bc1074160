-- `screen::shows::add_counts` meets its contract.
use Rattle.state_rules.specs.StateRules.{waiting}
use Rattle.templates.proofs.Templates.{adds-is}
use Rattle.screen.proofs.Lines.{counts-filled}
use Rattle.screen.proofs.shows.add_counts.Goals as goal

pub returns : goal.returns
returns c =
    adds-is (counts-filled c.args.c (waiting c.args.phase)) (rw (
      c.from.ensures,
      c.from-2.ensures,
      c.from-3.ensures,
      c.from-4.ensures,
      c.from-5.ensures,
      c.from-6.ensures,
      c.waiting_in.ensures.0,
    ) at c.add_filled.ensures)
