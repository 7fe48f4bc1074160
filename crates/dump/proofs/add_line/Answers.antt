-- `dump::add_line` meets its contract.
use Rattle.texts.proofs.Texts.{and_then}
use Rattle.templates.specs.Template.{meant, taken, filled}
use Rattle.dump.specs.Shown.{field_line}
use Rattle.dump.proofs.add_line.Goals as goal

pub returns : goal.returns
unfolding filled meant taken field_line
returns c = and_then (and_then (rw c.from.ensures at c.add_filled-end.ensures) c.add_contents-end.ensures) c.add.ensures
