-- `screen::shows::add_message` meets its contract.
use Rattle.std.proofs.Common.{sym, ◌∙◌}
use Rattle.templates.specs.Template.{meant, taken, filled}
use Rattle.screen.specs.Shows.{message_line}
use Rattle.screen.proofs.shows.add_message.Goals as goal

pub returns-then-is_empty : goal.returns-then-is_empty
unfolding message_line
returns-then-is_empty c = rw (sym c.is_empty.ensures ∙ c.if-is_empty.true) c.add.ensures

pub returns : goal.returns
unfolding message_line filled meant taken
returns c = rw (sym c.is_empty.ensures ∙ c.if-is_empty.false) c.add_filled.ensures
