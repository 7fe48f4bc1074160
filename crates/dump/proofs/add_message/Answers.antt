-- `dump::add_message` meets its contract.
use Rattle.texts.proofs.Texts.{and_then}
use Rattle.dump.specs.Shown.{message_text}
use Rattle.dump.proofs.add_message.Goals as goal

pub returns : goal.returns
unfolding message_text
returns c = and_then (and_then c.add_type-end.ensures c.add_lines-end.ensures) c.add_end.ensures
