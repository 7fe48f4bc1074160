-- `lines::shows::show` meets its contract.
use Rattle.std.proofs.Common.{[]}
use Rattle.texts.proofs.Texts.{start}
use Rattle.lines.proofs.shows.show.Goals as goal

pub returns-in-Counts : goal.returns-in-Counts
returns-in-Counts c = rw c.in-Counts.is (c.add_counts.ensures [] (start _))

pub returns-in-Totals : goal.returns-in-Totals
returns-in-Totals c = rw c.in-Totals.is (c.add_totals.ensures [] (start _))

pub returns-in-State : goal.returns-in-State
returns-in-State c = rw c.in-State.is (c.add_state.ensures [] (start _))

pub returns-in-Journal : goal.returns-in-Journal
returns-in-Journal c = rw c.in-Journal.is (c.add_journal.ensures [] (start _))

pub returns-in-Message : goal.returns-in-Message
returns-in-Message c = rw c.in-Message.is (rw c.last.ensures at (c.add_message.ensures [] (start _)))
