-- `screen::shows::add_journal` meets its contract.
use Rattle.std.proofs.Common.{◌≡◌, length}
use Rattle.texts.specs.Text.{Adds}
use Rattle.journal.specs.Journal.{entries_of}
use Rattle.screen.specs.Shows.{entry_lines}
use Rattle.screen.proofs.shows.add_journal.Given as goal

abbrev pub invariant-loop-i : goal.invariant-loop-i
invariant-loop-i l = (length l.out ≡ length l.initial.out) × Adds (entry_lines l.i (entries_of l.entries l.journal)) l.n l.initial.out l.at l.out
