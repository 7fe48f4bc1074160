-- `journal::is_asked` meets its contract.
use Rattle.entry.specs.Entry.{decode}
use Rattle.journal.specs.Journal.{has_trace, is_original, due_with}
use Rattle.journal.proofs.is_asked.Goals as goal

pub returns-in-Trace : goal.returns-in-Trace
unfolding has_trace
returns-in-Trace c = rw (c.in-Trace.is, c.trace_of.ensures)

pub returns-in-Original : goal.returns-in-Original
unfolding has_trace is_original decode
returns-in-Original c = rw (c.in-Original.is, c.trace_of-in-Original.ensures)

pub returns-in-Due : goal.returns-in-Due
unfolding due_with decode
returns-in-Due c = rw (c.in-Due.is, c.is_due.ensures)
