-- `journal::entry_at` meets its contract.
use Rattle.std.proofs.Common.{sym, ◌∙◌, ap}
use Rattle.entry.specs.Entry.{decode}
use Rattle.journal.proofs.Chunks.{entry-here, entry-past}
use Rattle.journal.proofs.entry_at.Goals as goal

pub returns-in-Some : goal.returns-in-Some
returns-in-Some c =
    let h = c.in-Some.ensures.lookup in
    rw (c.entry_of.ensures, ← c.entries_of.ensures, ← c.from.ensures)
    (ap decode h.1 ∙ sym (entry-here c.entries_of.result.now c.from.result c.in-Some.b.now h.3.0))

pub returns-in-None : goal.returns-in-None
returns-in-None c =
    rw (c.blank.ensures, ← c.entries_of.ensures, ← c.from.ensures) (sym (entry-past c.entries_of.result.now c.from.result c.in-None.ensures.lookup.3))
