-- `are_distinct` meets its contract: entries in order are distinct.
use Rattle.std.proofs.Common.{map, sym, ◌∙◌}
use Rattle.entry.specs.Entry.{decode}
use Rattle.traces.proofs.Ordered.{ordered-distinct}
use Rattle.traces.proofs.are_distinct.Goals as goal

pub returns-then-is_ordered : goal.returns-then-is_ordered
returns-then-is_ordered c =
    let es = map decode c.entries_of-entries.result.now in
    rw (← c.entries_of-entries.ensures) (sym (ordered-distinct es (sym c.is_ordered.ensures ∙ c.if-is_ordered.true)))
