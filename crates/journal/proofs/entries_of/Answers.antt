-- `journal::entries_of` meets its contract.
use Rattle.std.proofs.Common.{◌∙◌, ap, ℕ, min, length}
use Rattle.journal.proofs.Chunks.{chunks-entries}
use Rattle.journal.proofs.entries_of.Goals as goal

pub returns : goal.returns
returns c =
    chunks-entries c.args.n c.args.journal.now c.as_chunks.ensures.front
    (c.min.ensures ∙ ap (λ (n : ℕ). min (length c.as_chunks.result.0.now) n) c.from.ensures)
