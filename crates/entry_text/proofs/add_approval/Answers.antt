-- `entry_text::add_approval` meets its contract.
use mathlib.Core.List.{[], ◌∷◌}
use Rattle.texts.specs.Text.{text, feed}
use Rattle.texts.proofs.Texts.{and_then}
use Rattle.templates.specs.Template.{meant, taken, filled}
use Rattle.templates.proofs.Templates.{adds-is, and_parts}
use Rattle.entry_text.specs.Entries.{entry_approval}
use Rattle.entry_text.proofs.Entries.{quoted, reference-filled}
use Rattle.entry_text.proofs.add_approval.Goals as goal

pub returns : goal.returns
unfolding filled meant taken entry_approval
returns c =
    let dated = and_then (and_then (and_then c.add-at.ensures c.add_digits-at.ensures) c.add-at-2.ensures) c.add_digits-at-2.ensures in
    and_parts (text " reference ") (quoted c.args.e.reference ∷ feed ∷ [])
    (and_parts (text " authorisation ") (quoted c.args.e.authorisation ∷ []) dated
    c.add_filled-at.ensures)
    (adds-is (reference-filled c.args.e.reference) c.add_filled.ensures)
