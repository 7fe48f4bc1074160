-- `entry_text::add_entry` meets its contract.
use mathlib.Core.List.{[], ◌∷◌}
use Rattle.texts.specs.Text.{feed}
use Rattle.templates.proofs.Templates.{and_parts}
use Rattle.entry_text.specs.Entries.{entry_approval, entry_line}
use Rattle.entry_text.proofs.add_entry.Goals as goal

pub returns : goal.returns
unfolding entry_line
returns c =
    and_parts (entry_approval c.args.e) (feed ∷ []) c.add_marks-at.ensures c.add_approval.ensures
