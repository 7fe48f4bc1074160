-- `entry_text::add_marks` meets its contract.
use Rattle.templates.proofs.Templates.{adds-is}
use Rattle.entry_text.proofs.Entries.{marks-filled}
use Rattle.entry_text.proofs.add_marks.Goals as goal

pub returns : goal.returns
returns c =
    adds-is (marks-filled c.args.i c.args.e) (rw (
      c.from.ensures,
      c.from-2.ensures,
      c.from-3.ensures,
      c.from-4.ensures,
      c.from-5.ensures,
      c.from-6.ensures,
    ) at c.add_filled.ensures)
