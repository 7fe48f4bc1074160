-- `journal::find_original` meets its contract.
use Rattle.journal.proofs.find_original.Goals as goal

pub returns : goal.returns
returns c = rw (c.find.ensures, c.original_kind-kind.ensures)
