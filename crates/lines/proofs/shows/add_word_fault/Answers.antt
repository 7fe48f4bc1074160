-- `lines::shows::add_word_fault` meets its contract.
use mathlib.Core.List.{[]}
use Rattle.texts.proofs.Texts.{start}
use Rattle.lines.proofs.Laws.{word_fault}
use Rattle.lines.proofs.shows.add_word_fault.Goals as goal

pub returns : goal.returns
returns c =
    word_fault c.args.number c.args.k (c.add.ensures _ (rw c.from.ensures at c.add_named-next.ensures _
    (c.add_named-at.ensures [] (start _))))
