-- `lines::shows::add_fault` meets its contract.
use mathlib.Core.List.{[]}
use Rattle.texts.proofs.Texts.{start}
use Rattle.lines.proofs.shows.add_fault.Goals as goal

pub returns-in-Unknown : goal.returns-in-Unknown
returns-in-Unknown c =
    rw c.in-Unknown.is (c.add_error.ensures [] (start _))

pub returns-in-Count : goal.returns-in-Count
returns-in-Count c =
    rw c.in-Count.is (c.add_error-in-Count.ensures [] (start _))

pub returns-in-Word : goal.returns-in-Word
returns-in-Word c =
    rw c.in-Word.is c.add_word_fault.ensures
