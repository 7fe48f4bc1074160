-- `words::scan::find` meets its contract.
use Rattle.std.proofs.Common.{eqb, rules}
use Rattle.std.proofs.lemmas.Iterator.{YieldsList-from_slice}
use Rattle.std.proofs.lemmas.Iterator.Search.{position_from_yields_List}
use borrow.Author.Tests.{tests}
use Rattle.words.proofs.Places.{index_of-found}
use Rattle.words.proofs.scan.find.Goals as goal

pub returns : goal.returns
returns c =
    rw c.unwrap_or.ensures
    (index_of-found c.args.b c.args.s.now c.position.result
    (position_from_yields_List (λ x. eqb x c.args.b) _ _ _ c.position.ensures.ran (YieldsList-from_slice c.args.s.now cc) (λ x b q k. search (rules, tests))))
