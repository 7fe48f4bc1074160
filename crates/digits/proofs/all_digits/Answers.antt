-- `all_digits` meets its contract.
use Rattle.std.specs.Prelude.{leb}
use borrow.Author.Rules.{rules}
use borrow.Author.Tests.{tests}
use Rattle.digits.specs.Digits.{all_digits}
use Rattle.std.proofs.lemmas.Iterator.{YieldsList-from_slice}
use Rattle.digits.proofs.Iterated.{all_places}
use Rattle.digits.proofs.all_digits.Goals as goal

pub returns : goal.returns
unfolding all_digits
returns c = all_places (λ d. leb d 9) _ _ _ c.all.ensures.ran (YieldsList-from_slice c.args.ds.now cc) (λ x b q k. search (rules, tests))
