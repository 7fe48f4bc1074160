-- `field::all_printable` meets its contract.
use Rattle.std.proofs.Common.{rules, leb, ◌&&◌}
use Rattle.std.proofs.lemmas.Iterator.{YieldsList-from_slice}
use borrow.Author.Tests.{tests}
use Rattle.digits.proofs.Iterated.{all_places}
use Rattle.field.specs.Contents.{all_printable}
use Rattle.field.proofs.all_printable.Goals as goal

pub returns : goal.returns
unfolding all_printable
returns c =
    all_places (λ b. leb 0x20 b && leb b 0x7E) _ _ _ c.all.ensures.ran (YieldsList-from_slice c.args.s.now cc) (λ x b q k. search (rules, tests))
