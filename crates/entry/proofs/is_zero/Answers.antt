-- `is_zero` meets its contract.
use Rattle.std.proofs.Common.{rules, ◌∙◌, ℕ, eqb}
use borrow.Author.Tests.{tests}
use Rattle.std.proofs.lemmas.Iterator.{YieldsList-from_slice}
use Rattle.std.proofs.lemmas.Iterator.Search.{all_from_yields_List}
use Rattle.entry.specs.Entry.{all_zero}
use Rattle.entry.proofs.Form.{each_byte}
use Rattle.entry.proofs.is_zero.Goals as goal

pub returns : goal.returns
unfolding all_zero
returns c =
    all_from_yields_List (λ (b : ℕ). eqb b 0) _ _ _ c.all.ensures.ran (YieldsList-from_slice c.args.s.now cc) (λ x b q k. search (rules, tests))
    ∙ each_byte (λ b. eqb b 0) c.args.s.now
