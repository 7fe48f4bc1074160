-- `masking::put_symbols` meets its contract.
use Rattle.masking.specs.Masking.{digits_text}
use Rattle.digits.proofs.Lists.{filled_none, filled_more, filled-done}
use borrow.Author.Rules.{rules}
use Rattle.masking.proofs.put_symbols.Goals as goal

pub loop-i-init : goal.loop-i-init
loop-i-init c = filled_none _ _

pub loop-i-preserved : goal.loop-i-preserved
loop-i-preserved c =
    filled_more c.loop-i.invariant (search rules) c.symbol_at.ensures

pub returns : goal.returns
unfolding digits_text
returns c = filled-done c.loop-i.invariant (search rules)
