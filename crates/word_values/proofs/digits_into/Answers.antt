-- `word_values::digits_into` meets its contract.
use Rattle.std.proofs.Common.{rules}
use Rattle.digits.proofs.Lists.{filled_none, filled_more, filled-done}
use Rattle.word_values.proofs.digits_into.Goals as goal

pub loop-i-init : goal.loop-i-init
loop-i-init c = filled_none _ _

pub loop-i-preserved : goal.loop-i-preserved
loop-i-preserved c = filled_more c.loop-i.invariant (search rules) c.digit_of.ensures

pub returns : goal.returns
returns c = rw (← c.requires) (filled-done c.loop-i.invariant (search rules))
