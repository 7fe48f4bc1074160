-- `echo::add_words` meets its contract.
use Rattle.std.proofs.Common.{arith}
use Rattle.echo.proofs.Lines.{shown-none, shown-more, shown-all}
use Rattle.echo.proofs.add_words.Goals as goal

pub loop-i-init : goal.loop-i-init
loop-i-init c = shown-none _ _ _

pub loop-i-preserved : goal.loop-i-preserved
loop-i-preserved c = rw c.start_after-from.ensures (shown-more c.loop-i.invariant (omega arith) c.add_ended-at.ensures)

pub returns : goal.returns
returns c = shown-all c.loop-i.invariant (omega arith) c.add_word.ensures
