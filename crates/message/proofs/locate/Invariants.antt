-- `message::locate` meets its contract: the field is not in the rows passed.
use Rattle.message.proofs.Standing.{Sought}
use Rattle.message.proofs.locate.Given as goal

abbrev pub invariant-loop-row : goal.invariant-loop-row
invariant-loop-row l = Sought l.n l.row
