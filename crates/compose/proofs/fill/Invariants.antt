-- `compose::fill` meets its contract.
use lib.ListN.{get_or}
use Rattle.digits.proofs.Lists.{Filled}
use Rattle.compose.proofs.fill.Given as goal

abbrev pub invariant-loop-i : goal.invariant-loop-i
invariant-loop-i l = Filled (λ k. get_or l.b k 0) l.initial.out l.i l.out
