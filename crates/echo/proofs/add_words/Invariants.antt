-- `echo::add_words` meets its contract.
use Rattle.echo.proofs.Lines.{Shown}
use Rattle.echo.proofs.add_words.Given as goal

abbrev pub invariant-loop-i : goal.invariant-loop-i
invariant-loop-i l = Shown l.s l.initial.out l.n l.from l.i l.at l.out
