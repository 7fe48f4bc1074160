-- `echo::add_ended` meets its contract.
use Rattle.std.proofs.Common.{eq-eqb}
use Rattle.texts.proofs.Texts.{and_then}
use Rattle.echo.specs.Echo.{ended_word}
use Rattle.echo.proofs.add_ended.Goals as goal

pub returns : goal.returns
unfolding ended_word
returns c =
    rw (eq-eqb _ _ c.if-s-i-ne32.false) (and_then c.add_word-at.ensures c.add.ensures)
