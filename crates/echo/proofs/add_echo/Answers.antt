-- `echo::add_echo` meets its contract.
use Rattle.texts.proofs.Texts.{and_then}
use Rattle.echo.specs.Echo.{echo_line}
use Rattle.echo.proofs.add_echo.Goals as goal

pub returns : goal.returns
unfolding echo_line
returns c =
    and_then (and_then c.add-from.ensures c.add_words-end.ensures) c.add.ensures
