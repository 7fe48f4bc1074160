-- `echo::add_masked` meets its contract.
use Rattle.std.proofs.Common.{arith}
use Rattle.echo.proofs.Lines.{masked-adds}
use Rattle.echo.proofs.add_masked.Goals as goal

pub returns : goal.returns
returns c =
    masked-adds _ (omega arith) (omega arith) c.add-at.ensures c.add-next.ensures c.add.ensures
