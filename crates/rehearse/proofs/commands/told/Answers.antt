-- `rehearse::commands::told` meets its contract.
use Rattle.std.proofs.Common.{[]}
use Rattle.texts.proofs.Texts.{start}
use Rattle.rehearse.proofs.commands.told.Goals as goal

pub returns : goal.returns
returns c =
    (c.after_call.ensures, c.add_outcome.ensures [] (start _))
