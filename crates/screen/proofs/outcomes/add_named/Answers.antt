-- `screen::outcomes::add_named` meets its contract.
use Rattle.texts.proofs.Texts.{and_then}
use Rattle.screen.proofs.outcomes.add_named.Goals as goal

pub returns : goal.returns
returns c =
    and_then c.add-at.ensures c.add_decimal.ensures
