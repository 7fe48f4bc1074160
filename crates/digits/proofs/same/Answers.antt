-- `same` meets its contract.
use Rattle.digits.proofs.Lists.{same_bytes_from_eq}
use Rattle.digits.proofs.same.Goals as goal

pub returns : goal.returns
returns c = same_bytes_from_eq _ _ _ c.eq.ensures
