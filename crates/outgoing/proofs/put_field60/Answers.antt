-- `outgoing::put_field60` meets its contract.
use Rattle.std.proofs.Common.{refl}
use Rattle.digits.specs.Digits.{all_digits}
use Rattle.outgoing.proofs.put_field60.Goals as goal

pub put_codes-requires : goal.put_codes-requires
unfolding all_digits
put_codes-requires c = (refl, refl)
