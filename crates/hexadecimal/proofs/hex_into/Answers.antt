-- `hexadecimal::hex_into` meets its contract.
use Rattle.std.proofs.Common.{arith}
use Rattle.std.proofs.lemmas.Grind.{common_steps}
use Rattle.hexadecimal.specs.Outcome.{hex_outcome}
use Rattle.hexadecimal.proofs.Hexadecimal.{length-from_hex}
use Rattle.hexadecimal.proofs.hex_into.Goals as goal

pub returns : goal.returns
unfolding hex_outcome
returns c = grind (arith, common_steps, length-from_hex)
