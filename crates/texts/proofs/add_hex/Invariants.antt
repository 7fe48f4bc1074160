-- `texts::add_hex` meets its contract.
use Rattle.std.proofs.Common.{take}
use Rattle.hexadecimal.specs.Hexadecimal.{to_hex}
use Rattle.texts.specs.Text.{Adds}
use Rattle.texts.proofs.add_hex.Given as goal

abbrev pub invariant-loop-b : goal.invariant-loop-b
invariant-loop-b l = Adds (to_hex (take l.b-index l.s)) l.n l.initial.out l.at l.out
