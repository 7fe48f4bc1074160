-- `hexadecimal::put_digits` meets its contract.
use Rattle.hexadecimal.specs.Hexadecimal.{hex_at}
use Rattle.digits.proofs.Lists.{Filled}
use Rattle.hexadecimal.proofs.put_digits.Given as goal

abbrev pub invariant-loop-i : goal.invariant-loop-i
invariant-loop-i l = Filled (hex_at l.s) l.initial.out l.i l.out
