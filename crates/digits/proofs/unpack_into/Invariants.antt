-- `unpack_into` meets its contract: what is stored so far is the front of the digits.
use Rattle.digits.specs.Digits.{half}
use Rattle.digits.proofs.Lists.{Filled}
use Rattle.digits.proofs.unpack_into.Given as goal

abbrev pub invariant-loop-i : goal.invariant-loop-i
invariant-loop-i l = Filled (half l.s) l.initial.out l.i l.out
