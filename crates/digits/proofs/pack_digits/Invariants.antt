-- `pack_digits` meets its contract: what is stored so far is the front of the packed bytes.
use Rattle.digits.specs.Digits.{packed_byte}
use Rattle.digits.proofs.Lists.{Filled}
use Rattle.digits.proofs.pack_digits.Given as goal

abbrev pub invariant-loop-j : goal.invariant-loop-j
invariant-loop-j l = Filled (packed_byte l.ds) l.initial.out l.j l.out
