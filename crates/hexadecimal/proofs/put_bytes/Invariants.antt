-- `hexadecimal::put_bytes` meets its contract.
use Rattle.hexadecimal.proofs.Hexadecimal.{byte_at}
use Rattle.digits.proofs.Lists.{Filled}
use Rattle.hexadecimal.proofs.put_bytes.Given as goal

abbrev pub invariant-loop-j : goal.invariant-loop-j
invariant-loop-j l = Filled (byte_at l.s) l.initial.out l.j l.out
