-- `masking::put_symbols` meets its contract.
use Rattle.std.proofs.Common.{length}
use Rattle.digits.proofs.Lists.{Filled}
use Rattle.masking.specs.Masking.{symbol}
use Rattle.masking.proofs.put_symbols.Given as goal

abbrev pub invariant-loop-i : goal.invariant-loop-i
invariant-loop-i l = Filled (symbol l.card (length l.initial.out) l.b) l.initial.out l.i l.out
