-- `writing::put_fields` meets its contract: the fields passed have no fault, and those named are written.
use Rattle.std.proofs.Common.{length}
use Rattle.writing.proofs.Putting.{Putting}
use Rattle.writing.proofs.put_fields.Given as goal

abbrev pub invariant-loop-k : goal.invariant-loop-k
invariant-loop-k l = Putting l.m.bitmap l.m.counts l.m.contents (length l.initial.out) l.k l.at l.out
