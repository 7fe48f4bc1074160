-- `reading::read_fields` meets its contract.
use Rattle.std.proofs.Common.{◌≡◌}
use Rattle.reading.proofs.Fields.{ReadTo, start_of}
use Rattle.reading.proofs.read_fields.Given as goal

abbrev pub invariant-loop-k : goal.invariant-loop-k
invariant-loop-k l =
    ReadTo l.fn.m.bitmap l.s l.k l.at (start_of l.k) l.m.counts l.m.contents × (l.m.indicator ≡ l.fn.m.indicator) × (l.m.bitmap ≡ l.fn.m.bitmap)
