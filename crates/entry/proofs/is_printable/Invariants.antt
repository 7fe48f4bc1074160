-- `is_printable`: `good` says whether each byte passed is printable.
use Rattle.std.proofs.Common.{◌≡◌, ◌&&◌, leb, get_or}
use Rattle.digits.specs.Lists.{all}
use Rattle.entry.proofs.is_printable.Given as goal

abbrev pub invariant-loop-b : goal.invariant-loop-b
invariant-loop-b l = l.good ≡ all l.b-index (λ k. leb 0x20 (get_or l.s k 0) && leb (get_or l.s k 0) 0x7E)
