-- `contents::take_printable` meets its contract. The loop's invariant: the bytes passed are printable, and copied.
use mathlib.Core.Bool.{◌&&◌}
use lib.Dec.{leb}
use lib.ListN.{length, get_or}
use Rattle.digits.proofs.Lists.{Passed, Filled}
use Rattle.contents.proofs.take_printable.Given as goal

abbrev pub invariant-loop-i : goal.invariant-loop-i
invariant-loop-i l =
    Passed (λ k. leb 0x20 (get_or l.b k 0) && leb (get_or l.b k 0) 0x7E) l.i × Filled (λ k. get_or l.b k 0) l.initial.out l.i l.out
