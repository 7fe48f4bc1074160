-- `field::all_listed` meets its contract. The loop's invariant: the eight fields of each byte passed are listed.
use Rattle.std.proofs.Common.{◌*◌}
use Rattle.digits.proofs.Lists.{Passed}
use Rattle.field.specs.Bitmap.{listed_at}
use Rattle.field.proofs.all_listed.Given as goal

abbrev pub invariant-loop-j : goal.invariant-loop-j
invariant-loop-j l = Passed (listed_at l.bm) (8 * l.j)
