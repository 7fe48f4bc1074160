-- `contents::take_digits` meets its contract. The loop's invariant: the bytes passed are two digits each, and copied.
use Prim.Native.Nat.{◌*◌}
use lib.ListN.{length, get_or}
use Rattle.digits.specs.Digits.{half_allowed}
use Rattle.digits.proofs.Lists.{Passed, Filled}
use Rattle.contents.proofs.take_digits.Given as goal

abbrev pub invariant-loop-i : goal.invariant-loop-i
invariant-loop-i l = Passed (half_allowed (2 * length l.b) l.b) (2 * l.i) × Filled (λ k. get_or l.b k 0) l.initial.out l.i l.out
