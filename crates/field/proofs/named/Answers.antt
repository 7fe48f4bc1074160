-- `field::named` meets its contract.
use mathlib.Core.Path.{◌≡◌, sym}
use mathlib.Core.Bool.{and-false}
use Prim.Native.Nat.{◌-◌}
use borrow.Author.Rules.{rules}
use borrow.Author.Tests.{lt-ltb}
use native.Mathlib.Omega.{arith}
use lib.Dec.{ltb}
use lib.ListN.{length}
use Rattle.field.specs.Bitmap.{names, bit}
use Rattle.field.proofs.Masks.{bit_past}
use Rattle.field.proofs.named.Goals as goal

pub returns-then-n-eq0 : goal.returns-then-n-eq0
unfolding names
returns-then-n-eq0 c = rw c.if-n-eq0.true

pub returns-then-n-gt64 : goal.returns-then-n-gt64
unfolding names
returns-then-n-gt64 c =
    let l : length c.args.bm.now ≡ 8 = search rules in
    rw (bit_past c.args.bm.now (c.args.n - 1) (omega arith)) (sym (and-false (ltb 0 c.args.n)))

pub returns : goal.returns
unfolding names bit
returns c =
    rw (c.from-i.ensures, lt-ltb 0 c.args.n (omega arith))
