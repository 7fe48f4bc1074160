-- `field::all_listed` meets its contract. The loop's invariant: the eight fields of each byte passed are listed.
use Rattle.std.proofs.Common.{rules, arith, ◌≡◌, sym}
use Rattle.digits.proofs.Lists.{passed_none}
use Rattle.field.specs.Table.{formats}
use Rattle.field.specs.Bitmap.{listed}
use Rattle.field.proofs.Masks.{masks, byte_passes, byte_fails}
use Rattle.field.proofs.all_listed.Goals as goal

pub loop-j-init : goal.loop-j-init
loop-j-init c = passed_none

pub returns-then-bm-j-ne0 : goal.returns-then-bm-j-ne0
unfolding masks formats
returns-then-bm-j-ne0 c =
    sym (byte_fails c.args.bm.now c.loop-j.j (omega arith) c.if-bm-j-ne0.true)

pub loop-j-preserved : goal.loop-j-preserved
unfolding masks formats
loop-j-preserved c = byte_passes c.args.bm.now c.loop-j.j (omega arith) c.loop-j.invariant c.if-bm-j-ne0.false

pub returns : goal.returns
unfolding listed
returns c = let e : c.loop-j.j ≡ 8 = search rules in sym (rw e at c.loop-j.invariant.holds)
