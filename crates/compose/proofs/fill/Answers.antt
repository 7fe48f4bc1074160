-- `compose::fill` meets its contract.
use Rattle.std.proofs.Common.{rules, arith, ◌≡◌, get_or, ◌∙◌}
use Rattle.digits.proofs.Lists.{filled_more, filled-done}
use Rattle.compose.proofs.Places.{padded-is}
use Rattle.compose.proofs.fill.Goals as goal

pub loop-i-preserved : goal.loop-i-preserved
loop-i-preserved c =
    let h : c.unwrap_or.result ≡ get_or c.args.b.now c.loop-i.i 0 = search rules in
    filled_more c.loop-i.invariant (omega arith) h

pub returns : goal.returns
returns c = filled-done c.loop-i.invariant (omega arith) ∙ padded-is _ c.args.b.now c.requires
