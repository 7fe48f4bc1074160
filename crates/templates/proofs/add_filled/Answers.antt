-- `templates::add_filled` meets its contract.
use Rattle.std.proofs.Common.{◌≡◌, get_or, arith, rules}
use Rattle.templates.proofs.Templates.{filled_none, filled_more, filled-done}
use Rattle.templates.proofs.add_filled.Goals as goal

pub loop-c-init : goal.loop-c-init
loop-c-init c = filled_none _ _ _ _ _

pub loop-c-preserved : goal.loop-c-preserved
loop-c-preserved c =
    let v : c.unwrap_or-value.result ≡ get_or c.args.values.now c.loop-c.k 0 = search rules in
    filled_more c.loop-c.invariant (omega arith) c.taken-k.ensures.0 c.taken-k.ensures.1 (search rules) (rw v at c.add_meant-at.ensures)

pub returns : goal.returns
returns c = filled-done c.loop-c.invariant (omega arith)
