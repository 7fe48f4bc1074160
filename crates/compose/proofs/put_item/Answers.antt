-- `compose::put_item` meets its contract.
use Rattle.std.proofs.Common.{arith, sym, ◌∙◌}
use Rattle.compose.proofs.Places.{left_out, not_allowed, count_small, not_in_form, put_fits, put_item}
use Rattle.compose.proofs.put_item.Goals as goal
use Rattle.compose.proofs.put_item.Goals.{else-is_allowed-via-then-is_allowed+else-in_form, else-is_allowed-via-else-is_allowed}

pub overflow_cast-count : goal.overflow_cast-count
overflow_cast-count c =
    let e = sym c.locate.ensures ∙ c.in-Some.is in
    omega (arith, count_small c.args.m.now c.args.n c.args.count c.args.b.now e c.is_allowed.ensures c.if-is_allowed.true)

pub overflow_cast-count-then-in_form : goal.overflow_cast-count-then-in_form
overflow_cast-count-then-in_form c =
    let e = sym c.locate.ensures ∙ c.in-Some.is in
    omega (arith, count_small c.args.m.now c.args.n c.args.count c.args.b.now e c.is_allowed.ensures c.if-is_allowed.true)

pub put-requires : goal.put-requires
put-requires c =
    put_fits c.args.m.now c.args.n c.args.count c.args.b.now (sym c.locate.ensures ∙ c.in-Some.is)
    c.is_allowed.ensures c.in_form.ensures c.if-is_allowed.true c.if-in_form.true

pub returns-then-in_form : goal.returns-then-in_form
returns-then-in_form c =
    put_item c.args.m.now c.args.n c.args.count c.args.b.now (sym c.locate.ensures ∙ c.in-Some.is)
    c.is_allowed.ensures c.in_form.ensures c.if-is_allowed.true c.if-in_form.true c.put.ensures.counted c.put.ensures.held

pub returns-else-is_allowed : goal.returns-else-is_allowed
returns-else-is_allowed c =
    let e = sym c.locate.ensures ∙ c.in-Some.is in
    elim c.else-is_allowed.branch [
      | else-is_allowed-via-then-is_allowed+else-in_form w ↦
          not_in_form c.args.m.now c.args.n c.args.count c.args.b.now e c.is_allowed.ensures w.in_form.ensures w.if-is_allowed.true w.if-in_form.false
      | else-is_allowed-via-else-is_allowed w ↦
          not_allowed c.args.m.now c.args.n c.args.count c.args.b.now e c.is_allowed.ensures w.if-is_allowed.false
    ]

pub returns-in_default : goal.returns-in_default
returns-in_default c = left_out _ _ (sym c.locate.ensures ∙ c.in_default.is)
