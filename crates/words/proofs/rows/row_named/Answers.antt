-- `words::rows::row_named` meets its contract.
use Rattle.std.proofs.Common.{arith, sym, ◌∙◌}
use Rattle.words.proofs.Tables.{past_none, past_here, past_more, past_all}
use Rattle.words.proofs.rows.row_named.Goals as goal

pub loop-k-init : goal.loop-k-init
loop-k-init c = past_none _ _ _

pub returns-then-same : goal.returns-then-same
returns-then-same c =
    past_here c.loop-k.invariant (omega arith) (rw (c.word.ensures, c.row.ensures) at (sym c.same.ensures ∙ c.if-same.true))

pub loop-k-preserved : goal.loop-k-preserved
loop-k-preserved c =
    past_more c.loop-k.invariant (omega arith) (rw (c.word.ensures, c.row.ensures) at (sym c.same.ensures ∙ c.if-same.false))

pub returns : goal.returns
returns c = past_all c.loop-k.invariant (omega arith)
