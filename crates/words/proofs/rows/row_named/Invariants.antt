-- `words::rows::row_named` meets its contract.
use Rattle.words.proofs.Tables.{Past}
use Rattle.words.proofs.rows.row_named.Given as goal

abbrev pub invariant-loop-k : goal.invariant-loop-k
invariant-loop-k l = Past l.n l.w l.t l.k
