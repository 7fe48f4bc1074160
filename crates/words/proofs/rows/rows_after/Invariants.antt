-- `words::rows::rows_after` meets its contract.
use Rattle.std.proofs.Common.{◌≡◌}
use Rattle.words.specs.Rows.{rows_after}
use Rattle.words.proofs.rows.rows_after.Given as goal

abbrev pub invariant-loop : goal.invariant-loop
invariant-loop l = l.t ≡ rows_after l.counter l.fn.t
