-- `words::after` meets its contract.
use Rattle.std.proofs.Common.{◌≡◌}
use Rattle.words.specs.Words.{after}
use Rattle.words.proofs.after.Given as goal

abbrev pub invariant-loop : goal.invariant-loop
invariant-loop l = l.s ≡ after l.counter l.fn.s
