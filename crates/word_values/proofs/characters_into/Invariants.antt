-- `word_values::characters_into` meets its contract.
use Rattle.std.proofs.Common.{get_or}
use Rattle.digits.proofs.Lists.{Filled}
use Rattle.word_values.specs.Values.{character}
use Rattle.word_values.proofs.characters_into.Given as goal

abbrev pub invariant-loop-i : goal.invariant-loop-i
invariant-loop-i l = Filled (λ k. character (get_or l.w k 0)) l.initial.out l.i l.out
