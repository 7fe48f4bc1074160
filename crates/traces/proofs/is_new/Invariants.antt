-- `is_new`: `new` says whether each number passed is another.
use Rattle.std.proofs.Common.{◌≡◌, not, eqb, get_or}
use Rattle.digits.specs.Lists.{all}
use Rattle.traces.proofs.is_new.Given as goal

abbrev pub invariant-loop-x : goal.invariant-loop-x
invariant-loop-x l = l.new ≡ all l.x-index (λ k. not (eqb (get_or l.seen k 0) l.t))
