-- `journal::totals_of` meets its contract.
use native.Mathlib.Omega.{arith}
use Rattle.journal.proofs.Sums.{totals_of-sums}
use Rattle.journal.proofs.totals_of.Goals as goal

pub returns : goal.returns
returns c = totals_of-sums c.args.n _ (omega arith) c.sums_of.ensures c.together.ensures
