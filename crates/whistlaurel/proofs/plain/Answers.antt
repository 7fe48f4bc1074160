-- `whistlaurel::plain` meets its contract.
use Rattle.whistlaurel.proofs.plain.Goals as goal

pub returns : goal.returns
returns c =
    rw c.nothing_keyed.ensures at c.make.ensures
