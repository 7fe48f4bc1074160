-- `whistlaurel::whistlaurel_fresh` meets its contract.
use borrow.Author.Rules.{rules}
use Rattle.interface_definitions.proofs.Leaves.{no_room, fresh_put}
use Rattle.whistlaurel.proofs.whistlaurel_fresh.Goals as goal

pub returns-then-image-ne-SIZE : goal.returns-then-image-ne-SIZE
returns-then-image-ne-SIZE c = rw c.into.ensures (no_room _ _ c.if-image-ne-SIZE.true)

pub returns : goal.returns
returns c =
    fresh_put _ _ (search rules) c.new.ensures c.put_image.ensures
