-- `outgoing::put_field61` meets its contract.
use Rattle.std.proofs.Common.{ℕ, List, [], ◌∷◌}
use Rattle.compose.proofs.Laid.{parts_put}
use Rattle.outgoing.proofs.put_field61.Goals as goal

pub returns : goal.returns
returns c =
    let xs : List ℕ = c.args.o.batch.0 ∷ c.args.o.trace.0 ∷ c.args.o.date ∷ [] in
    parts_put c.args.m.now 61 xs
    (rw (c.put_part-2.ensures, c.put_part.ensures, c.from.ensures, c.from-2.ensures, c.from-3.ensures) at c.put_part-3.ensures) c.put_digits.ensures
