-- `batch_messages::put_field48` meets its contract.
use Rattle.std.proofs.Common.{ℕ, List, [], ◌∷◌}
use Rattle.compose.proofs.Laid.{parts_put}
use Rattle.batch_messages.proofs.put_field48.Goals as goal

pub returns : goal.returns
returns c =
    let xs : List ℕ = c.args.t.debit ∷ c.args.t.debits ∷ c.args.t.credit ∷ c.args.t.credits ∷ [] in
    parts_put c.args.m.now 48 xs
    (rw (c.put_part-3.ensures, c.put_part-2.ensures, c.put_part.ensures, c.from.ensures, c.from-2.ensures) at c.put_part-4.ensures)
    c.put_digits.ensures
