-- `outgoing::put_codes` meets its contract.
use Rattle.std.proofs.Common.{ℕ, List, [], ◌∷◌}
use Rattle.outgoing.proofs.Codes.{codes_put}
use Rattle.outgoing.proofs.put_codes.Goals as goal

pub returns : goal.returns
returns c =
    let xs : List ℕ = c.args.kind ∷ c.args.batch.0 ∷ c.args.code ∷ [] in
    codes_put c.args.m.now xs c.args.ds.now c.requires.0 c.requires.1
    (rw (c.put_part-2.ensures, c.put_part.ensures, c.from.ensures, c.from-2.ensures) at c.put_part-3.ensures) c.put_digits.ensures
