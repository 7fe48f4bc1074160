-- `centre::put_field48` meets its contract.
use Rattle.std.proofs.Common.{ℕ, List, [], ◌∷◌}
use Rattle.parts.specs.declared.Part.TheVariants.{DebitAmount, DebitCount, CreditAmount, CreditCount}
use Rattle.compose.proofs.Laid.{laid_put}
use Rattle.centre_totals.specs.Totals.{sent_part}
use Rattle.centre.proofs.put_field48.Goals as goal

pub returns : goal.returns
returns c =
    let xs : List ℕ = sent_part DebitAmount c.args.sent.now ∷ sent_part DebitCount c.args.sent.now ∷ sent_part CreditAmount c.args.sent.now ∷
    sent_part CreditCount c.args.sent.now ∷ c.args.digit ∷ [] in
    laid_put c.args.m.now 48 xs c.field48_with.ensures c.put_digits.ensures
