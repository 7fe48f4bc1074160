-- `centre_totals::field48_with` meets its contract.
use Rattle.std.proofs.Common.{ℕ, List, [], ◌∷◌}
use Rattle.parts.specs.Layout.{widths}
use Rattle.parts.specs.declared.Part.TheVariants.{DebitAmount, DebitCount, CreditAmount, CreditCount}
use Rattle.parts.proofs.Laid.{put_laid}
use Rattle.centre_totals.specs.Totals.{sent_part}
use Rattle.centre_totals.proofs.field48_with.Goals as goal

pub returns : goal.returns
returns c =
    let xs : List ℕ = sent_part DebitAmount c.args.sent.now ∷ sent_part DebitCount c.args.sent.now ∷ sent_part CreditAmount c.args.sent.now ∷
    sent_part CreditCount c.args.sent.now ∷ c.args.digit ∷ [] in
    put_laid (widths 48) xs
    (rw (c.put_sent-4.ensures, c.put_sent-3.ensures, c.put_sent-2.ensures, c.put_sent.ensures, c.from.ensures) at c.put_part.ensures)
