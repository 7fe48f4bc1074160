-- `call_sign_on::sign_on` meets its contract.
use mathlib.Core.Path.{◌≡◌}
use borrow.Author.Rules.{rules}
use lib.ListN.{length}
use Rattle.rules.proofs.Judged.{refuses_by}
use Rattle.call_definitions.specs.SignOn.{sign_on}
use Rattle.call_sign_on.proofs.Results.{is-sent}
use Rattle.call_sign_on.proofs.sign_on.Goals as goal

pub returns-in-Err : goal.returns-in-Err
unfolding sign_on
returns-in-Err c = rw (c.refused.ensures, c.into.ensures) (refuses_by _ _ _ _ _ c.in-Err.ensures)

pub returns : goal.returns
returns c =
    let l : length c.args.s.settings.terminal ≡ 8 = search rules in
    let k : length c.args.s.settings.merchant ≡ 15 = search rules in
    rw c.sends.ensures
    (is-sent c.args.s _ c.in_default.ensures l k _ _ _ _ _ c.take-trace.ensures
    c.sign_on_message-m.ensures c.write_outgoing-n.ensures.0 c.write_outgoing-n.ensures.1 c.asks_sign_on.ensures)
