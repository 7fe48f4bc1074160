-- `call_reversal::send_reversal` meets its contract.
use mathlib.Core.Path.{◌≡◌}
use borrow.Author.Rules.{rules}
use lib.ListN.{length}
use Rattle.call_reversal.proofs.Sending.{turned_down, few, held, room, nothing-pending, goes_out}
use Rattle.call_reversal.proofs.send_reversal.Goals as goal

pub returns-in-Err : goal.returns-in-Err
returns-in-Err c = rw (c.refused.ensures, c.into.ensures) (turned_down c.args.s _ _ c.in-Err.ensures)

pub returns-in_default-phase : goal.returns-in_default-phase
returns-in_default-phase c =
    rw (c.refused-in_default-phase.ensures, c.into-in_default-phase.ensures)
    (nothing-pending c.args.s _ c.in_default.ensures c.in_default-phase.not-Pending)

pub send-requires : goal.send-requires
send-requires c =
    let l : length c.args.s.settings.terminal ≡ 8 = search rules in
    let k : length c.args.s.settings.merchant ≡ 15 = search rules in (
      held c.args.s _ c.in_default.ensures _ c.in-Pending.is _ (c.again.ensures (few c.args.s _ c.in_default.ensures _ c.in-Pending.is)) l k,
      room c.args.s _ c.in_default.ensures,
    )

pub returns : goal.returns
returns c =
    goes_out c.args.s _ c.in_default.ensures _ c.in-Pending.is _ _ _
    (c.again.ensures (few c.args.s _ c.in_default.ensures _ c.in-Pending.is)) c.send.ensures
