-- `call_upload::leave_next` meets its contract.
use mathlib.Core.Path.{◌≡◌}
use borrow.Author.Rules.{rules}
use lib.ListN.{length}
use Rattle.call_upload.proofs.Sending.{resends_low, item_fields_lem, end_fields_lem, room, item-next, end_next}
use Rattle.call_upload.proofs.send_next.Goals as goal

pub send_item-requires : goal.send_item-requires
send_item-requires c =
    let l : length c.args.s.settings.terminal ≡ 8 = search rules in
    let k : length c.args.s.settings.merchant ≡ 15 = search rules in (
      resends_low c.args.s _ c.requires _ _ _ c.next_due.ensures c.in-Some.is c.entry_at-e.ensures,
      (item_fields_lem c.args.s _ c.requires l k _ _ _ c.next_due.ensures c.in-Some.is c.entry_at-e.ensures, room c.args.s _ c.requires),
    )

pub send_end-requires : goal.send_end-requires
send_end-requires c =
    let l : length c.args.s.settings.terminal ≡ 8 = search rules in
    let k : length c.args.s.settings.merchant ≡ 15 = search rules in
    (end_fields_lem c.args.s _ c.requires l k _, room c.args.s _ c.requires)

pub returns-in-Some : goal.returns-in-Some
returns-in-Some c =
    item-next c.args.s _ _ _ _ _ _ c.next_due.ensures c.in-Some.is c.entry_at-e.ensures c.send_item.ensures

pub returns-in-None : goal.returns-in-None
returns-in-None c =
    end_next c.args.s _ _ _ _ _ c.next_due.ensures c.in-None.is c.take-trace.ensures c.send_end.ensures
