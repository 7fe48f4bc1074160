-- `call_upload::send_item` meets its contract.
use Rattle.call_upload.proofs.Sending.{item-left}
use Rattle.call_upload.proofs.send_item.Goals as goal

pub returns : goal.returns
returns c =
    rw c.sends.ensures
    (item-left c.args.s _ _ c.args.e _ _ _ _ _ c.requires.1.0 c.requires.1.1 c.item_message-m.ensures
    c.write_outgoing-n.ensures.0 c.write_outgoing-n.ensures.1 (c.resend.ensures c.requires.0) c.in_phase.ensures)
