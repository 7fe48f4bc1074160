-- `call_upload::leave_end` meets its contract.
use Rattle.call_upload.proofs.Sending.{end_left}
use Rattle.call_upload.proofs.send_end.Goals as goal

pub returns : goal.returns
returns c =
    rw c.sends.ensures
    (end_left c.args.s _ c.args.trace _ _ _ _ c.requires.0 c.requires.1 c.end_message-m.ensures c.write_outgoing-n.ensures.0
    c.write_outgoing-n.ensures.1 c.ending.ensures)
