-- `call_reversal::send` meets its contract.
use Rattle.call_reversal.proofs.Sending.{left}
use Rattle.call_reversal.proofs.send.Goals as goal

pub returns : goal.returns
returns c =
    rw c.sends.ensures (left c.args.s _ c.args.v _ _ _ _ c.requires.0 c.requires.1 c.reversal_message-m.ensures
    c.write_outgoing-n.ensures.0
    c.write_outgoing-n.ensures.1 c.in_phase.ensures)
