-- `call_start::send` meets its contract: the message is the request's, and is written.
use Rattle.call_start.proofs.Results.{leaves}
use Rattle.call_start.proofs.send.Goals as goal

pub returns : goal.returns
returns c =
    rw c.sends.ensures
    (leaves c.args.s c.args.chip c.args.q c.args.o c.args.message.now c.requires _ _ _ _ c.request_message-m.ensures
    c.write_outgoing-n.ensures.0 c.write_outgoing-n.ensures.1 (c.requested.ensures c.requires.counts))
