-- `centre::put_bytes_sent` meets its contract.
use Rattle.centre.proofs.Sent.{bytes_put}
use Rattle.centre.proofs.put_bytes_sent.Goals as goal

pub returns : goal.returns
returns c =
    bytes_put c.args.m.now c.args.n c.args.sent.now c.args.count c.requires c.field_into.auto.out c.field_into.ensures.1 c.put_bytes.ensures
