-- `centre::put_trace_figures` meets its contract.
use Rattle.centre.proofs.Sent.{figures_put}
use Rattle.centre.proofs.put_trace_figures.Goals as goal

pub returns : goal.returns
returns c =
    figures_put c.args.m.now c.args.n c.args.sent.now c.args.pairs c.requires c.number_sent.ensures c.put_number.auto.out
    c.put_number.ensures c.put_hex.auto.out c.put_hex.ensures.0 c.put_hex.ensures.1 c.put_bytes.ensures
