-- `whistlaurel::make` meets its contract.
use Rattle.state.specs.Calls.{lend}
use Rattle.call_definitions.specs.Events.{event_of}
use Rattle.interface_definitions.proofs.Leaves.{image_long, not_called, called}
use Rattle.whistlaurel.proofs.make.Goals as goal

pub put_image-requires : goal.put_image-requires
put_image-requires c = image_long _ c.read.ensures c.in-Some.is

pub returns-in-None : goal.returns-in-None
returns-in-None c =
    rw c.into.ensures (not_called c.args.image.now c.read.ensures (event_of c.args.call c.args.desk c.args.bytes.now)
    (lend c.args.journal.now c.args.message.now) c.in-None.is)

pub returns-in-Some : goal.returns-in-Some
returns-in-Some c =
    rw (c.number_of.ensures, c.length_of.ensures, c.put_image.ensures)
    (called c.args.image.now c.read.ensures (event_of c.args.call c.args.desk c.args.bytes.now)
    (lend c.args.journal.now c.args.message.now) c.in-Some.is c.make-step.ensures)
