-- `pass` meets its contract.
use Rattle.std.proofs.Common.{◌∙◌, ap, ◌<◌, length, map}
use lib.ListN.{length-map}
use Rattle.entry.specs.Entry.{decode}
use Rattle.traces.proofs.Entries.{number, trace-here}
use Rattle.traces.proofs.Passing.{passing_none, passing_met, passing_other}
use Rattle.traces.proofs.pass.Goals.{then-trace_of-next, else-trace_of-next}
use Rattle.traces.proofs.pass.Goals as goal

pub loop-b-init : goal.loop-b-init
loop-b-init c = passing_none (map decode c.args.entries.now) c.args.next.0 c.args.left

pub loop-b-preserved : goal.loop-b-preserved
loop-b-preserved c =
    let bs = c.args.entries.now in
    let h : c.loop-b.b-index < length (map decode bs) = rw length-map c.loop-b-test.true in
    let q = trace-here bs c.loop-b.b-index c.loop-b-test.true (ap number c.trace_of.ensures) in
    elim c.if-trace_of-next.branch [
      | then-trace_of-next w ↦ passing_met c.loop-b.invariant h q w.if-trace_of-next.true (ap number (w.next-is ∙ w.following-next.ensures)) w.left-is
      | else-trace_of-next w ↦ passing_other c.loop-b.invariant h q w.if-trace_of-next.false (ap number w.next-is) w.left-is
    ]
