-- `are_few_apart` meets its contract.
use Rattle.std.proofs.Common.{arith, sym, ◌∙◌, ap, ◌<◌, length, map}
use lib.ListN.{length-map}
use Rattle.entry.specs.Entry.{decode}
use Rattle.traces.proofs.Entries.{number, trace-here}
use Rattle.traces.proofs.Noted.{noted_more, noted_stop}
use Rattle.traces.proofs.are_few_apart.Goals as goal

pub returns-then-not-is_new : goal.returns-then-not-is_new
returns-then-not-is_new c =
    let bs = c.args.entries.now in
    let h : c.loop-i.i < length (map decode bs) = rw length-map c.loop-i-test.true in
    let q = trace-here bs c.loop-i.i c.loop-i-test.true (ap number c.trace_of-t.ensures) in
    sym (noted_stop c.loop-i.invariant h (omega (arith, c.trace_of-t.array_long)) q (sym c.is_new.ensures ∙ c.if-not-is_new.true))

pub loop-i-preserved : goal.loop-i-preserved
loop-i-preserved c =
    let bs = c.args.entries.now in
    let h : c.loop-i.i < length (map decode bs) = rw length-map c.loop-i-test.true in
    let q = trace-here bs c.loop-i.i c.loop-i-test.true (ap number c.trace_of-t.ensures) in
    noted_more c.loop-i.invariant h (omega (arith, c.trace_of-t.array_long)) q (sym c.is_new.ensures ∙ c.if-not-is_new.false)
