-- `journal::sums_of` meets its contract.
use Rattle.std.proofs.Common.{arith, [], get_or}
use Rattle.std.proofs.lemmas.List.{drop_all}
use Rattle.entry.specs.Entry.{decode}
use Rattle.entry.specs.declared.Entry.{Entry}
use Rattle.entry.proofs.Theorems.{decode-amount}
use Rattle.journal.proofs.Chunks.{drop-next, few}
use Rattle.journal.proofs.Sums.{gathering_room, gathering_more, gathering_done}
use Rattle.journal.proofs.sums_of.Goals as goal

pub loop-b-preserved : goal.loop-b-preserved
unfolding decode
loop-b-preserved c =
    let bs = c.entries_of-entries.result.now in
    let i = c.loop-b.b-index in
    let e : Entry = decode (get_or bs i []) in
    let most = few c.args.n c.args.journal.now bs c.entries_of-entries.ensures in
    let small = decode-amount (get_or bs i []) in
    let left = rw (drop-next bs i c.loop-b-test.true) at c.loop-b.invariant in
    rw (c.plus-sums.ensures (rw c.amount_of.ensures (gathering_room e c.loop-b.invariant (omega arith) small)), c.amount_of.ensures)
    (gathering_more left small)

pub returns : goal.returns
returns c =
    let bs = c.entries_of-entries.result.now in
    gathering_done (rw (drop_all c.loop-b.b-index bs c.loop-b-test.false, c.entries_of-entries.ensures) at c.loop-b.invariant)
