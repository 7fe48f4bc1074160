-- `compose::put` meets its contract.
use Rattle.std.proofs.Common.{rules, arith, ◌≡◌, ◌+◌, ◌≤◌, length}
use Rattle.message.specs.Message.{rooms}
use Rattle.compose.proofs.Places.{part_filled}
use Rattle.compose.proofs.put.Goals as goal

pub returns-clause-held : goal.returns-clause-held
returns-clause-held c =
    let l : length c.args.m.now.contents ≡ rooms = search rules in
    let h : c.args.at.from + c.size_of.result ≤ length c.args.m.now.contents = rw c.size_of.ensures (omega arith) in
    rw (c.set_bit.ensures, part_filled c.args.at.from c.size_of.result c.args.b.now c.args.m.now.contents h c.fill.ensures, c.size_of.ensures)
