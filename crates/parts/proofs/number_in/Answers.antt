-- `parts::number_in` meets its contract.
use Rattle.std.proofs.Common.{rules, arith, ◌≡◌, length, sym, ◌∙◌}
use Rattle.message.specs.Message.{rooms}
use Rattle.parts.specs.Parts.{number_in}
use Rattle.parts.proofs.Places.{number_short, number_read}
use Rattle.parts.proofs.number_in.Goals as goal

pub returns-then-not-named : goal.returns-then-not-named
unfolding number_in
returns-then-not-named c = rw (sym c.named.ensures ∙ c.if-not-named.true)

pub returns-then-at-from : goal.returns-then-at-from
returns-then-at-from c =
    let l : length c.args.m.now.contents ≡ rooms = search rules in
    sym (number_short (c.bounds_of-at.ensures.held l) _ _ (omega arith))

pub returns-then-at-from-2 : goal.returns-then-at-from-2
returns-then-at-from-2 c =
    let l : length c.args.m.now.contents ≡ rooms = search rules in
    sym (number_short (c.bounds_of-at.ensures.held l) _ _ (omega arith))

pub returns : goal.returns
returns c =
    let l : length c.args.m.now.contents ≡ rooms = search rules in
    number_read (c.bounds_of-at.ensures.held l) _ _ _ (sym c.named.ensures ∙ c.if-not-named.false) (omega arith) c.unpack_into.ensures c.number_of.ensures
