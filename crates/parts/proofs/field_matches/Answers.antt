-- `parts::field_matches` meets its contract.
use Rattle.std.proofs.Common.{rules, ◌≡◌, length, sym, ◌∙◌}
use Rattle.message.specs.Message.{rooms}
use Rattle.parts.specs.Parts.{matches}
use Rattle.parts.proofs.field_matches.Goals as goal

pub returns-then-named : goal.returns-then-named
unfolding matches
returns-then-named c =
    let l : length c.args.m.now.contents ≡ rooms = search rules in
    rw (sym c.named.ensures ∙ c.if-named.true, ← (c.bounds_of-at.ensures.held l).bytes_are) c.same.ensures

pub returns : goal.returns
unfolding matches
returns c = rw (sym c.named.ensures ∙ c.if-named.false)
