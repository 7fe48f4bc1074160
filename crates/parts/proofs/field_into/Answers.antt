-- `parts::field_into` meets its contract.
use Rattle.std.proofs.Common.{rules, arith, ◌≡◌, length, refl, sym, ◌∙◌}
use borrow.Author.Tests.{eq-eqb, ne_eqb}
use Rattle.message.specs.Message.{rooms}
use Rattle.parts.specs.Parts.{copies}
use Rattle.parts.proofs.Places.{copies-is, copied-all}
use Rattle.parts.proofs.field_into.Goals as goal

pub returns-then-out-at : goal.returns-then-out-at
returns-then-out-at c =
    let l : length c.args.m.now.contents ≡ rooms = search rules in
    let b = (c.bounds_of-at.ensures.held l) in
    let named = sym c.named.ensures ∙ c.if-named.true in
    let q = copies-is b (length c.args.out.now) l named ∙ eq-eqb _ _ c.if-out-at.true in
    (sym q, rw q (copied-all b _ l c.if-out-at.true c.copy.ensures))

pub returns-else-out-at : goal.returns-else-out-at
returns-else-out-at c =
    let l : length c.args.m.now.contents ≡ rooms = search rules in
    let named = sym c.named.ensures ∙ c.if-named.true in
    let q = copies-is (c.bounds_of-at.ensures.held l) (length c.args.out.now) l named ∙ ne_eqb _ _ c.if-out-at.false in
    (sym q, rw q)

pub returns-else-named : goal.returns-else-named
unfolding copies
returns-else-named c = rw (sym c.named.ensures ∙ c.if-named.false) (refl, refl)
