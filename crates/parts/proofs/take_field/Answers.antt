-- `parts::take_field` meets its contract.
use Rattle.std.proofs.Common.{rules, arith, ◌≡◌, length, refl, sym, ◌∙◌}
use borrow.Author.Tests.{lt-ltb, le-ltb}
use Rattle.message.specs.Message.{rooms}
use Rattle.parts.specs.Parts.{taken}
use Rattle.parts.proofs.Places.{taken_is, copied-front}
use Rattle.parts.proofs.take_field.Goals as goal

pub returns-then-not-named : goal.returns-then-not-named
unfolding taken
returns-then-not-named c = rw (sym c.named.ensures ∙ c.if-not-named.true) (refl, refl)

pub returns-then-out-at : goal.returns-then-out-at
returns-then-out-at c =
    let l : length c.args.m.now.contents ≡ rooms = search rules in
    let named = sym c.named.ensures ∙ c.if-not-named.false in
    let q = rw (lt-ltb _ _ c.if-out-at.true) at (taken_is (c.bounds_of-at.ensures.held l) (length c.args.out.now) l named) in
    (sym q, rw q)

pub returns : goal.returns
returns c =
    let l : length c.args.m.now.contents ≡ rooms = search rules in
    let b = (c.bounds_of-at.ensures.held l) in
    let named = sym c.named.ensures ∙ c.if-not-named.false in
    let q = rw (le-ltb _ _ c.if-out-at.false) at (taken_is b (length c.args.out.now) l named) in
    (sym q, rw q (copied-front b _ l (omega arith) c.copy.ensures))
