-- `hexadecimal::is_hex` meets its contract.
use Rattle.std.proofs.Common.{ltb, rules}
use Rattle.std.proofs.lemmas.Iterator.{YieldsList-from_slice}
use borrow.Author.Tests.{eq-eqb, ne_eqb, tests}
use Rattle.hexadecimal.specs.Hexadecimal.{hex_value, is_hex}
use Rattle.digits.proofs.Iterated.{all_places}
use Rattle.hexadecimal.proofs.is_hex.Goals as goal

pub returns-then-s-eq0 : goal.returns-then-s-eq0
unfolding is_hex
returns-then-s-eq0 c =
    rw (eq-eqb _ _ c.if-s-eq0.true)
    (all_places (λ b. ltb (hex_value b) 16) _ _ _ c.all.ensures.ran (YieldsList-from_slice c.args.s.now cc) (λ x b q k. search (rules, tests)))

pub returns-else-s-eq0 : goal.returns-else-s-eq0
unfolding is_hex
returns-else-s-eq0 c = rw (ne_eqb _ _ c.if-s-eq0.false)
