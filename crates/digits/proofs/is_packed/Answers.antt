-- `is_packed` meets its contract.
use Rattle.std.proofs.Common.{◌≡◌, ◌&&◌, ◌||◌, ◌/◌, ◌%◌, eqb, leb, get_or, take, ◌∙◌}
use borrow.Author.Rules.{rules}
use borrow.Author.Tests.{tests, eq-eqb, ne_eqb, le-leb, lt-leb}
use Rattle.std.proofs.lemmas.Iterator.{YieldsList-from_slice}
use Rattle.std.proofs.lemmas.Iterator.Search.{all_from_yields_List}
use Rattle.digits.specs.Digits.{is_packed}
use Rattle.digits.proofs.Packing.{bytes_for_lem, is_pair, packed-form}
use Rattle.digits.proofs.is_packed.Goals.{After-all}
use Rattle.digits.proofs.is_packed.Goals as goal

-- what is left to test after the pairs
form : (c : After-all) → is_packed c.args.n c.args.s.now ≡ (c.all.result && (eqb (c.args.n % 2) 0
    || (leb (get_or c.args.s.now (c.args.n / 2) 0 / 16) 9 && eqb (get_or c.args.s.now (c.args.n / 2) 0 % 16) 0)))
form c =
    let a = all_from_yields_List is_pair _ _ c.all.result c.all.ensures.ran
    (YieldsList-from_slice (take (c.args.n / 2) c.args.s.now) cc) (λ x b q k. search (rules, tests)) in
    packed-form c.args.n c.args.s.now c.if-s-pairs.false ∙ rw a

pub returns-then-s-pairs : goal.returns-then-s-pairs
unfolding is_packed
returns-then-s-pairs c = rw (bytes_for_lem, ne_eqb _ _ c.if-s-pairs.true)

pub returns-then-n-eq0 : goal.returns-then-n-eq0
returns-then-n-eq0 c =
    rw (form (goal.at.returns-then-n-eq0 c).After-all, c.if-all.true, eq-eqb _ _ c.if-n-eq0.true)

pub returns-then-s-pairs-le9 : goal.returns-then-s-pairs-le9
returns-then-s-pairs-le9 c =
    rw (form (goal.at.returns-then-s-pairs-le9 c).After-all, c.if-all.true, ne_eqb _ _ c.if-n-eq0.false, le-leb _ _ c.if-s-pairs-le9.true)

pub returns-else-s-pairs-le9 : goal.returns-else-s-pairs-le9
returns-else-s-pairs-le9 c =
    rw (form (goal.at.returns-else-s-pairs-le9 c).After-all, c.if-all.true, ne_eqb _ _ c.if-n-eq0.false, lt-leb _ _ c.if-s-pairs-le9.false)

pub returns-else-all : goal.returns-else-all
returns-else-all c = rw (form (goal.at.returns-else-all c).After-all, c.if-all.false)
