-- `screen::shows::add_journal` meets its contract.
use Rattle.std.proofs.Common.{rules, ◌≡◌, refl}
use borrow.Author.Tests.{eq-eqb, ne_eqb}
use Rattle.texts.proofs.Texts.{nothing}
use Rattle.screen.specs.Shows.{journal_text}
use Rattle.screen.proofs.Lines.{one_more}
use Rattle.screen.proofs.shows.add_journal.Goals as goal

pub returns-then-entries-eq0 : goal.returns-then-entries-eq0
unfolding journal_text
returns-then-entries-eq0 c = rw (eq-eqb _ _ c.if-entries-eq0.true) c.add.ensures

pub loop-i-init : goal.loop-i-init
loop-i-init c = (refl, nothing)

pub loop-i-preserved : goal.loop-i-preserved
loop-i-preserved c = (search rules, one_more _ _ c.loop-i.invariant.1 (rw c.entry_at.ensures at c.add_entry-at.ensures))

pub shape_of-out : goal.shape_of-out
shape_of-out c = c.loop-i.invariant.0

pub returns : goal.returns
unfolding journal_text
returns c =
    let e : c.loop-i.i ≡ c.args.entries = search rules in
    rw (ne_eqb _ _ c.if-entries-eq0.false) (rw e at c.loop-i.invariant.1)
