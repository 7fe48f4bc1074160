-- `journal::find` meets its contract.
use Rattle.std.proofs.Common.{rules, List, ℕ, sym, ◌∙◌}
use borrow.Author.Tests.{tests}
use Rattle.std.proofs.lemmas.Iterator.{YieldsList-from_slice}
use Rattle.std.proofs.lemmas.Iterator.Search.{position_from_yields_List}
use Rattle.entry.specs.Entry.{decode}
use Rattle.journal.specs.Journal.{asked}
use Rattle.journal.proofs.Chunks.{first-position, few}
use Rattle.journal.proofs.find.Goals as goal

pub returns-in_err-i : goal.returns-in_err-i
returns-in_err-i c =
    rw (← c.entries_of.ensures, first-position (asked c.args.query) c.entries_of.result.now)
    (c.from_residual.ensures
    ∙ sym c.in_err-i.was
    ∙ position_from_yields_List (λ (b : List ℕ). asked c.args.query (decode b)) _ _ c.position.result c.position.ensures.ran
    (YieldsList-from_slice c.entries_of.result.now cc) (λ x b q k. search (rules, tests)))

pub overflow_cast-result : goal.overflow_cast-result
overflow_cast-result c =
    let below = c.in_ok-i.ensures.bound in
    let most = few c.args.n c.args.journal.now c.entries_of.result.now c.entries_of.ensures in
    search rules

pub returns : goal.returns
returns c =
    rw (← c.entries_of.ensures, first-position (asked c.args.query) c.entries_of.result.now)
    (sym c.in_ok-i.was
    ∙ position_from_yields_List (λ (b : List ℕ). asked c.args.query (decode b)) _ _ c.position.result c.position.ensures.ran
    (YieldsList-from_slice c.entries_of.result.now cc) (λ x b q k. search (rules, tests)))
