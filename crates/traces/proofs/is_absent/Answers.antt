-- `is_absent` meets its contract.
use Rattle.std.proofs.Common.{rules, sym, ◌∙◌, ℕ, List, not, eqb}
use borrow.Author.Tests.{tests}
use Rattle.std.proofs.lemmas.Iterator.{YieldsList-from_slice}
use Rattle.std.proofs.lemmas.Iterator.Search.{all_from_yields_List}
use Rattle.entry.specs.Entry.{decode}
use Rattle.entry.specs.declared.Entry.{Entry}
use Rattle.journal.specs.Journal.{absent, has_trace}
use Rattle.journal.proofs.Chunks.{every-list}
use Rattle.traces.proofs.is_absent.Goals as goal

pub returns : goal.returns
unfolding absent has_trace
returns c =
    all_from_yields_List (λ (b : List ℕ). not (eqb (decode b).trace.0 c.args.x.0)) _ _ _ c.all.ensures.ran
    (YieldsList-from_slice c.args.entries.now cc) (λ x b q k. search (rules, tests))
    ∙ sym (every-list (λ (e : Entry). not (eqb e.trace.0 c.args.x.0)) 0 c.args.entries.now)
