-- `journal::all_fit` meets its contract.
use Rattle.std.proofs.Common.{rules, ◌≡◌, ◌∙◌, sym, ℕ, List, map}
use borrow.Author.Tests.{tests}
use Rattle.std.proofs.lemmas.Iterator.{YieldsList-from_slice}
use Rattle.std.proofs.lemmas.Iterator.Consumers.{YieldsList-from_enumerate}
use Rattle.std.proofs.lemmas.Iterator.Search.{all_from_yields_List}
use Rattle.entry.specs.Entry.{decode}
use Rattle.journal.proofs.Chunks.{every-numbered}
use Rattle.journal.proofs.Places.{fits_place, fits-place}
use Rattle.journal.proofs.all_fit.Goals as goal

pub returns : goal.returns
returns c =
    let s : c.map-awaited.result ≡ c.args.awaited = search rules in
    rw (← c.entries_of.ensures)
    (all_from_yields_List (λ (q : ℕ × List ℕ). fits_place c.args.sendings c.args.uploading c.map-awaited.result q.0 (decode q.1)) c.all.new.self _ c.all.result
    c.all.ensures.ran
    (YieldsList-from_enumerate (YieldsList-from_slice c.entries_of.result.now cc) (cc))
    (λ x b q k. search (rules, tests))
    ∙ rw s (sym (every-numbered _ 0 c.entries_of.result.now))
    ∙ fits-place c.args.sendings c.args.uploading c.args.awaited 0 (map decode c.entries_of.result.now))
