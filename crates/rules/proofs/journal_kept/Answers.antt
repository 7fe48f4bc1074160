-- `rules::journal_kept` meets its contract.
use Rattle.journal.specs.Journal.{entries_of}
use Rattle.rules.proofs.Tests.{journal_kept_is}
use Rattle.rules.proofs.journal_kept.Goals as goal
use Rattle.rules.proofs.journal_kept.Goals.{then-all_fit, else-all_fit}

pub returns-then-are_distinct : goal.returns-then-are_distinct
returns-then-are_distinct c found =
    let is = journal_kept_is c.args.sendings c.args.uploading c.args.item (entries_of c.args.n c.args.journal.now) in
    elim c.if-all_fit.branch [
      | then-all_fit w ↦
          rw (
            ← is,
            ← c.all_fit.ensures,
            w.if-all_fit.true,
            ← w.are_distinct.ensures,
            ← w.value-is,
            c.if-are_distinct.true,
            c.sums_kept.ensures,
            found,
          )
      | else-all_fit w ↦ cc
    ]

pub returns-else-are_distinct : goal.returns-else-are_distinct
returns-else-are_distinct c found =
    let is = journal_kept_is c.args.sendings c.args.uploading c.args.item (entries_of c.args.n c.args.journal.now) in
    elim c.if-all_fit.branch [
      | then-all_fit w ↦ rw (← is, ← c.all_fit.ensures, w.if-all_fit.true, ← w.are_distinct.ensures, ← w.value-is, c.if-are_distinct.false)
      | else-all_fit w ↦ rw (w.value-is, ← is, ← c.all_fit.ensures, w.if-all_fit.false)
    ]
