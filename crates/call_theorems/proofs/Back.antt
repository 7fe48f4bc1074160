-- The way back: what follows from rules 1 and 2 having passed makes them pass again.
use Rattle.std.specs.Prelude.{Option}
use mathlib.Core.Path.{◌≡◌}
use mathlib.Core.List.{List}
use mathlib.Core.Bool.{true, Bool}
use Prim.Native.Nat.{ℕ, ◌*◌}
use lib.ListN.{length}
use borrow.Author.Tests.{le-leb, le-ltb}
use Rattle.entry.specs.Entry.{entry_size}
use Rattle.entry.specs.declared.Entry.{Entry}
use Rattle.journal.specs.Journal.{entries_of, totals_of}
use Rattle.message.specs.Message.{largest}
use Rattle.state.specs.declared.State.{State}
use Rattle.state.specs.Calls.{Lent}
use Rattle.checks.specs.Checks.{first_broken}
use Rattle.rules.specs.Rules.{too_short, keeps_rule2, journal_kept}
use Rattle.state_rules.specs.StateRules.{sums_kept}
use Rattle.rules.proofs.InOrder.{JournalHolds, InOrder, Fit, fit}
use Rattle.state_rules.proofs.Holds.{state_back}
use Rattle.call_theorems.specs.Ready.{Ready}

pub journal_back : (l : ℕ) (due : Entry → Bool) (uploading : Bool) (item : Option ℕ) (es : List Entry)
    → JournalHolds l due uploading item es → journal_kept l due uploading item es ≡ true
unfolding journal_kept sums_kept
journal_back l due uploading item es h =
    rw (
      h.form,
      h.apart,
      h.voided,
      le-leb _ _ h.debit_most,
      le-leb _ _ h.credit_most,
      h.unmarked,
      h.resends,
      h.silent,
    )

pub order_back : (s : State) (es : List Entry) → InOrder s es → keeps_rule2 s es ≡ true
unfolding keeps_rule2
order_back s es h = rw (state_back s (totals_of es) h.state, journal_back _ _ _ _ es h.journal, h.phase_kept)

pub ready-fits : (s : State) (lent : Lent) → Ready s lent → Fit s lent
unfolding first_broken
ready-fits s lent r = fit s lent (rw (r.long, r.order))

pub fit_ready : (s : State) (lent : Lent) → Fit s lent → Ready s lent
unfolding too_short
fit_ready s lent h =
    record {
      long = rw (le-ltb (length lent.message) largest h.message_room, le-ltb (length lent.journal) (entry_size * s.settings.limit) h.journal_room);
      order = order_back s (entries_of s.entries lent.journal) h.order;
    }
