-- A pending reversal that is sent and not answered: pending again, or given up at the last sending.
use mathlib.Core.Path.{◌≡◌, refl, sym, ◌∙◌}
use mathlib.Core.Bool.{true, false}
use Prim.Native.Nat.{◌+◌, ◌≤◌, ◌<◌}
use borrow.Author.Tests.{le-leb, lt-leb}
use Rattle.state.specs.declared.Reversal.{Reversal}
use Rattle.state.specs.declared.Awaited.TheVariants as awaited
use Rattle.state.specs.declared.Phase.TheVariants.{Waiting, Pending}
use Rattle.state.specs.declared.State.{State}
use Rattle.state.specs.declared.Count.TheVariants.{GivenUp}
use Rattle.state.specs.State.{in_phase, signs_on}
use Rattle.checks.specs.Checks.{first_broken}
use Rattle.state.specs.Calls.{Lent, quiet}
use Rattle.state.proofs.Judged.{goes}
use Rattle.call_definitions.specs.SendReversal.{sends_reversal, send_from, send_reversal_rules, send_reversal}
use Rattle.effect_definitions.specs.StateEffects.{ended, again, failed}
use Rattle.call_definitions.specs.Answer.{quietly, no_answer_rules, no_answer}
use Rattle.effect_definitions.specs.JournalEffects.{silent, unanswered}
use Rattle.call_theorems.specs.Ready.{Ready, StaysReady}
use Rattle.call_definitions.specs.Events.{no_answer_event, send_reversal_event}
use Rattle.call_theorems.proofs.Keeping.{keeping}
use Rattle.call_theorems.specs.Facts.{silenced}

-- a reversal pends on a terminal that is signed on
pub record Pends (v : Reversal) (s : State) (lent : Lent) : Type 0 where
  pub ready : Ready s lent
  pub on : s.signed_on ≡ true
  pub phase : s.phase ≡ Pending v
  pub alone : signs_on s ≡ false

-- it leaves
pub sends : (v : Reversal) (s : State) (lent : Lent) → Pends v s lent → send_reversal s lent ≡ sends_reversal (again v) s lent
unfolding send_reversal first_broken
sends v s lent h =
    sym (goes 0 (first_broken (send_reversal_rules s lent)) s lent (sends_reversal (again v) s lent) (send_from s.phase s lent)
    (rw (h.ready.long, h.ready.order, h.on, h.phase, h.alone)) refl (rw h.phase))

-- and silence fails it
silent_fails : (v : Reversal) (s : State) (lent : Lent) → signs_on s ≡ false → Ready (in_phase (Waiting (awaited.Reversal v)) s) lent
    → no_answer (in_phase (Waiting (awaited.Reversal v)) s) lent
    ≡ quiet (failed v (in_phase (Waiting (awaited.Reversal v)) s)) lent
unfolding no_answer first_broken unanswered silent
silent_fails v s lent a h =
    let t = in_phase (Waiting (awaited.Reversal v)) s in
    sym (goes 0 (first_broken (no_answer_rules t lent)) t lent (quiet (failed v t) lent) (quietly (unanswered t lent.journal) lent)
    (rw (h.long, h.order)) refl (rw a))

-- what was lent, after it
abbrev pub left : Reversal → State → Lent → Lent
left v s lent = (sends_reversal (again v) s lent).lent

module _ (v : Reversal) (s : State) (lent : Lent) (h : Pends v s lent) where
  sent-silent : silenced (send_reversal s lent) ≡ quiet (failed (again v) (sends_reversal (again v) s lent).state) (left v s lent)
  sent-silent = rw (sends v s lent h) (silent_fails (again v) s (left v s lent) h.alone
      (rw (sends v s lent h) at (keeping send_reversal_event s lent h.ready)))

  pub pends-again : v.sendings + 1 < s.settings.sendings
      → silenced (send_reversal s lent) ≡ quiet (in_phase (Pending (again v)) s) (left v s lent)
  unfolding failed
  pends-again l = sent-silent ∙ rw (lt-leb _ _ l)

  pub gives_up : s.settings.sendings ≤ v.sendings + 1
      → silenced (send_reversal s lent) ≡ quiet (ended GivenUp s) (left v s lent)
  unfolding failed
  gives_up l = sent-silent ∙ rw (le-leb _ _ l)

  -- rules 1 and 2 pass after it
  pub stays_ready : StaysReady (silenced (send_reversal s lent))
  stays_ready =
      let r = send_reversal s lent in
      keeping no_answer_event r.state r.lent (keeping send_reversal_event s lent h.ready)
