-- A start is refused by the history's number, or sends the history's message.
use mathlib.Core.Path.{◌≡◌, refl, sym, ap, ◌∙◌}
use mathlib.Core.List.{List}
use mathlib.Core.Bool.{Bool, true, false, cond, not}
use Prim.Native.Nat.{ℕ}
use native.Mathlib.Omega.{arith}
use lib.ListN.{length}
use Rattle.journal.specs.Journal.{entries_of}
use Rattle.journal.proofs.Entries.{length-entries}
use Rattle.state.specs.declared.State.{State}
use Rattle.state.specs.State as state
use Rattle.state.specs.State.{is_waiting, pends}
use Rattle.state.specs.Calls.{Lent, Result}
use Rattle.checks.specs.Checks.{Rule, first_broken}
use Rattle.rules.proofs.InOrder.{Fit}
use Rattle.desk.specs.declared.Desk.{Desk}
use Rattle.call_definitions.specs.Start.{start}
use Rattle.call_definitions.specs.Events.{Event, starts, call}
use Rattle.call_definitions.specs.Shapes.{EventShaped}
use Rattle.history.specs.History.{Account, refused}
use Rattle.history.proofs.Tied.{Tied}
use Rattle.history_theorems.specs.Standing.{Standing, SignOn}
use Rattle.history_theorems.specs.Approvals.{Approval}
use Rattle.history_theorems.specs.Judged.{reversal_pending, number_of}
use Rattle.history_theorems.specs.Requests.{start_number, StartJudged}
use Rattle.history_theorems.proofs.Stands.{Stands}
use Rattle.history_theorems.proofs.Signs.{Signs}
use Rattle.history_theorems.proofs.Said.{given_in, judged_as}
use Rattle.history_theorems.proofs.Starts.{rest, broken, number_is, done}
use Rattle.history_theorems.proofs.Booked.{Booked}
use Rattle.history_theorems.proofs.Copies.{EachExact}
use Rattle.history_theorems.proofs.Requests.{says-request}
use Rattle.history_theorems.proofs.Keyed.{same_length, number_alike}

-- the rule after five that are not broken
next-rule : (t a b c e : Bool) (r : ℕ) → ◌≡◌ {A = ℕ} (cond t 23 (cond a 10 (cond b 11 (cond c 12 (cond e 13 0))))) 0
    → cond t 23 (cond a 10 (cond b 11 (cond c 12 (cond e 13 r)))) ≡ r
next-rule true a b c e r z = absurd (omega arith)
next-rule false true b c e r z = absurd (omega arith)
next-rule false false true c e r z = absurd (omega arith)
next-rule false false false true e r z = absurd (omega arith)
next-rule false false false false true r z = absurd (omega arith)
next-rule false false false false false r z = refl

module _ (l : ℕ) (s : State) (lent : Lent) (a : Account) (y : Standing) (vs : List Approval) (w : SignOn) (tied : Tied l s a)
    (stands : Stands s lent.journal y) (signs : Signs s w) (booked : Booked s lent.journal vs) (exact : EachExact vs) where
  abbrev pub Judged : Event → Desk → List ℕ → Result → Type 0
  Judged e d chip r = (given_in r ≡ refused 1 → ⊥) → (given_in r ≡ refused 2 → ⊥) → number_of e w y (reversal_pending a.requests) ≡ 0
      → StartJudged s.settings y vs d chip (given_in r)

  module _ (d : Desk) (chip : List ℕ) (authorisation : length d.authorisation ≡ 6) (reference : length d.reference ≡ 12) where
    abbrev rules : List Rule
    rules = rest l s lent a y tied stands d chip authorisation reference

    rules_number : Fit s lent → number_of (starts d chip) w y (reversal_pending a.requests) ≡ 0 → first_broken rules ≡ start_number s.settings y vs d
    unfolding first_broken
    rules_number f z =
        let es = entries_of s.entries lent.journal in
        let n = length-entries s.entries lent.journal (omega (arith, f.journal_room, f.order.state.few)) in
        next-rule (broken l s lent a y tied stands d chip authorisation reference) (not s.signed_on) (is_waiting s) (pends s.phase) (state.closes s.phase) _
        (number_is l s lent a y tied stands d chip authorisation reference w signs ∙ z)
        ∙ number_alike d es vs booked s y (sym n ∙ same_length es vs booked) stands.members.2

    start-judged : Judged (starts d chip) d chip (start d chip s lent)
    unfolding start
    start-judged =
        judged_as (Judged (starts d chip) d chip) s lent rules (done l s lent a y tied stands d chip authorisation reference) (λ p q z. absurd (p refl))
        (λ p q z. absurd (q refl))
        (λ f n p q z. let k = rules_number f z in record { refuses = λ g. ap refused k; sends = λ e. absurd (n (k ∙ e)) })
        (λ z u f p q k.
        record {
          refuses = λ g. absurd (g (sym (rules_number f k) ∙ z));
          sends = λ e. (_, refl, says-request l s lent a y vs tied stands booked exact d chip authorisation reference u f);
        })

  -- a call that is a start
  pub call-started : (e : Event) → EventShaped e → (d : Desk) (chip : List ℕ) → e ≡ starts d chip → Judged e d chip (call e s lent)
  call-started e shaped d chip q = let k : EventShaped (starts d chip) = rw q at shaped in rw q (start-judged d chip k.0 k.1)
