-- Laws of the rules of send reversal, and of the reversal that leaves.
use mathlib.Core.Path.{◌≡◌, refl, sym, ap, ◌∙◌}
use mathlib.Core.List.{List, [], ◌∷◌}
use mathlib.Core.Bool.{true, false, not, and-eq-true_iff}
use Prim.Native.Nat.{ℕ, ◌≤◌, ◌<◌}
use native.Mathlib.Omega.{arith}
use lib.ListN.{length}
use borrow.Author.Tests.{ltb-true}
use Rattle.message.specs.Build.{message_of}
use Rattle.numbers.specs.Limits.{most_sendings}
use Rattle.message.specs.Message.{largest}
use Rattle.message.specs.declared.Message.{Message}
use Rattle.writing.specs.Writing.{write_message}
use Rattle.state.specs.declared.Awaited.TheVariants as awaited
use Rattle.state.specs.declared.Called.{Called}
use Rattle.state.specs.declared.Outcome.TheVariants.{Send}
use Rattle.state.specs.declared.Phase.{Phase}
use Rattle.state.specs.declared.Phase.TheVariants.{Resting, Waiting, Pending, Settling, Uploading}
use Rattle.state.specs.declared.Reversal.{Reversal}
use Rattle.state.specs.declared.State.{State}
use Rattle.state.specs.State.{in_phase, pends, is_pending}
use Rattle.checks.specs.Checks.{rule, first_broken}
use Rattle.checks.specs.Refusals.{number_of}
use Rattle.checks.specs.declared.Refusal.{Refusal}
use Rattle.state.specs.Calls.{Lent, with_message, result_of, refused}
use Rattle.rules.proofs.Judged.{first_refuses}
use Rattle.checks.proofs.Choices.{last-broken, last-kept}
use Rattle.state.proofs.Judged.{refuses, goes}
use Rattle.rules.specs.Rules.{idle_rules, phase_kept}
use Rattle.state_rules.specs.StateRules.{phase_in_form}
use Rattle.rules.proofs.InOrder.{Fit}
use Rattle.state_rules.proofs.Holds.{reversal-holds}
use Rattle.rules.proofs.Idle.{idle_fit}
use Rattle.compose.specs.Compose.{with_all}
use Rattle.outgoing.specs.Held.{CardHeld}
use Rattle.outgoing.specs.Outgoing.{reversal_fields, reversal_message, length_of}
use Rattle.outgoing.proofs.Leaving.{reversal-held, reversal-is, reversal-listed, written_is}
use Rattle.journal.specs.Journal.{entries_of}
use Rattle.call_definitions.specs.SendReversal.{send_reversal_rules, sends_reversal, send_from, send_reversal}
use Rattle.effect_definitions.specs.StateEffects.{again}

not_pending : (p : Phase) → ((v : Reversal) → p ≡ Pending v → ⊥) → pends p ≡ false
not_pending Resting h = refl
not_pending (Waiting a) h = refl
not_pending (Pending v) h = absurd (h v refl)
not_pending Settling h = refl
not_pending Uploading h = refl

-- rules 1, 2, 10 and 11 refuse
pub turned_down : (s : State) (lent : Lent) (why : Refusal) → number_of why ≡ first_broken (idle_rules s lent)
    → refused (number_of why) s lent ≡ send_reversal s lent
unfolding send_reversal
turned_down s lent why e = first_refuses (idle_rules s lent) (rule 14 (not (is_pending s)) ∷ []) why s lent (send_from s.phase s lent) e

-- or pass
module _ (s : State) (lent : Lent) (z : 0 ≡ first_broken (idle_rules s lent)) where
  -- 14. No reversal is pending.
  pub nothing-pending : ((v : Reversal) → s.phase ≡ Pending v → ⊥) → refused 14 s lent ≡ send_reversal s lent
  unfolding send_reversal
  nothing-pending h =
      refuses 14 (first_broken (send_reversal_rules s lent)) s lent (send_from s.phase s lent)
      (last-broken (idle_rules s lent) 0 refl z refl 14 (not (is_pending s)) (rw (not_pending s.phase h))) (λ x. omega arith)

  -- what rules 1 and 2 give of a pending reversal
  fits : Fit s lent
  fits = idle_fit s lent (sym z)

  pub room : largest ≤ length lent.message
  room = fits.message_room

  module _ (v : Reversal) (f : s.phase ≡ Pending v) where
    pub goes_out : (a : Reversal) (r : Called) (o : List ℕ) → a ≡ again v
        → result_of r (with_message o lent) ≡ sends_reversal a s lent → result_of r (with_message o lent) ≡ send_reversal s lent
    unfolding send_reversal
    goes_out a r o q h =
        goes 0 (first_broken (send_reversal_rules s lent)) s lent (result_of r (with_message o lent)) (send_from s.phase s lent)
        (last-kept (idle_rules s lent) 0 refl z refl 14 (not (is_pending s)) (rw f)) refl (h ∙ rw (f, q))

    pub few : v.sendings < most_sendings
    few =
        let o = fits.order in
        let k : phase_kept s.settings s.entries (entries_of s.entries lent.journal) s.phase ≡ true = o.phase_kept in
        let l = ltb-true v.sendings s.settings.sendings (rw f at k) in
        let b = o.state.settings.sendings_most in
        omega arith

    pub held : (a : Reversal) → a ≡ again v → length s.settings.terminal ≡ 8 → length s.settings.merchant ≡ 15
        → CardHeld s.settings s.chip a.request
    held a q lt lm =
        let o = fits.order.state in
        let k : phase_in_form s.phase ≡ true = o.phase_form in
        let h = reversal-holds v (rw f at k) in
        rw q (record {
          card_low = h.card_least;
          card_high = h.card_most;
          terminal_length = lt;
          merchant_length = lm;
          terminal_printable = o.settings.terminal_printable;
          merchant_printable = o.settings.merchant_printable;
          chip_form = λ y. (simp and-eq-true_iff at (o.chip.sent y)).1;
        })

-- the message, its length and the bytes in the buffer are those of the reversal
pub left : (s t : State) (v : Reversal) (lent : Lent) (b : Message) (k : ℕ) (o : List ℕ)
    → CardHeld s.settings s.chip v.request → largest ≤ length lent.message
    → b ≡ with_all (reversal_fields s.settings s.batch s.chip v) (message_of 0x0400 [])
    → k ≡ length_of (write_message b lent.message).outcome → o ≡ (write_message b lent.message).buffer
    → t ≡ in_phase (Waiting (awaited.Reversal v)) s
    → result_of (record { outcome = Send k; state = t }) (with_message o lent) ≡ sends_reversal v s lent
unfolding reversal_message
left s t v lent b k o h r p q w u =
    let fs = reversal_fields s.settings s.batch s.chip v in
    let is = p ∙ reversal-is s.settings s.batch s.chip v h in
    let wr = ap (λ (x : Message). write_message x lent.message) is ∙ written_is 0x0400 fs lent.message reversal-listed (reversal-held s.settings s.batch s.chip v h) r in
    rw (q, w, u, wr)
