-- What settle gives, where it is not refused: a message that is sent, and awaited.
use mathlib.Core.Path.{◌≡◌, refl, sym, ap, ◌∙◌}
use mathlib.Core.List.{List, []}
use Prim.Native.Nat.{ℕ}
use lib.ListN.{length}
use Rattle.message.specs.Build.{message_of}
use Rattle.message.specs.declared.Message.{Message}
use Rattle.writing.specs.Writing.{write_message}
use Rattle.numbers.specs.declared.Trace.{Trace}
use Rattle.journal.specs.Journal.{entries_of, taken}
use Rattle.state.specs.declared.Outcome.TheVariants.{Send}
use Rattle.state.specs.declared.State.{State}
use Rattle.checks.specs.Checks.{first_broken}
use Rattle.state.specs.Calls.{Lent, with_message, result_of}
use Rattle.state.proofs.Judged.{goes}
use Rattle.compose.specs.Compose.{with_all}
use Rattle.compose.proofs.Composed.{all_composed}
use Rattle.outgoing.specs.Outgoing.{length_of}
use Rattle.outgoing.proofs.Leaving.{written_is}
use Rattle.call_definitions.specs.Settle.{settle_rules, settle_now, settle}
use Rattle.batch_messages.specs.BatchMessages.{settlement_fields, settlement_message}
use Rattle.effect_definitions.specs.StateEffects.{settles}
use Rattle.batch_messages.proofs.Held.{settlement_held, settlement_listed}
use Rattle.outgoing.specs.Held.{SettingsHeld}
use Rattle.call_settle.proofs.Refusals.{fits}

module _ (s : State) (lent : Lent) (z : 0 ≡ first_broken (settle_rules s lent)) (lt : length s.settings.terminal ≡ 8)
    (lm : length s.settings.merchant ≡ 15) where
  settings-held : SettingsHeld s.settings
  settings-held =
      let x = (fits s lent (sym z)).order.state.settings in
      record {
        terminal_length = lt;
        merchant_length = lm;
        terminal_printable = x.terminal_printable;
        merchant_printable = x.merchant_printable;
      }

  -- the message, its length and the bytes in the buffer are those of the settlement
  leaves : (trace : Trace) (b : Message) (k : ℕ) (o : List ℕ) (after : State)
      → b ≡ with_all (settlement_fields s.settings s.batch trace s.totals) (message_of 0x0500 [])
      → k ≡ length_of (write_message b lent.message).outcome → o ≡ (write_message b lent.message).buffer → after ≡ settles s trace
      → result_of (record { outcome = Send k; state = after }) (with_message o lent) ≡ settle_now s trace lent
  unfolding settlement_message
  leaves trace b k o after p q w u =
      let fs = settlement_fields s.settings s.batch trace s.totals in
      let h = settlement_held s.settings s.batch settings-held trace s.totals in
      let is = p ∙ all_composed 0x0500 fs h in
      let room = (fits s lent (sym z)).message_room in
      let wr = ap (λ (x : Message). write_message x lent.message) is ∙ written_is 0x0500 fs lent.message settlement_listed h room in
      rw (q, w, u, wr)

  pub is-sent : (trace : Trace) (b : Message) (k : ℕ) (o : List ℕ) (after : State)
      → trace ≡ record { 0 = taken (entries_of s.entries lent.journal) s.next.0 }
      → b ≡ with_all (settlement_fields s.settings s.batch trace s.totals) (message_of 0x0500 [])
      → k ≡ length_of (write_message b lent.message).outcome → o ≡ (write_message b lent.message).buffer → after ≡ settles s trace
      → result_of (record { outcome = Send k; state = after }) (with_message o lent) ≡ settle s lent
  unfolding settle
  is-sent trace b k o after x p q w u =
      goes 0 (first_broken (settle_rules s lent)) s lent _ _ z refl
      (leaves trace b k o after p q w u ∙ ap (λ (c : Trace). settle_now s c lent) x)
