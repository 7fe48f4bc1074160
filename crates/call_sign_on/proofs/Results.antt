-- What sign on gives, where it is not refused: a message that is sent, and awaited.
use mathlib.Core.Path.{◌≡◌, refl, sym, ap, ◌∙◌}
use mathlib.Core.List.{List, []}
use Prim.Native.Nat.{ℕ}
use lib.ListN.{length}
use Rattle.message.specs.Build.{message_of}
use Rattle.message.specs.declared.Message.{Message}
use Rattle.writing.specs.Writing.{write_message}
use Rattle.numbers.specs.declared.Trace.{Trace}
use Rattle.journal.specs.Journal.{entries_of, taken}
use Rattle.state.specs.declared.Outcome.TheVariants.{Send}
use Rattle.state.specs.declared.State.{State}
use Rattle.checks.specs.Checks.{first_broken}
use Rattle.state.specs.Calls.{Lent, with_message, result_of}
use Rattle.state.proofs.Judged.{goes}
use Rattle.compose.specs.Compose.{with_all}
use Rattle.compose.proofs.Composed.{all_composed}
use Rattle.outgoing.specs.Outgoing.{length_of}
use Rattle.outgoing.proofs.Leaving.{written_is}
use Rattle.call_definitions.specs.SignOn.{sign_on_rules, sign_on_now, sign_on}
use Rattle.batch_messages.specs.BatchMessages.{sign_on_fields, sign_on_message}
use Rattle.effect_definitions.specs.StateEffects.{asks_sign_on}
use Rattle.batch_messages.proofs.Held.{sign_on-held, sign_on-listed}
use Rattle.outgoing.specs.Held.{SettingsHeld}
use Rattle.call_sign_on.proofs.Refusals.{fits}

module _ (s : State) (lent : Lent) (z : 0 ≡ first_broken (sign_on_rules s lent)) (lt : length s.settings.terminal ≡ 8)
    (lm : length s.settings.merchant ≡ 15) where
  settings-held : SettingsHeld s.settings
  settings-held =
      let x = (fits s lent (sym z)).order.state.settings in
      record {
        terminal_length = lt;
        merchant_length = lm;
        terminal_printable = x.terminal_printable;
        merchant_printable = x.merchant_printable;
      }

  -- the message, its length and the bytes in the buffer are those of the sign-on
  leaves : (trace : Trace) (b : Message) (k : ℕ) (o : List ℕ) (after : State)
      → b ≡ with_all (sign_on_fields s.settings s.batch trace) (message_of 0x0800 [])
      → k ≡ length_of (write_message b lent.message).outcome → o ≡ (write_message b lent.message).buffer → after ≡ asks_sign_on s trace
      → result_of (record { outcome = Send k; state = after }) (with_message o lent) ≡ sign_on_now s trace lent
  unfolding sign_on_message
  leaves trace b k o after p q w u =
      let fs = sign_on_fields s.settings s.batch trace in
      let h = sign_on-held s.settings s.batch settings-held trace in
      let is = p ∙ all_composed 0x0800 fs h in
      let room = (fits s lent (sym z)).message_room in
      let wr = ap (λ (x : Message). write_message x lent.message) is ∙ written_is 0x0800 fs lent.message sign_on-listed h room in
      rw (q, w, u, wr)

  pub is-sent : (trace : Trace) (b : Message) (k : ℕ) (o : List ℕ) (after : State)
      → trace ≡ record { 0 = taken (entries_of s.entries lent.journal) s.next.0 }
      → b ≡ with_all (sign_on_fields s.settings s.batch trace) (message_of 0x0800 [])
      → k ≡ length_of (write_message b lent.message).outcome → o ≡ (write_message b lent.message).buffer → after ≡ asks_sign_on s trace
      → result_of (record { outcome = Send k; state = after }) (with_message o lent) ≡ sign_on s lent
  unfolding sign_on
  is-sent trace b k o after x p q w u =
      goes 0 (first_broken (sign_on_rules s lent)) s lent _ _ z refl
      (leaves trace b k o after p q w u ∙ ap (λ (c : Trace). sign_on_now s c lent) x)
