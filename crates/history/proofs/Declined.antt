-- A card that declines, or is silent, where its word is awaited: its request is between the cause of its reversal and its end.
use mathlib.Core.Path.{◌≡◌, refl, sym, ◌∙◌}
use mathlib.Core.List.{◌∷◌}
use mathlib.Core.Bool.{Bool, true, false, true≢false}
use Prim.Native.Nat.{ℕ}
use native.Mathlib.Omega.{arith}
use Rattle.numbers.specs.declared.Batch.{Batch}
use Rattle.state.specs.declared.Awaited.{Awaited}
use Rattle.state.specs.declared.Awaited.TheVariants as awaited
use Rattle.state.specs.declared.Chip.{Chip}
use Rattle.state.specs.declared.Phase.{Phase}
use Rattle.state.specs.declared.Phase.TheVariants.{Resting, Waiting, Pending, Settling, Uploading}
use Rattle.state.specs.declared.Settings.{Settings}
use Rattle.state.specs.declared.State.{State}
use Rattle.call_definitions.specs.Events.{Event, sign_on_event, starts, answers, no_answer_event, power_returned_event, card_agrees_event, card_declines_event, send_reversal_event, settles, send_next_upload_event}
use Rattle.history.specs.History.{Given, quiet, Fate, deciding, consenting, pending, out, Request, Account, becomes, by_fate, when_silent, when_declined, when_given}
use Rattle.history.specs.Demand.{in_reversals}
use Rattle.history.specs.Consent.{is_consenting, consents, is_decline}
use Rattle.history.proofs.Requests.{silent-ended, declined-ended, none-reversing, none_consenting}
use Rattle.history.proofs.Tied.{Latest, latest-changed, awaited_fate, AwaitedShape, Shape, Tied}

-- a call that gives a quiet change while a card's word is awaited
abbrev pub Declined : Event → Given → ℕ → Account → Type 0
Declined e g l a = consents a.requests ≡ 1 → is_decline e ≡ true → g ≡ quiet → in_reversals (when_given l g e a).requests ≡ 1

module _ (l : ℕ) (a : Account) where
  -- nothing to say where no card's word is awaited
  none : consents a.requests ≡ 0 → (e : Event) (g : Given) → Declined e g l a
  none z e g c = absurd (omega (arith, sym z ∙ c))

  module _ (n : ℕ) where
    no_consent : (f : Fate) → is_consenting f ≡ false → Latest l f n a → consents a.requests ≡ 0
    no_consent f w d = rw (d.requests_are, d.fate_is, w, none_consenting l d.rest d.done)

    one-pending : (f : Fate → Request → Request) (d : Latest l consenting n a) → by_fate f a.requests ≡ becomes pending d.head ∷ d.rest
        → in_reversals (by_fate f a.requests) ≡ 1
    one-pending f d e = rw (e, none-reversing l d.rest d.done)

    -- the latest request waits for its card
    declined-latest : (e : Event) → Latest l consenting n a → is_decline e ≡ true → in_reversals (when_given l quiet e a).requests ≡ 1
    unfolding when_silent when_declined
    declined-latest sign_on_event d y = absurd (true≢false (sym y))
    declined-latest (starts k b) d y = absurd (true≢false (sym y))
    declined-latest (answers b good) d y = absurd (true≢false (sym y))
    declined-latest no_answer_event d y = one-pending (when_silent l) d (latest-changed d (when_silent l) (silent-ended l))
    declined-latest power_returned_event d y = one-pending (when_silent l) d (latest-changed d (when_silent l) (silent-ended l))
    declined-latest card_agrees_event d y = absurd (true≢false (sym y))
    declined-latest card_declines_event d y = one-pending when_declined d (latest-changed d when_declined declined-ended)
    declined-latest send_reversal_event d y = absurd (true≢false (sym y))
    declined-latest settles d y = absurd (true≢false (sym y))
    declined-latest send_next_upload_event d y = absurd (true≢false (sym y))

  awaited-declined : (b : Bool) (e : Event) (g : Given) → Latest l (awaited_fate b) 0 a → Declined e g l a
  awaited-declined true e g d = λ c y q. rw q (declined-latest 0 e d y)
  awaited-declined false e g d = none (no_consent 0 deciding refl d) e g

  module _ (x : Settings) (batch : Batch) (k : Chip) (e : Event) (g : Given) where
    awaited-call : (w : Awaited) → AwaitedShape l x batch k w a → Declined e g l a
    awaited-call (awaited.Request q) d = awaited-declined k.approved e g d.latest
    awaited-call (awaited.Reversal v) d = none (no_consent v.sendings (out d.reversal) refl d.latest) e g
    awaited-call (awaited.Settlement t) d = none (none_consenting l a.requests d.done) e g
    awaited-call (awaited.Item i) d = none (none_consenting l a.requests d.done) e g
    awaited-call (awaited.End t) d = none (none_consenting l a.requests d.done) e g

    phase-call : (p : Phase) → Shape l x batch k p a → Declined e g l a
    phase-call Resting d = none (none_consenting l a.requests d) e g
    phase-call (Waiting w) d = awaited-call w d
    phase-call (Pending v) d = none (no_consent v.sendings pending refl d) e g
    phase-call Settling d = none (none_consenting l a.requests d) e g
    phase-call Uploading d = none (none_consenting l a.requests d) e g

pub declined-call : (e : Event) (g : Given) (l : ℕ) (s : State) (a : Account) → Tied l s a → Declined e g l a
declined-call e g l s a h = phase-call l a s.settings s.batch s.chip e g s.phase h.shape
