-- Document 02, request 1: the card has the last word, in the history's words.
use Rattle.std.specs.Prelude.{◌≡◌, List, [], ◌∷◌, Bool, true, false, ℕ, ◌<◌}
use Rattle.state.specs.declared.Settings.{Settings}
use Rattle.call_definitions.specs.Events.{Event, sign_on_event, starts, answers, no_answer_event, power_returned_event, card_agrees_event, card_declines_event, send_reversal_event, settles, send_next_upload_event}
use Rattle.call_definitions.specs.Shapes.{SettingsShaped}
use Rattle.history.specs.Words.{carries_chip, is_request, is_settlement}
use Rattle.history.specs.History.{Fate, deciding, consenting, pending, out, ended, Request, quiet, batch_of, count}
use Rattle.history.specs.Demand.{Invocation, Run, runs, begun, InvocationsShaped, Each, EachSent, in_reversals}

-- the last card request of the batch carried field 55
abbrev pub last_carries_chip : List Request → Bool
last_carries_chip [] = false
last_carries_chip (r ∷ rs) = carries_chip r.message

-- no entry without the card's consent where 55 left: a call that adds an entry after such a request is the card's consent
abbrev pub NoEntryWithoutConsent : Type 0
NoEntryWithoutConsent = (x : Settings) (j : List ℕ) (ts : List Invocation) (t : Invocation) → SettingsShaped x → InvocationsShaped ts
    → (let r = runs ts (begun x j) in
    r.state.entries < (runs (t ∷ []) r).state.entries → last_carries_chip (batch_of x.sendings r.history) ≡ true
    → t.event ≡ card_agrees_event)

-- the requests whose card's word is awaited
abbrev pub is_consenting : Fate → Bool
is_consenting deciding = false
is_consenting consenting = true
is_consenting pending = false
is_consenting (out v) = false
is_consenting (ended e) = false

abbrev pub consents : List Request → ℕ
consents rs = count (λ r. is_consenting r.fate) rs

-- the card declines, or is silent
abbrev pub is_decline : Event → Bool
is_decline sign_on_event = false
is_decline (starts d b) = false
is_decline (answers b good) = false
is_decline no_answer_event = true
is_decline power_returned_event = true
is_decline card_agrees_event = false
is_decline card_declines_event = true
is_decline send_reversal_event = false
is_decline settles = false
is_decline send_next_upload_event = false

-- after every list of calls from a fresh terminal of any settings
pub record DeclineFor (l : ℕ) (r : Run) : Type 0 where
  -- a card that declines, or is silent, where its word is awaited, causes a reversal
  pub causes : Each (λ c h. consents (batch_of l h) ≡ 1 → is_decline c.event ≡ true → c.given ≡ quiet → in_reversals (batch_of l (c ∷ h)) ≡ 1) r.history
  -- and from there to the reversal's end no card or settlement request leaves
  pub no_request : EachSent l is_request (λ m rs. in_reversals rs ≡ 0) r.history
  pub no_settlement : EachSent l is_settlement (λ m rs. in_reversals rs ≡ 0) r.history
  -- nor while its word is awaited
  pub no_request_before : EachSent l is_request (λ m rs. consents rs ≡ 0) r.history
  pub no_settlement_before : EachSent l is_settlement (λ m rs. consents rs ≡ 0) r.history

abbrev pub DeclineIsReversed : Type 0
DeclineIsReversed = (x : Settings) (j : List ℕ) (ts : List Invocation) → SettingsShaped x → InvocationsShaped ts
    → DeclineFor x.sendings (runs ts (begun x j))
