-- What a reader would ask of the calls, for every input.
use Rattle.std.specs.Prelude.{◌≡◌, List, ◌++◌, Bool, true, false, ℕ, zero, suc, ◌+◌, ◌<◌, length, drop}
use Rattle.reading.specs.Reading.{read_message, Read}
use Rattle.state.specs.declared.Reversal.{Reversal}
use Rattle.state.specs.declared.State.{State}
use Rattle.state.specs.declared.Outcome.TheVariants.{Send, Quiet, Refused}
use Rattle.state.specs.declared.Phase.TheVariants.{Resting, Pending}
use Rattle.state.specs.State.{chip_bytes, signs_on}
use Rattle.state.specs.Calls.{Lent, lend, Result, refused}
use Rattle.state_rules.specs.StateRules.{waiting}
use Rattle.call_theorems.specs.Ready.{Ready}
use Rattle.call_definitions.specs.SendReversal.{send_reversal}
use Rattle.call_definitions.specs.Answer.{no_answer}
use Rattle.call_definitions.specs.Events.{Event, sign_on_event, starts, answers, no_answer_event, power_returned_event, card_agrees_event, card_declines_event, send_reversal_event, settles, send_next_upload_event, call}
use Rattle.call_definitions.specs.Shapes.{SettingsShaped, EventShaped}

-- the call that asks for a sign-on
abbrev pub is_sign_on : Event → Bool
is_sign_on sign_on_event = true
is_sign_on (starts d b) = false
is_sign_on (answers b good) = false
is_sign_on no_answer_event = false
is_sign_on power_returned_event = false
is_sign_on card_agrees_event = false
is_sign_on card_declines_event = false
is_sign_on send_reversal_event = false
is_sign_on settles = false
is_sign_on send_next_upload_event = false

-- a refused call changes nothing
abbrev pub RefusedChangesNothing : Type 0
RefusedChangesNothing = (e : Event) (s : State) (lent : Lent) (n : ℕ) → (call e s lent).outcome ≡ Refused n → call e s lent ≡ refused n s lent

-- a quiet change leaves the message buffer
abbrev pub QuietLeavesMessage : Type 0
QuietLeavesMessage = (e : Event) (s : State) (lent : Lent) → (call e s lent).outcome ≡ Quiet → (call e s lent).lent.message ≡ lent.message

-- the settings never change
abbrev pub SettingsStay : Type 0
SettingsStay = (e : Event) (s : State) (lent : Lent) → (call e s lent).state.settings ≡ s.settings

-- document 02, request 1: field 55 of a card request stays as it was sent until the request ends, so that its reversal carries it
abbrev pub ChipStaysAsSent : Type 0
ChipStaysAsSent = (e : Event) (s : State) (lent : Lent) → waiting s.phase ≡ 1 → waiting (call e s lent).state.phase ≡ 1
    → chip_bytes (call e s lent).state.chip ≡ chip_bytes s.chip

-- document 02, request 3: only a sign-on that leaves is awaited as one, and while it is, nothing else leaves
abbrev pub OnlySignOnAwaited : Type 0
OnlySignOnAwaited = (e : Event) (s : State) (lent : Lent) → is_sign_on e ≡ false → signs_on (call e s lent).state ≡ true → signs_on s ≡ true

abbrev pub NothingLeavesMeanwhile : Type 0
NothingLeavesMeanwhile = (e : Event) (s : State) (lent : Lent) (k : ℕ) → (call e s lent).outcome ≡ Send k → signs_on s ≡ false

-- outcome, state and journal depend on the message buffer only through its length
pub record SameButMessage (r q : Result) : Type 0 where
  pub outcome_is : r.outcome ≡ q.outcome
  pub state_is : r.state ≡ q.state
  pub journal_is : r.lent.journal ≡ q.lent.journal

abbrev pub MessageByLength : Type 0
MessageByLength = (e : Event) (s : State) (j m n : List ℕ) → length m ≡ length n → SameButMessage (call e s (lend j m)) (call e s (lend j n))

-- what leaves is a message that reads, so many bytes long; bytes past it stay
pub record Leaves (k : ℕ) (o m : List ℕ) : Type 0 where
  pub bytes : List ℕ
  pub count : length bytes ≡ k
  pub reads : (read_message bytes).outcome ≡ Read
  pub rest : o ≡ bytes ++ drop k m

abbrev pub SentReads : Type 0
SentReads = (e : Event) (s : State) (lent : Lent) (k : ℕ) → SettingsShaped s.settings → EventShaped e
    → (call e s lent).outcome ≡ Send k → Leaves k (call e s lent).lent.message lent.message

-- a pending reversal sent, and silence after it, k times
abbrev pub silenced : Result → Result
silenced r = no_answer r.state r.lent

abbrev pub failures : ℕ → Result → Result
failures zero r = r
failures (suc k) r = silenced (send_reversal (failures k r).state (failures k r).lent)

-- the reversal after k sendings
abbrev pub sent_times : ℕ → Reversal → Reversal
sent_times k v = record { request = v.request; reason = v.reason; sendings = k }

-- L failed sendings give a reversal up and the desk is free; before that it is pending again
pub record GivenUp (r : Result) (v : Reversal) : Type 0 where
  pub leaves : (k : ℕ) → k < r.state.settings.sendings
      → (n : ℕ) × ((send_reversal (failures k r).state (failures k r).lent).outcome ≡ Send n)
  pub pending : (k : ℕ) → k < r.state.settings.sendings → (failures k r).state.phase ≡ Pending (sent_times k v)
  pub free : (failures r.state.settings.sendings r).state.phase ≡ Resting
  pub counted : (failures r.state.settings.sendings r).state.counts.given_up ≡ r.state.counts.given_up + 1

abbrev pub GivenUpAfterL : Type 0
GivenUpAfterL = (r : Result) (v : Reversal) → Ready r.state r.lent → r.state.signed_on ≡ true
    → r.state.phase ≡ Pending v → signs_on r.state ≡ false → v.sendings ≡ 0 → GivenUp r v
