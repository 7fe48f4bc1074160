-- Document 01, "State and journal": bytes after the last entry are not read; nor are they changed but for the entry of an approval.
use Rattle.std.specs.Prelude.{◌≡◌, List, Bool, false, cond, not, ◌&&◌, ℕ, ◌+◌, ◌*◌, ◌≤◌, leb, length, take, drop}
use Rattle.message.specs.declared.Message.{Message}
use Rattle.reading.specs.Reading.{read_message}
use Rattle.entry.specs.Entry.{entry_size}
use Rattle.state.specs.declared.Awaited.{Awaited}
use Rattle.state.specs.declared.Awaited.TheVariants as awaited
use Rattle.state.specs.declared.Phase.{Phase}
use Rattle.state.specs.declared.Phase.TheVariants.{Resting, Waiting, Pending, Settling, Uploading}
use Rattle.state.specs.declared.State.{State}
use Rattle.state.specs.State.{has_chip}
use Rattle.state.specs.Calls.{Lent, lend, Result}
use Rattle.answer_match.specs.Match.{approves_request, good_mac}
use Rattle.call_definitions.specs.Answer.{awaits_card}
use Rattle.call_definitions.specs.Events.{Event, call, sign_on_event, starts, answers, no_answer_event, power_returned_event, card_agrees_event, card_declines_event, send_reversal_event, settles, send_next_upload_event}

-- the bytes of the journal up to the last of n entries, and those after it
abbrev pub up_to : ℕ → List ℕ → List ℕ
up_to n j = take (entry_size * n) j

abbrev pub after : ℕ → List ℕ → List ℕ
after n j = drop (entry_size * n) j

-- not read: two journals of one length that agree up to the last entry give the same, and agree up to the last entry after the call
pub record SameButRest (r q : Result) : Type 0 where
  pub outcome_is : r.outcome ≡ q.outcome
  pub state_is : r.state ≡ q.state
  pub message_is : r.lent.message ≡ q.lent.message
  pub entries_are : up_to r.state.entries r.lent.journal ≡ up_to r.state.entries q.lent.journal

abbrev pub UnusedNotRead : Type 0
UnusedNotRead = (e : Event) (s : State) (i j m : List ℕ) → length i ≡ length j → up_to s.entries i ≡ up_to s.entries j
    → SameButRest (call e s (lend i m)) (call e s (lend j m))

-- not changed: the journal keeps its length, and its bytes after the entries before and after the call
abbrev pub larger : ℕ → ℕ → ℕ
larger n k = cond (leb n k) k n

pub record RestStays (s : State) (lent : Lent) (r : Result) : Type 0 where
  pub length_is : length r.lent.journal ≡ length lent.journal
  pub rest-is : after (larger s.entries r.state.entries) r.lent.journal ≡ after (larger s.entries r.state.entries) lent.journal

abbrev pub UnusedNotChanged : Type 0
UnusedNotChanged = (e : Event) (s : State) (lent : Lent) → RestStays s lent (call e s lent)

-- only an approval writes an entry, and no more than one: a card request is awaited, and 39 is 00, for a sale also 10, with good MAC;
-- with a chip it is the card's consent after that (document 02, request 1)
abbrev pub approves_awaited : Awaited → Bool → Message → Bool
approves_awaited (awaited.Request q) good a = approves_request q.kind a && good_mac good a
approves_awaited (awaited.Reversal v) good a = false
approves_awaited (awaited.Settlement x) good a = false
approves_awaited (awaited.Item i) good a = false
approves_awaited (awaited.End x) good a = false

abbrev pub approves_in : Phase → Bool → Message → Bool
approves_in Resting good a = false
approves_in (Waiting w) good a = approves_awaited w good a
approves_in (Pending v) good a = false
approves_in Settling good a = false
approves_in Uploading good a = false

abbrev pub is_approval : Event → State → Bool
is_approval sign_on_event s = false
is_approval (starts d b) s = false
is_approval (answers b good) s = approves_in s.phase good (read_message b).message && not (has_chip s.chip)
is_approval no_answer_event s = false
is_approval power_returned_event s = false
is_approval card_agrees_event s = awaits_card s
is_approval card_declines_event s = false
is_approval send_reversal_event s = false
is_approval settles s = false
is_approval send_next_upload_event s = false

abbrev pub EntriesByApproval : Type 0
EntriesByApproval = (e : Event) (s : State) (lent : Lent) → (call e s lent).state.entries ≤ s.entries + cond (is_approval e s) 1 0
