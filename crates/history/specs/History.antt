-- Document 01, "Calls": the history is the list of calls, each with the message, quiet change or refusal number that it gave;
-- the card requests of the batch, each with what the later calls made of it.
use Rattle.std.specs.Prelude.{List, [], ◌∷◌, Bool, true, false, cond, ◌&&◌, ℕ, ◌+◌, leb, eqb}
use Rattle.message.specs.Message.{empty}
use Rattle.message.specs.declared.Message.{Message}
use Rattle.call_definitions.specs.Events.{Event, sign_on_event, starts, answers, no_answer_event, power_returned_event, card_agrees_event, card_declines_event, send_reversal_event, settles, send_next_upload_event}
use Rattle.history.specs.Words.{message_in, kind_in, amount_in, carries_chip, is_request, is_reversal, is_matching, approves_request, mac_good, ends_it, closes_batch, is_debit, is_credit}

-- what came back: the message to send, a quiet change or a refusal number
pub data Given : Type 0 where
  sent : List ℕ → Given
  quiet : Given
  refused : ℕ → Given

-- a call: what was handed in, and what came back
pub record Call : Type 0 where
  pub event : Event
  pub given : Given

-- the latest call first, so that the history up to a call is what follows it
abbrev pub History : Type 0
History = List Call

-- how a card request ends
pub data Ending : Type 0 where
  approved declined reversed given_up unanswered : Ending

-- what has become of a card request: it awaits its decision; with a chip, it is approved by the centre and awaits the card's word; its
-- reversal is to be sent, or was sent and awaits its own decision; or it has ended
pub data Fate : Type 0 where
  deciding consenting pending : Fate
  out : Message → Fate
  ended : Ending → Fate

-- a card request: the event that started it, the message sent, its fate, how often its reversal was sent, and the amount that the centre
-- has approved, 0 until then
pub record Request : Type 0 where
  pub start : Event
  pub message : Message
  pub fate : Fate
  pub sendings : ℕ
  pub approved_amount : ℕ

-- the card requests of the batch, the latest first, and the last message sent
pub record Account : Type 0 where
  pub requests : List Request
  pub last : Message

-- a card request as it is sent
abbrev pub asked : Event → Message → Request
asked e m = record { start = e; message = m; fate = deciding; sendings = 0; approved_amount = 0 }

-- a request with another fate
abbrev pub becomes : Fate → Request → Request
becomes f r =
    record { start = r.start; message = r.message; fate = f; sendings = r.sendings; approved_amount = r.approved_amount }

-- a request that the centre approves for an amount, with its fate
abbrev pub approved_for : ℕ → Fate → Request → Request
approved_for x f r =
    record { start = r.start; message = r.message; fate = f; sendings = r.sendings; approved_amount = x }

-- a request whose reversal is sent once more
abbrev pub with_sending : Fate → Request → Request
with_sending f r =
    record { start = r.start; message = r.message; fate = f; sendings = r.sendings + 1; approved_amount = r.approved_amount }

-- silence or bad MAC: kind 25 is unanswered; other kinds make a pending reversal
unfoldable pub pending_or_unanswered : Request → Request
pending_or_unanswered r = becomes (cond (eqb (kind_in r.message) 25) (ended unanswered) pending) r

-- a failed sending: at L sendings the reversal is given up, else it is pending again
unfoldable pub failed : ℕ → Request → Request
failed l r = becomes (cond (leb l r.sendings) (ended given_up) pending) r

-- no answer or power returned, by the request's fate
unfoldable pub when_silent : ℕ → Fate → Request → Request
when_silent l deciding r = pending_or_unanswered r
when_silent l consenting r = becomes pending r
when_silent l pending r = r
when_silent l (out v) r = failed l r
when_silent l (ended e) r = r

-- a good approval, for the amount in the answer (document 02, request 4); with a chip the card has the last word
abbrev pub granted : Message → Request → Request
granted a r = approved_for (amount_in a) (cond (carries_chip r.message) consenting (ended approved)) r

-- an answer that was accepted decides the request or the reversal that it matches
unfoldable pub decided : Bool → Message → Request → Request
decided good a r =
    cond (approves_request r.message a) (cond (mac_good good a) (granted a r) (pending_or_unanswered r)) (becomes (ended declined) r)

unfoldable pub when_heard : ℕ → Bool → List ℕ → Fate → Request → Request
when_heard l good b deciding r = cond (is_matching r.message b) (decided good (message_in b) r) r
when_heard l good b consenting r = r
when_heard l good b pending r = r
when_heard l good b (out v) r = cond (is_matching v b) (cond (ends_it good (message_in b)) (becomes (ended reversed) r) (failed l r)) r
when_heard l good b (ended e) r = r

-- the card agrees, or declines
unfoldable pub when_agreed : Fate → Request → Request
when_agreed deciding r = r
when_agreed consenting r = becomes (ended approved) r
when_agreed pending r = r
when_agreed (out v) r = r
when_agreed (ended e) r = r

unfoldable pub when_declined : Fate → Request → Request
when_declined deciding r = r
when_declined consenting r = becomes pending r
when_declined pending r = r
when_declined (out v) r = r
when_declined (ended e) r = r

-- each request changes by its fate
abbrev pub by_fate : (Fate → Request → Request) → List Request → List Request
by_fate f [] = []
by_fate f (r ∷ rs) = f r.fate r ∷ by_fate f rs

-- a reversal that is sent is that of the last start
unfoldable pub reversing : Message → Fate → Fate
reversing v deciding = deciding
reversing v consenting = consenting
reversing v pending = out v
reversing v (out w) = out w
reversing v (ended e) = ended e

unfoldable pub with_reversal : Message → List Request → List Request
with_reversal v [] = []
with_reversal v (r ∷ rs) = with_sending (reversing v r.fate) r ∷ rs

-- a message is sent at an event
unfoldable pub when_sent : Event → Message → List Request → List Request
when_sent e m rs = cond (is_request m) (asked e m ∷ rs) (cond (is_reversal m) (with_reversal m rs) rs)

-- an accepted answer closes the batch, or decides
unfoldable pub after_answer : ℕ → Bool → List ℕ → Account → List Request
after_answer l good b a =
    cond (is_matching a.last b && closes_batch a.last (message_in b)) [] (by_fate (when_heard l good b) a.requests)

-- a quiet change, by what was handed in
abbrev pub when_quiet : ℕ → Event → Account → List Request
when_quiet l sign_on_event a = a.requests
when_quiet l (starts d b) a = a.requests
when_quiet l (answers b good) a = after_answer l good b a
when_quiet l no_answer_event a = by_fate (when_silent l) a.requests
when_quiet l power_returned_event a = by_fate (when_silent l) a.requests
when_quiet l card_agrees_event a = by_fate when_agreed a.requests
when_quiet l card_declines_event a = by_fate when_declined a.requests
when_quiet l send_reversal_event a = a.requests
when_quiet l settles a = a.requests
when_quiet l send_next_upload_event a = a.requests

abbrev pub when_given : ℕ → Given → Event → Account → Account
when_given l (sent b) e a = record { requests = when_sent e (message_in b) a.requests; last = message_in b }
when_given l quiet e a = record { requests = when_quiet l e a; last = a.last }
when_given l (refused n) e a = a

-- the account of a history, at L sendings
abbrev pub account : ℕ → History → Account
account l [] = record { requests = []; last = empty }
account l (c ∷ h) = when_given l c.given c.event (account l h)

-- the card requests of the batch, which is what left since the last closing
abbrev pub batch_of : ℕ → History → List Request
batch_of l h = (account l h).requests

-- the sum of x over the requests that satisfy p; how many they are, and what was approved for them
abbrev pub sum : (Request → Bool) → (Request → ℕ) → List Request → ℕ
sum p x [] = 0
sum p x (r ∷ rs) = cond (p r) (x r) 0 + sum p x rs

abbrev pub count : (Request → Bool) → List Request → ℕ
count p rs = sum p (λ r. 1) rs

abbrev pub amount : (Request → Bool) → List Request → ℕ
amount p rs = sum p (λ r. r.approved_amount) rs

-- the endings in the order of document 01's counts
abbrev pub rank : Ending → ℕ
rank approved = 0
rank declined = 1
rank reversed = 2
rank given_up = 3
rank unanswered = 4

abbrev pub ended_as : Ending → Fate → Bool
ended_as e deciding = false
ended_as e consenting = false
ended_as e pending = false
ended_as e (out v) = false
ended_as e (ended x) = eqb (rank e) (rank x)

-- until its decision, which with a chip is the card's consent, or, with a reversal, until its end
abbrev pub is_waiting : Fate → Bool
is_waiting deciding = true
is_waiting consenting = true
is_waiting pending = true
is_waiting (out v) = true
is_waiting (ended e) = false

-- between the cause of a reversal and its end
abbrev pub in_reversal : Fate → Bool
in_reversal deciding = false
in_reversal consenting = false
in_reversal pending = true
in_reversal (out v) = true
in_reversal (ended e) = false

-- the approved requests of a side
abbrev pub approved_debit : Request → Bool
approved_debit r = ended_as approved r.fate && is_debit r.message

abbrev pub approved_credit : Request → Bool
approved_credit r = ended_as approved r.fate && is_credit r.message
