-- Demand 3, sentence by sentence.
use Rattle.std.specs.Prelude.{◌≡◌, List, [], ◌∷◌, Bool, true, not, ◌||◌, ℕ, ◌+◌, ◌≤◌, length, take, Some}
use Rattle.message.specs.declared.Message.{Message}
use Rattle.parts.specs.Parts.{part_of}
use Rattle.parts.specs.declared.Part.TheVariants as part
use Rattle.state.specs.State.{fresh}
use Rattle.state.specs.Calls.{lend, Result}
use Rattle.state.specs.declared.Counts.{Counts}
use Rattle.state.specs.declared.Outcome.{Outcome}
use Rattle.state.specs.declared.Outcome.TheVariants.{Send, Quiet, Refused}
use Rattle.state.specs.declared.Settings.{Settings}
use Rattle.state.specs.declared.State.{State}
use Rattle.call_definitions.specs.Events.{Event, call}
use Rattle.call_definitions.specs.Shapes.{SettingsShaped, EventShaped}
use Rattle.history.specs.Words.{message_in, is_request, is_reversal, is_settlement, is_sign_on}
use Rattle.history.specs.History.{Given, sent, quiet, refused, Call, History, Ending, approved, declined, reversed, given_up, unanswered, Request, batch_of, count, amount, ended_as, is_waiting, in_reversal, approved_debit, approved_credit}

-- a call to make: what is handed in, and the message buffer lent
pub record Invocation : Type 0 where
  pub event : Event
  pub message : List ℕ

-- terminal, journal and history after some calls
pub record Run : Type 0 where
  pub state : State
  pub journal : List ℕ
  pub history : History

abbrev pub given_by : Outcome → List ℕ → Given
given_by (Send n) m = sent (take n m)
given_by Quiet m = quiet
given_by (Refused n) m = refused n

-- a call's result goes into the history
abbrev pub recorded : Invocation → Run → Result → Run
recorded t r q =
    record {
      state = q.state;
      journal = q.lent.journal;
      history = record { event = t.event; given = given_by q.outcome q.lent.message } ∷ r.history;
    }

-- each call gets the terminal and journal as the last one left them
abbrev pub runs : List Invocation → Run → Run
runs [] r = r
runs (t ∷ ts) r = runs ts (recorded t r (call t.event r.state (lend r.journal t.message)))

-- a fresh terminal of any settings, with any journal lent
abbrev pub begun : Settings → List ℕ → Run
begun x j = record { state = fresh x; journal = j; history = [] }

-- the arrays handed in have their lengths, as in every value of the types
abbrev pub InvocationsShaped : List Invocation → Type 0
InvocationsShaped [] = Unit {0}
InvocationsShaped (t ∷ ts) = EventShaped t.event × InvocationsShaped ts

-- of each call of a history, with the history up to then
abbrev pub Each : (Call → History → Type 0) → History → Type 0
Each P [] = Unit {0}
Each P (c ∷ h) = P c h × Each P h

-- of each message sent that passes a test, with the card requests of the batch in the history up to then
abbrev pub EachSent : ℕ → (Message → Bool) → (Message → List Request → Type 0) → History → Type 0
EachSent l p P history = Each (λ c h. (b : List ℕ) → c.given ≡ sent b → p (message_in b) ≡ true → P (message_in b) (batch_of l h)) history

-- of each request of a list
abbrev pub EachRequest : (Request → Type 0) → List Request → Type 0
EachRequest P [] = Unit {0}
EachRequest P (q ∷ qs) = P q × EachRequest P qs

-- the number of requests that ended so, that wait, that are between the cause of their reversal and its end
abbrev pub endings : Ending → List Request → ℕ
endings e rs = count (λ r. ended_as e r.fate) rs

abbrev pub waiting : List Request → ℕ
waiting rs = count (λ r. is_waiting r.fate) rs

abbrev pub in_reversals : List Request → ℕ
in_reversals rs = count (λ r. in_reversal r.fate) rs

-- the six counts that the batch's history gives
abbrev pub counts_of : List Request → Counts
counts_of rs =
    record {
      sent = length rs;
      approved = endings approved rs;
      declined = endings declined rs;
      reversed = endings reversed rs;
      given_up = endings given_up rs;
      unanswered = endings unanswered rs;
    }

-- sent = approved + declined + reversed + given up + unanswered + waiting
abbrev pub Balanced : Counts → ℕ → Type 0
Balanced c w = c.sent ≡ c.approved + c.declined + c.reversed + c.given_up + c.unanswered + w

-- a settlement request carries exactly the debit and credit amounts and counts of the batch's approved requests
pub record Carries (m : Message) (rs : List Request) : Type 0 where
  pub debit_amount : part_of m part.DebitAmount ≡ Some (amount approved_debit rs)
  pub debit_count : part_of m part.DebitCount ≡ Some (count approved_debit rs)
  pub credit_amount : part_of m part.CreditAmount ≡ Some (amount approved_credit rs)
  pub credit_count : part_of m part.CreditCount ≡ Some (count approved_credit rs)

pub record Demand3For (l : ℕ) (r : Run) : Type 0 where
  -- every settlement request that leaves carries exactly the debit and credit amounts and counts of the batch's approved
  -- requests in the history up to then
  pub settlements : EachSent l is_settlement Carries r.history
  -- after the list the terminal's six counts are exactly those that the batch's history gives
  pub counts : r.state.counts ≡ counts_of (batch_of l r.history)
  -- and sent = approved + declined + reversed + given up + unanswered + waiting, each counted from the history: true of any list
  -- of requests, since each has one fate; its force lies in `counts` and `one-waits`
  pub balance : Balanced (counts_of (batch_of l r.history)) (waiting (batch_of l r.history))
  pub one_waits : waiting (batch_of l r.history) ≤ 1
  -- between the cause of a reversal and its end no card or settlement request leaves
  pub no_request : EachSent l is_request (λ m rs. in_reversals rs ≡ 0) r.history
  pub no_settlement : EachSent l is_settlement (λ m rs. in_reversals rs ≡ 0) r.history
  -- the only request that may leave there is a sign-on (document 02, request 3): whatever else leaves but the reversal itself
  pub alone : EachSent l (λ m. not (is_reversal m || is_sign_on m)) (λ m rs. in_reversals rs ≡ 0) r.history
  -- each reversal, that of one start, leaves at most the set number of times; none leaves but between its cause and its end
  pub reversals : EachSent l is_reversal (λ m rs. in_reversals rs ≡ 1) r.history
  pub limited : Each (λ c h. EachRequest (λ q. q.sendings ≤ l) (batch_of l (c ∷ h))) r.history

-- for every settings value, every journal and message buffer lent, and every list of the ten calls
abbrev pub Demand3 : Type 0
Demand3 = (x : Settings) (j : List ℕ) (ts : List Invocation) → SettingsShaped x → InvocationsShaped ts
    → Demand3For x.sendings (runs ts (begun x j))
