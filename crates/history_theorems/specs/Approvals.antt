-- The journal, from the history: one entry for each approved card request of the batch, with what the request that left and the answer
-- that approved it hold.
use Rattle.std.specs.Prelude.{◌≡◌, List, [], ◌∷◌, ◌++◌, Bool, true, false, cond, not, ◌&&◌, ◌||◌, ℕ, zero, suc, ◌+◌, ◌≤◌, eqb, length, take}
use Rattle.digits.specs.Packed.{numeral}
use Rattle.field.specs.Bitmap.{names}
use Rattle.message.specs.Message.{field_of}
use Rattle.message.specs.declared.Message.{Message}
use Rattle.parts.specs.Parts.{part_of}
use Rattle.parts.specs.declared.Part.TheVariants as part
use Rattle.entry.specs.declared.Entry.{Entry}
use Rattle.journal.specs.Journal.{entries_of}
use Rattle.state.specs.declared.Settings.{Settings}
use Rattle.call_definitions.specs.Events.{Event, sign_on_event, starts, answers, no_answer_event, power_returned_event, card_agrees_event, card_declines_event, send_reversal_event, settles, send_next_upload_event}
use Rattle.call_definitions.specs.Shapes.{SettingsShaped}
use Rattle.history.specs.Words.{message_in, kind_in, amount_in, carries_chip, is_request, approves_request, mac_good, closes_batch}
use Rattle.history.specs.History.{Given, sent, quiet, refused, History}
use Rattle.history.specs.Demand.{Invocation, runs, begun, InvocationsShaped}
use Rattle.history_theorems.specs.Standing.{Standing, trace_in, standing}

-- a card request that was sent, and the answer that approved it
pub record Approval : Type 0 where
  pub request : Message
  pub answer : Message

-- a good answer approves the card request that was sent last, if it has no chip; an answer that closes the batch empties the list
unfoldable pub when_heard : Bool → Message → Standing → List Approval → List Approval
when_heard good a x xs =
    cond (closes_batch x.message a) []
    (cond (is_request x.message && (not (carries_chip x.message) && (approves_request x.message a && mac_good good a))) (xs ++ (record { request = x.message; answer = a } ∷ [])) xs)

-- the card's consent approves the request that was sent last, by the answer before it
abbrev pub when_quiet : Event → Standing → List Approval → List Approval
when_quiet sign_on_event x xs = xs
when_quiet (starts d b) x xs = xs
when_quiet (answers b good) x xs = cond x.awaited (when_heard good (message_in b) x xs) xs
when_quiet no_answer_event x xs = xs
when_quiet power_returned_event x xs = xs
when_quiet card_agrees_event x xs = xs ++ (record { request = x.message; answer = x.answer } ∷ [])
when_quiet card_declines_event x xs = xs
when_quiet send_reversal_event x xs = xs
when_quiet settles x xs = xs
when_quiet send_next_upload_event x xs = xs

abbrev pub when_given : Given → Event → Standing → List Approval → List Approval
when_given (sent b) e x xs = xs
when_given quiet e x xs = when_quiet e x xs
when_given (refused n) e x xs = xs

-- the approved card requests of the batch, the oldest first
abbrev pub approvals : History → List Approval
approvals [] = []
approvals (c ∷ h) = when_given c.given c.event (standing h) (approvals h)

-- the sum of f over the approvals whose kind passes a test
abbrev pub sum_for : (ℕ → Bool) → (Approval → ℕ) → List Approval → ℕ
sum_for t f [] = 0
sum_for t f (x ∷ xs) = cond (t (kind_in x.request)) (f x) 0 + sum_for t f xs

-- for the answered amount (document 02, request 4)
abbrev pub answered : Approval → ℕ
answered x = amount_in x.answer

-- the trace of the request that a void names
unfoldable pub original_in : Message → ℕ
original_in m = numeral (part_of m part.OriginalTrace)

-- a 23 voids the 22 that it names, a 21 the 20
unfoldable pub voids : Message → Message → Bool
voids v m =
    (eqb (kind_in v) 21 || eqb (kind_in v) 23)
    && (eqb (kind_in m) (cond (eqb (kind_in v) 23) 22 20) && eqb (trace_in m) (original_in v))

abbrev pub voided_by : Message → List Approval → Bool
voided_by m [] = false
voided_by m (x ∷ xs) = voids x.request m || voided_by m xs

-- field 38 of an answer, or six spaces
abbrev pub authorisation_in : Message → List ℕ
authorisation_in a = cond (names a.bitmap 38) (field_of a 38).bytes (0x20 ∷ 0x20 ∷ 0x20 ∷ 0x20 ∷ 0x20 ∷ 0x20 ∷ [])

-- of the approval at a place
abbrev pub AtPlace : ℕ → (Approval → Type 0) → List Approval → Type 0
AtPlace i P [] = ⊥
AtPlace zero P (x ∷ xs) = P x
AtPlace (suc i) P (x ∷ xs) = AtPlace i P xs

-- of the approvals that void a request, that each is for this amount
abbrev pub Repays : ℕ → Message → List Approval → Type 0
Repays n m [] = Unit {0}
Repays n m (v ∷ vs) = (voids v.request m ≡ true → amount_in v.answer ≡ n) × Repays n m vs

-- an entry of an approval, with those after it
pub record IsEntry (e : Entry) (x : Approval) (later : List Approval) : Type 0 where
  pub kind_is : e.kind ≡ kind_in x.request
  pub trace_is : e.trace.0 ≡ trace_in x.request
  -- for the answered amount (document 02, request 4)
  pub amount_is : e.amount ≡ amount_in x.answer
  -- no larger than what was asked; only a sale's may be smaller
  pub amount_most : e.amount ≤ amount_in x.request
  pub amount_whole : eqb (kind_in x.request) 22 ≡ false → e.amount ≡ amount_in x.request
  pub digits_are : e.digits ≡ (field_of x.request 2).count
  pub card_is : take (length (field_of x.request 2).bytes) e.card ≡ (field_of x.request 2).bytes
  -- its date is the answer's field 13
  pub date_is : e.date ≡ (field_of x.answer 13).bytes
  pub authorisation_is : e.authorisation ≡ authorisation_in x.answer
  pub reference_is : e.reference ≡ (field_of x.answer 37).bytes
  -- it is voided exactly where a later approval voids it
  pub voided_is : e.voided ≡ cond (voided_by x.request later) 1 0
  -- and a void takes back exactly what it holds
  pub repaid_is : Repays e.amount x.request later

-- an entry for each approval, in order
abbrev pub AreEntries : List Entry → List Approval → Type 0
AreEntries [] [] = Unit {0}
AreEntries [] (x ∷ xs) = ⊥
AreEntries (e ∷ es) [] = ⊥
AreEntries (e ∷ es) (x ∷ xs) = IsEntry e x xs × AreEntries es xs

-- after every list of calls from a fresh terminal of any settings
abbrev pub JournalIsApprovals : Type 0
JournalIsApprovals = (x : Settings) (j : List ℕ) (ts : List Invocation) → SettingsShaped x → InvocationsShaped ts
    → (let r = runs ts (begun x j) in AreEntries (entries_of r.state.entries r.journal) (approvals r.history))
