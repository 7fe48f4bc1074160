-- Which calls are refused, by which number, and what the others give: for every list of calls, from where the history says that the
-- terminal stands. Nothing here is the terminal's own but the reading of messages.
use Rattle.std.specs.Prelude.{◌≡◌, List, [], ◌∷◌, ◌++◌, Bool, true, false, cond, not, ◌&&◌, ◌||◌, ℕ, ◌≤◌, ◌<◌, ltb, eqb, Some}
use Rattle.field.specs.Table.{among}
use Rattle.field.specs.Bitmap.{names}
use Rattle.message.specs.Message.{field_of}
use Rattle.message.specs.declared.Message.{Message}
use Rattle.reading.specs.Reading.{read_message, ReadOutcome, Read, Refused}
use Rattle.parts.specs.Parts.{part_of}
use Rattle.parts.specs.declared.Part.TheVariants as part
use Rattle.state.specs.declared.Settings.{Settings}
use Rattle.elements.specs.Elements.{chip_in_form}
use Rattle.call_definitions.specs.Events.{Event, sign_on_event, starts, answers, no_answer_event, power_returned_event, card_agrees_event, card_declines_event, send_reversal_event, settles, send_next_upload_event}
use Rattle.call_definitions.specs.Shapes.{SettingsShaped}
use Rattle.history.specs.Words.{message_in, carries_chip, is_request, is_reversal, is_settlement, is_sign_on, is_matching, chip_kinds}
use Rattle.history.specs.History.{Given, sent, quiet, refused, Fate, deciding, consenting, pending, out, ended, Request, batch_of, count}
use Rattle.history.specs.Demand.{Invocation, runs, begun, InvocationsShaped, Each}
use Rattle.history_theorems.specs.Standing.{Stage, running, settling, uploading, Standing, standing, SignOn, sign_on}

-- a reversal is to be sent
abbrev pub is_pending : Fate → Bool
is_pending deciding = false
is_pending consenting = false
is_pending pending = true
is_pending (out v) = false
is_pending (ended e) = false

unfoldable pub reversal_pending : List Request → Bool
reversal_pending rs = ltb 0 (count (λ r. is_pending r.fate) rs)

abbrev pub closes : Stage → Bool
closes running = false
closes settling = true
closes uploading = true

abbrev pub uploads : Stage → Bool
uploads running = false
uploads settling = false
uploads uploading = true

-- the number by which bytes are refused that do not read
abbrev pub unread : ReadOutcome → ℕ → ℕ
unread Read n = n
unread (Refused k) n = k

-- an answer or the card's word is awaited
abbrev pub awaits : SignOn → Standing → Bool
awaits w x = x.awaited || w.awaited

-- the message whose answer is awaited
abbrev pub asked : SignOn → Standing → Message
asked w x = cond x.awaited x.message w.message

-- 10 and 11 of a call that sends, then its own
unfoldable pub when_idle : SignOn → Standing → ℕ → ℕ
when_idle w x n = cond (not x.signed) 10 (cond (awaits w x) 11 n)

-- the number by which a call is refused, 0 for none; at a start those up to 13
abbrev pub number_of : Event → SignOn → Standing → Bool → ℕ
number_of sign_on_event w x reverses = cond (awaits w x) 11 0
number_of (starts d b) w x reverses =
    cond (d.chip && among d.kind chip_kinds && not (chip_in_form b)) 23 (when_idle w x (cond reverses 12 (cond (closes x.stage) 13 0)))
number_of (answers b good) w x reverses =
    unread (read_message b).outcome (cond (awaits w x && not x.card) (cond (is_matching (asked w x) b) 0 22) 14)
number_of no_answer_event w x reverses = cond (awaits w x) 0 14
number_of power_returned_event w x reverses = 0
number_of card_agrees_event w x reverses = cond x.card 0 14
number_of card_declines_event w x reverses = cond x.card 0 14
number_of send_reversal_event w x reverses = when_idle w x (cond reverses 0 14)
number_of settles w x reverses = when_idle w x (cond reverses 12 (cond (uploads x.stage) 13 0))
number_of send_next_upload_event w x reverses = when_idle w x (cond (uploads x.stage) 0 14)

-- upload items and the upload's end go as 0320
unfoldable pub is_upload : Message → Bool
is_upload m = eqb m.indicator 0x0320

-- a message of this type leaves, and field 60 has the number of the batch
abbrev pub Sends : (Message → Bool) → ℕ → Given → Type 0
Sends p batch (sent b) = (p (message_in b) ≡ true) × (part_of (message_in b) part.Batch ≡ Some batch)
Sends p batch quiet = ⊥
Sends p batch (refused n) = ⊥

-- the fields of every card request, and the one that it has with a chip
abbrev pub card_fields : List ℕ
card_fields = 2 ∷ 3 ∷ 4 ∷ 11 ∷ 22 ∷ 25 ∷ 41 ∷ 42 ∷ 49 ∷ 60 ∷ 64 ∷ []

abbrev pub chip_field : Message → List ℕ
chip_field m = cond (carries_chip m) (55 ∷ []) []

-- a message names exactly these fields
abbrev pub NamesJust : List ℕ → Message → Type 0
NamesJust ns m = (n : ℕ) → 0 < n → n ≤ 64 → names m.bitmap n ≡ among n ns

-- of each number of a list
abbrev pub EachOf : (ℕ → Type 0) → List ℕ → Type 0
EachOf P [] = Unit {0}
EachOf P (n ∷ ns) = P n × EachOf P ns

-- the reversal is 0400 with the request's fields other than 37, 38, 61, plus 39 = reason
pub record Reverses (m : Message) (x : Standing) : Type 0 where
  pub type_is : is_reversal m ≡ true
  pub named : NamesJust (card_fields ++ (chip_field x.request ++ (39 ∷ []))) m
  pub same : EachOf (λ n. field_of m n ≡ field_of x.request n) card_fields
  pub chip_same : carries_chip x.request ≡ true → field_of m 55 ≡ field_of x.request 55
  pub reason_is : (field_of m 39).bytes ≡ x.reason
  pub batch_is : part_of m part.Batch ≡ Some x.batch

abbrev pub SendsReversal : Standing → Given → Type 0
SendsReversal x (sent b) = Reverses (message_in b) x
SendsReversal x quiet = ⊥
SendsReversal x (refused n) = ⊥

-- or what the desk keyed, or the journal, refuses it by 15 to 21
abbrev pub StartsOr : ℕ → Given → Type 0
StartsOr batch (sent b) = Sends is_request batch (sent b)
StartsOr batch quiet = ⊥
StartsOr batch (refused n) = (15 ≤ n) × (n ≤ 21)

-- what a call gives that is not refused by its number
abbrev pub Gives : Event → Standing → Given → Type 0
Gives sign_on_event x g = Sends is_sign_on x.batch g
Gives (starts d b) x g = StartsOr x.batch g
Gives (answers b good) x g = g ≡ quiet
Gives no_answer_event x g = g ≡ quiet
Gives power_returned_event x g = g ≡ quiet
Gives card_agrees_event x g = g ≡ quiet
Gives card_declines_event x g = g ≡ quiet
Gives send_reversal_event x g = SendsReversal x g
Gives settles x g = Sends is_settlement x.batch g
Gives send_next_upload_event x g = Sends is_upload x.batch g

-- a call is refused by a number, or by none
pub record JudgedBy (n : ℕ) (e : Event) (x : Standing) (g : Given) : Type 0 where
  pub refuses : (n ≡ 0 → ⊥) → g ≡ refused n
  pub gives : n ≡ 0 → Gives e x g

-- every call that 1 and 2 let pass, of every list of calls from a fresh terminal of any settings
abbrev pub CallsJudged : Type 0
CallsJudged = (x : Settings) (j : List ℕ) (ts : List Invocation) → SettingsShaped x → InvocationsShaped ts
    → Each
    (λ c h. (c.given ≡ refused 1 → ⊥) → (c.given ≡ refused 2 → ⊥)
    → JudgedBy (number_of c.event (sign_on h) (standing h) (reversal_pending (batch_of x.sendings h))) c.event (standing h) c.given)
    (runs ts (begun x j)).history

-- what leaves is a message that reads
abbrev pub SentAlwaysReads : Type 0
SentAlwaysReads = (x : Settings) (j : List ℕ) (ts : List Invocation) → SettingsShaped x → InvocationsShaped ts
    → Each (λ c h. (b : List ℕ) → c.given ≡ sent b → (read_message b).outcome ≡ Read) (runs ts (begun x j)).history
