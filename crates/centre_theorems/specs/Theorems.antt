-- What is proved of the simulated centre's answers, for every message that left: they are written, and they match.
use Rattle.std.specs.Prelude.{◌≡◌, List, [], ◌∷◌, true, false, ℕ, ◌≤◌, eqb, length, take, Ok}
use Rattle.field.specs.Bitmap.{names}
use Rattle.field.specs.Contents.{all_printable}
use Rattle.message.specs.Message.{largest}
use Rattle.message.specs.declared.Message.{Message}
use Rattle.reading.specs.Reading.{read_message, Read}
use Rattle.writing.specs.Writing.{write_message}
use Rattle.state.specs.declared.State.{State}
use Rattle.state.specs.declared.Outcome.TheVariants.{Send}
use Rattle.state.specs.Calls.{Lent}
use Rattle.call_definitions.specs.Events.{Event, call}
use Rattle.call_definitions.specs.Shapes.{SettingsShaped, EventShaped}
use Rattle.outgoing_theorems.specs.Theorems.{outgoing_bytes}
use Rattle.centre_types.specs.Types.{left_as}
use Rattle.centre.specs.Centre.{is_given, answered_amount, reply, reconciliation}
use Rattle.centre_types.specs.declared.Left.{Left}
use Rattle.centre_types.specs.declared.Left.TheVariants as left
use Rattle.history.specs.Words.{message_in, kind_in, amount_in, is_request, approves_request, is_matching, digit_in, batch_in}

-- what a message that left holds beside the fields of all: a card request its amount, a settlement its totals
abbrev pub HoldsIts : Left → Message → Type 0
HoldsIts left.Nothing m = ⊥
HoldsIts left.Request m = names m.bitmap 4 ≡ true
HoldsIts left.Reversal m = Unit {0}
HoldsIts left.Settlement m = names m.bitmap 48 ≡ true
HoldsIts left.Upload m = Unit {0}
HoldsIts left.SignOn m = Unit {0}

-- bytes that left: they read, and hold the fields of every message that leaves
pub record HasLeft (b : List ℕ) : Type 0 where
  pub reads : (read_message b).outcome ≡ Read
  pub trace : names (message_in b).bitmap 11 ≡ true
  pub terminal : names (message_in b).bitmap 41 ≡ true
  pub merchant : names (message_in b).bitmap 42 ≡ true
  pub batch : names (message_in b).bitmap 60 ≡ true
  pub its : HoldsIts (left_as (message_in b).indicator) (message_in b)

-- whatever a call sends is such bytes
abbrev pub SentHasLeft : Type 0
SentHasLeft = (e : Event) (s : State) (lent : Lent) (k : ℕ) → SettingsShaped s.settings → EventShaped e
    → (call e s lent).outcome ≡ Send k → HasLeft (take k (call e s lent).lent.message)

-- a code of field 39
pub record IsCode (code : List ℕ) : Type 0 where
  pub two : length code ≡ 2
  pub printable : all_printable code ≡ true

-- an answer is written, and what is written is a matching answer to the bytes that left
pub record Answers (b o : List ℕ) (answer : Message) : Type 0 where
  pub size : ℕ
  pub accepted : (write_message answer o).outcome ≡ Ok size
  pub matching : is_matching (message_in b) (outgoing_bytes answer o) ≡ true

-- document 02, request 4: the amount that a card request is answered with, given or as sent, is for 00 the amount asked for, and for a
-- sale's 10 from 1 to that
pub record Answerable (m : Message) (code : List ℕ) (amount : ℕ) : Type 0 where
  pub whole : code ≡ 0x30 ∷ 0x30 ∷ [] → answered_amount amount m ≡ amount_in m
  pub part : code ≡ 0x31 ∷ 0x30 ∷ [] → kind_in m ≡ 22 → (1 ≤ answered_amount amount m) × (answered_amount amount m ≤ amount_in m)

-- as it is where no amount is given
abbrev pub AsSentAnswerable : Type 0
AsSentAnswerable = (m : Message) (code : List ℕ) (amount : ℕ) → is_given amount ≡ false → 1 ≤ amount_in m → Answerable m code amount

-- a reply answers all that left but a settlement and a sign-on, whatever its code, its date and the centre's batch number
abbrev pub ReplyAnswers : Type 0
ReplyAnswers = (b o : List ℕ) (date batch : ℕ) (code : List ℕ) (amount : ℕ) → HasLeft b → eqb (message_in b).indicator 0x0500 ≡ false
    → eqb (message_in b).indicator 0x0800 ≡ false → IsCode code → (is_request (message_in b) ≡ true → Answerable (message_in b) code amount)
    → largest ≤ length o → Answers b o (reply (message_in b) date batch code amount)

-- a reply of 10 with an amount from 1 to the amount asked for approves a sale, for that amount
pub record ApprovesPart (b o : List ℕ) (amount : ℕ) (answer : Message) : Type 0 where
  pub answers : Answers b o answer
  pub approves : approves_request (message_in b) (message_in (outgoing_bytes answer o)) ≡ true
  pub answered : amount_in (message_in (outgoing_bytes answer o)) ≡ amount

abbrev pub PartAnswers : Type 0
PartAnswers = (b o : List ℕ) (date batch amount : ℕ) → HasLeft b → is_request (message_in b) ≡ true → kind_in (message_in b) ≡ 22 → 1 ≤ amount
    → amount ≤ amount_in (message_in b) → largest ≤ length o
    → ApprovesPart b o amount (reply (message_in b) date batch (0x31 ∷ 0x30 ∷ []) amount)

-- a reply answers a sign-on, whatever its code, and brings the batch number that the centre gives
pub record SignsOnIn (b o : List ℕ) (batch : ℕ) (answer : Message) : Type 0 where
  pub answers : Answers b o answer
  pub brought : batch_in (message_in (outgoing_bytes answer o)) ≡ batch

abbrev pub SignOnReplyAnswers : Type 0
SignOnReplyAnswers = (b o : List ℕ) (date batch : ℕ) (code : List ℕ) (amount : ℕ) → HasLeft b → eqb (message_in b).indicator 0x0800 ≡ true → 1 ≤ batch
    → batch ≤ 999999 → IsCode code → largest ≤ length o → SignsOnIn b o batch (reply (message_in b) date batch code amount)

-- a reconciliation of digit 1, 2 or 3 answers a settlement, and carries that digit
pub record Reconciles (b o : List ℕ) (digit : ℕ) : Type 0 where
  pub answers : Answers b o (reconciliation (message_in b) digit)
  pub carried : digit_in (message_in (outgoing_bytes (reconciliation (message_in b) digit) o)) ≡ digit

abbrev pub ReconciliationAnswers : Type 0
ReconciliationAnswers = (b o : List ℕ) (digit : ℕ) → HasLeft b → eqb (message_in b).indicator 0x0500 ≡ true → 1 ≤ digit → digit ≤ 3
    → largest ≤ length o → Reconciles b o digit
