-- What is proved of the messages that leave, for every request, reversal and buffer.
use Rattle.std.specs.Prelude.{◌≡◌, List, [], ◌∷◌, Bool, true, false, cond, not, ◌&&◌, ◌||◌, ℕ, ◌≤◌, ◌<◌, eqb, length, take}
use Rattle.field.specs.Table.{among, indicators}
use Rattle.field.specs.Bitmap.{names}
use Rattle.message.specs.Build.{Item, has, find, digits, bytes, message_of}
use Rattle.message.specs.Message.{field_of, largest}
use Rattle.message.specs.declared.Message.{Message}
use Rattle.reading.specs.Reading.{read_message, Reading, Read}
use Rattle.writing.specs.Writing.{write_message}
use Rattle.numbers.specs.declared.Batch.{Batch}
use Rattle.kinds.specs.Kinds.{indicator_of}
use Rattle.state.specs.State.{chip_bytes, has_chip}
use Rattle.state.specs.declared.Chip.{Chip}
use Rattle.state.specs.declared.Request.{Request}
use Rattle.state.specs.declared.Reversal.{Reversal}
use Rattle.state.specs.declared.Settings.{Settings}
use Rattle.compose.specs.Compose.{all_held}
use Rattle.outgoing.specs.declared.Original.{Original}
use Rattle.outgoing.specs.Outgoing.{length_of, reason_code, request_fields, reversal_fields, request_message, reversal_message}
use Rattle.outgoing.specs.Held.{CardHeld, OriginalHeld}

-- the bytes that leave: the front of the buffer, as long as the call says
abbrev pub outgoing_bytes : Message → List ℕ → List ℕ
outgoing_bytes m o = take (length_of (write_message m o).outcome) (write_message m o).buffer

-- a reading gives a type and exactly these fields
pub record Reads (i : ℕ) (xs : List Item) (r : Reading) : Type 0 where
  pub outcome : r.outcome ≡ Read
  pub indicator : r.message.indicator ≡ i
  pub named : (n : ℕ) → 0 < n → n ≤ 64 → names r.message.bitmap n ≡ has xs n
  pub fields : (n : ℕ) → has xs n ≡ true → field_of r.message n ≡ find xs n

-- what leaves reads back to its type and its fields
abbrev pub SentReadsBack : Type 0
SentReadsBack = (i : ℕ) (xs : List Item) (o : List ℕ) → among i indicators ≡ true → all_held xs ≡ true → largest ≤ length o
    → Reads i xs (read_message (outgoing_bytes (message_of i xs) o))

abbrev pub RequestReadsBack : Type 0
RequestReadsBack = (x : Settings) (batch : Batch) (c : Chip) (q : Request) (original : Original) (o : List ℕ) → CardHeld x c q
    → OriginalHeld q.kind original → largest ≤ length o
    → Reads (indicator_of q.kind) (request_fields x batch c q original) (read_message (outgoing_bytes (request_message x batch c q original) o))

abbrev pub ReversalReadsBack : Type 0
ReversalReadsBack = (x : Settings) (batch : Batch) (c : Chip) (v : Reversal) (o : List ℕ) → CardHeld x c v.request → largest ≤ length o
    → Reads 0x0400 (reversal_fields x batch c v) (read_message (outgoing_bytes (reversal_message x batch c v) o))

-- a reversal has the fields of its request but 37, 38 and 61, and field 39 beside them; the trace, field 11, is the request's
abbrev pub left_out : ℕ → Bool
left_out n = eqb n 37 || eqb n 38 || eqb n 61

abbrev pub ReversalFields : Type 0
ReversalFields = (x : Settings) (batch : Batch) (c : Chip) (v : Reversal) (original : Original) (n : ℕ)
    → find (reversal_fields x batch c v) n
    ≡ cond (eqb n 39) (bytes 39 (reason_code v.reason)).field
    (cond (left_out n) (record { count = 0; bytes = [] }) (find (request_fields x batch c v.request original) n))

abbrev pub ReversalNames : Type 0
ReversalNames = (x : Settings) (batch : Batch) (c : Chip) (v : Reversal) (original : Original) (n : ℕ)
    → has (reversal_fields x batch c v) n ≡ cond (eqb n 39) true (not (left_out n) && has (request_fields x batch c v.request original) n)

-- so read back both hold the same in every other field
abbrev pub ReversalKeeps : Type 0
ReversalKeeps = (x : Settings) (batch : Batch) (c : Chip) (v : Reversal) (original : Original) (i : ℕ) (s r : Reading)
    → Reads i (request_fields x batch c v.request original) s → Reads 0x0400 (reversal_fields x batch c v) r
    → (n : ℕ) → 0 < n → n ≤ 64 → eqb n 39 ≡ false → left_out n ≡ false
    → (names r.message.bitmap n ≡ names s.message.bitmap n)
    × (names s.message.bitmap n ≡ true → field_of r.message n ≡ field_of s.message n)

-- document 02, request 1: with a chip field 22 is 052 and field 55 is the chip's; without one field 22 is 012 and there is no field 55
pub record CarriesChip (c : Chip) (m : Message) : Type 0 where
  pub mode : field_of m 22 ≡ (digits 22 (cond (has_chip c) (0 ∷ 5 ∷ 2 ∷ []) (0 ∷ 1 ∷ 2 ∷ []))).field
  pub named : names m.bitmap 55 ≡ has_chip c
  pub holds : has_chip c ≡ true → field_of m 55 ≡ (bytes 55 (chip_bytes c)).field

-- what is read of a request or a reversal carries the chip
abbrev pub RequestCarriesChip : Type 0
RequestCarriesChip = (x : Settings) (batch : Batch) (c : Chip) (q : Request) (original : Original) (o : List ℕ) → CardHeld x c q
    → OriginalHeld q.kind original → largest ≤ length o
    → CarriesChip c (read_message (outgoing_bytes (request_message x batch c q original) o)).message

abbrev pub ReversalCarriesChip : Type 0
ReversalCarriesChip = (x : Settings) (batch : Batch) (c : Chip) (v : Reversal) (o : List ℕ) → CardHeld x c v.request → largest ≤ length o
    → CarriesChip c (read_message (outgoing_bytes (reversal_message x batch c v) o)).message
