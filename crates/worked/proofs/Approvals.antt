-- Case *i: the approval of a sale of the largest amount, with any trace, reads back and is taken as the answer to that sale.
use mathlib.Core.Path.{◌≡◌, refl, sym}
use mathlib.Core.List.{List, [], ◌∷◌}
use mathlib.Core.Bool.{true, true≢false}
use Prim.Native.Nat.{ℕ, ◌≤◌, ◌<◌}
use native.Mathlib.Omega.{arith}
use lib.ListN.{length, drop, replicate}
use lib.Seq.{take_at}
use Rattle.digits.specs.Digits.{half, unpack, packed_byte, pack, half_allowed, is_packed, all_digits}
use Rattle.digits.specs.Numbers.{value, digits_of, number_of}
use Rattle.digits.proofs.Lists.{same_bytes_lem}
use Rattle.field.specs.Table.{among, indicators, formats}
use Rattle.field.specs.Bitmap.{names}
use Rattle.field.specs.Contents.{allowed, all_printable}
use Rattle.message.specs.Message.{largest}
use Rattle.message.specs.Build.{Item, has, find, digits, bytes, message_of}
use Rattle.message.specs.declared.Message.{Message}
use Rattle.reading.specs.Reading.{read_message, Reading}
use Rattle.writing.specs.Writing.{message_bytes}
use Rattle.parts.specs.Parts.{matches, number_in, part_of}
use Rattle.parts.specs.declared.Part.TheVariants as part
use Rattle.kinds.specs.Kinds.{is_kind, indicator_of}
use Rattle.entry.specs.Form.{in_form}
use Rattle.state.specs.declared.Request.{Request}
use Rattle.state.specs.declared.Awaited.TheVariants as awaited
use Rattle.compose.specs.Compose.{all_held}
use Rattle.compose.proofs.Items.{number-held}
use Rattle.outgoing.specs.Outgoing.{field60}
use Rattle.outgoing.proofs.Leaving.{written_is}
use Rattle.outgoing_theorems.specs.Theorems.{Reads}
use Rattle.outgoing_theorems.proofs.Theorems.{sent-reads_back}
use Rattle.answer_match.specs.Match.{is_value, repeats, matches_sent, approves, approves_request, amount_holds, approval_holds, is_answer, good_mac}
use Rattle.approval.specs.Approval.{approval_of, approved_entry}
use Rattle.approval.proofs.Approval.{answer-holds, in_form_lem}
use Rattle.state_rules.proofs.Holds.{ApprovalHolds}
use Rattle.worked.specs.Desk.{settings}

-- the bytes of a message of held fields read back to them
read_back : (i : ℕ) (xs : List Item) → among i indicators ≡ true → all_held xs ≡ true
    → Reads i xs (read_message (message_bytes (message_of i xs)))
read_back i xs l h =
    let o : List ℕ = replicate largest 0 in
    let b = message_bytes (message_of i xs) in
    rw (take_at b (drop (length b) o) (length b) refl)
    at (rw (written_is i xs o l h (omega arith)) at (sent-reads_back i xs o l h (omega arith)))

-- a message that reads as these fields has each of them
module _ {i : ℕ} {xs : List Item} {r : Reading} (reads : Reads i xs r) (n : ℕ) (least : 0 < n) (most : n ≤ 64) (there : has xs n ≡ true) where
  named : names r.message.bitmap n ≡ true
  named = rw (reads.named n least most) there

  matching : matches r.message n (find xs n).bytes ≡ true
  unfolding matches
  matching = rw (named, reads.fields n there) (same_bytes_lem (find xs n).bytes)

-- the sale that is approved
abbrev pub asked : ℕ → ℕ → Request
asked amount trace =
    record {
      kind = 22;
      amount = amount;
      card = record { number = 6222021234567894; length = 16 };
      trace = record { 0 = trace };
      original = record { 0 = 0 };
    }

-- the fields of its approval, and their bytes
abbrev fields : ℕ → List Item
fields trace =
    digits 11 (digits_of 6 trace) ∷ bytes 39 (0x30 ∷ 0x30 ∷ []) ∷ bytes 41 (replicate 8 0x31) ∷ bytes 42 (replicate 15 0x32)
    ∷ digits 60 (field60 22 (record { 0 = 1 }) 0) ∷ digits 4 (digits_of 12 9999999999) ∷ digits 13 (digits_of 4 1115)
    ∷ bytes 37 (replicate 12 0x35) ∷ bytes 64 (replicate 8 0) ∷ []

abbrev pub approval_bytes : ℕ → List ℕ
approval_bytes trace = message_bytes (message_of 0x0210 (fields trace))

listed : among 0x0210 indicators ≡ true
unfolding indicators
listed = refl

held : (trace : ℕ) → all_held (fields trace) ≡ true
unfolding formats allowed all_printable is_packed half_allowed half pack packed_byte
held trace = rw (number-held 11 6 trace refl)

pub reads : (trace : ℕ) → Reads 0x0210 (fields trace) (read_message (approval_bytes trace))
reads trace = read_back 0x0210 (fields trace) listed (held trace)

-- what is read of it
abbrev pub answered : ℕ → Message
answered trace = (read_message (approval_bytes trace)).message

-- field 60 holds the batch
batch-same : (trace : ℕ) → is_value 1 (part_of (answered trace) part.Batch) ≡ true
unfolding number_in unpack half pack packed_byte number_of all_digits value
batch-same trace = rw (named (reads trace) 60 (omega arith) (omega arith) refl, (reads trace).fields 60 refl)

-- it approves
approving : (trace : ℕ) → approves (answered trace) ≡ true
approving trace = matching (reads trace) 39 (omega arith) (omega arith) refl

pub approving_sale : (trace : ℕ) → approves_request 22 (answered trace) ≡ true
unfolding approves_request
approving_sale trace = rw (approving trace)

-- for this amount
pub amount_is : (trace : ℕ) → (approval_of (answered trace)).amount ≡ 9999999999
unfolding approval_of number_in unpack half pack packed_byte number_of all_digits value
amount_is trace = rw (named (reads trace) 4 (omega arith) (omega arith) refl, (reads trace).fields 4 refl)

holding : (trace : ℕ) → approval_holds 22 9999999999 (answered trace) ≡ true
unfolding approval_holds amount_holds
holding trace =
    rw (
      approving_sale trace,
      approving trace,
      matching (reads trace) 4 (omega arith) (omega arith) refl,
      named (reads trace) 13 (omega arith) (omega arith) refl,
      named (reads trace) 37 (omega arith) (omega arith) refl,
    )

pub is_answer_lem : (trace : ℕ)
    → is_answer (settings 300) (record { 0 = 1 }) (record { 0 = trace }) (awaited.Request (asked 9999999999 trace)) (answered trace) ≡ true
unfolding is_answer matches_sent repeats indicator_of
is_answer_lem trace =
    rw (
      (reads trace).indicator,
      matching (reads trace) 11 (omega arith) (omega arith) refl,
      matching (reads trace) 41 (omega arith) (omega arith) refl,
      matching (reads trace) 42 (omega arith) (omega arith) refl,
      batch-same trace,
      named (reads trace) 39 (omega arith) (omega arith) refl,
      holding trace,
    )

-- with a good MAC
pub good_mac_lem : (trace : ℕ) → good_mac true (answered trace) ≡ true
unfolding good_mac
good_mac_lem trace = named (reads trace) 64 (omega arith) (omega arith) refl

-- and what it says and its entry are in form
date_packed : is_packed 4 (find (fields 0) 13).bytes ≡ true
unfolding is_packed half_allowed half pack packed_byte
date_packed = refl

reference_printable : all_printable (find (fields 0) 37).bytes ≡ true
unfolding all_printable
reference_printable = refl

sale-listed : is_kind 22 ≡ true
unfolding is_kind
sale-listed = refl

pub approval_holds_lem : (trace : ℕ) → ApprovalHolds (approval_of (answered trace))
approval_holds_lem trace =
    let r = reads trace in
    answer-holds (answered trace) (λ e. rw (r.fields 13 refl) date_packed) (named r 37 (omega arith) (omega arith) refl)
    (rw (r.fields 37 refl)) (rw (r.fields 37 refl) reference_printable)
    (λ e. absurd (true≢false (sym (rw (r.named 38 (omega arith) (omega arith)) at e))))

pub entry-form : (trace : ℕ) → 1 ≤ trace → trace ≤ 999999
    → in_form (approved_entry (asked 9999999999 trace) (approval_of (answered trace))) ≡ true
entry-form trace least most =
    in_form_lem (asked 9999999999 trace) (approval_of (answered trace)) sale-listed least most (rw (amount_is trace) (omega arith))
    (rw (amount_is trace) (omega arith)) (omega arith) (omega arith) (approval_holds_lem trace)
