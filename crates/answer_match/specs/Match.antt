-- Document 01, "Calls": what an answer must hold to be one, and what it says.
use Rattle.std.specs.Prelude.{[], ◌∷◌, Bool, false, cond, not, ◌&&◌, ◌||◌, ℕ, ◌+◌, leb, eqb, Some, None, Option}
use Rattle.digits.specs.Digits.{pack}
use Rattle.digits.specs.Numbers.{digits_of}
use Rattle.field.specs.Bitmap.{names}
use Rattle.message.specs.declared.Message.{Message}
use Rattle.parts.specs.Parts.{matches, part_of}
use Rattle.numbers.specs.Numbers.{is_number}
use Rattle.numbers.specs.declared.Trace.{Trace}
use Rattle.numbers.specs.declared.Batch.{Batch}
use Rattle.parts.specs.declared.Part.TheVariants as part
use Rattle.kinds.specs.Kinds.{indicator_of, allows_partial}
use Rattle.state.specs.declared.Awaited.{Awaited}
use Rattle.state.specs.declared.Awaited.TheVariants as awaited
use Rattle.state.specs.declared.Settings.{Settings}

-- the type that was sent
abbrev pub indicator_sent : Awaited → ℕ
indicator_sent (awaited.Request q) = indicator_of q.kind
indicator_sent (awaited.Reversal v) = 0x0400
indicator_sent (awaited.Settlement x) = 0x0500
indicator_sent (awaited.Item i) = 0x0320
indicator_sent (awaited.End x) = 0x0320

-- a part of a field is this number
abbrev pub is_value : ℕ → Option ℕ → Bool
is_value n (Some x) = eqb x n
is_value n None = false

abbrev pub is_value_within : ℕ → ℕ → Option ℕ → Bool
is_value_within low high (Some x) = leb low x && leb x high
is_value_within low high None = false

-- its type is the awaited one plus 10, and 11, 41 and 42 equal those sent
unfoldable pub repeats : Settings → ℕ → Trace → Message → Bool
repeats x indicator trace m =
    eqb m.indicator (indicator + 0x10)
    && matches m 11 (pack (digits_of 6 trace.0))
    && matches m 41 x.terminal
    && matches m 42 x.merchant

-- matches if its type is the awaited one plus 10, and 11, 41, 42 and 60.2 equal those sent
unfoldable pub matches_sent : Settings → Batch → ℕ → Trace → Message → Bool
matches_sent x batch indicator trace m = repeats x indicator trace m && is_value batch.0 (part_of m part.Batch)

-- field 39 is this code; 00 approves
abbrev pub has_code : ℕ → ℕ → Message → Bool
has_code a b m = matches m 39 (a ∷ b ∷ [])

abbrev pub approves : Message → Bool
approves m = has_code 0x30 0x30 m

-- document 02, request 4: a request is approved by 00, a sale also by 10, in part
unfoldable pub approves_request : ℕ → Message → Bool
approves_request kind m = approves m || allows_partial kind && has_code 0x31 0x30 m

-- field 4 of a card approval: with 00 the amount asked, with 10 from 1 to that
unfoldable pub amount_holds : ℕ → Message → Bool
amount_holds amount m =
    cond (approves m) (matches m 4 (pack (digits_of 12 amount))) (is_value_within 1 amount (part_of m part.Amount))

-- a card approval also needs 4, 13 and 37
unfoldable pub approval_holds : ℕ → ℕ → Message → Bool
approval_holds kind amount m =
    not (approves_request kind m) || amount_holds amount m && names m.bitmap 13 && names m.bitmap 37

-- it must hold 39, but an 0510 must hold 48 instead, its digit 1, 2 or 3
abbrev pub holds_named : Awaited → Message → Bool
holds_named (awaited.Request q) m = names m.bitmap 39 && approval_holds q.kind q.amount m
holds_named (awaited.Reversal v) m = names m.bitmap 39
holds_named (awaited.Settlement x) m = is_value_within 1 3 (part_of m part.Reconciliation)
holds_named (awaited.Item i) m = names m.bitmap 39
holds_named (awaited.End x) m = names m.bitmap 39

-- rule 22: the answer matches and lacks no named field
unfoldable pub is_answer : Settings → Batch → Trace → Awaited → Message → Bool
is_answer x batch trace a m = matches_sent x batch (indicator_sent a) trace m && holds_named a m

-- document 02, request 3: the batch number that an answer brings, 60.2; 0 where it brings none from 1 to 999999
abbrev pub brought_by : Option ℕ → ℕ
brought_by (Some x) = cond (is_number x) x 0
brought_by None = 0

unfoldable pub batch_in : Message → Batch
batch_in m = record { 0 = brought_by (part_of m part.Batch) }

-- a sign-on's 00 also brings a batch number other than 000000, and key material
unfoldable pub sign_on_holds : Message → Bool
sign_on_holds m = not (approves m) || is_number (batch_in m).0 && names m.bitmap 62

-- rule 22 for a sign-on: its answer matches without 60.2, and must hold 39
unfoldable pub is_sign_on_answer : Settings → Trace → Message → Bool
is_sign_on_answer x trace m = repeats x 0x0800 trace m && names m.bitmap 39 && sign_on_holds m

-- the MAC; without field 64 it is bad
unfoldable pub good_mac : Bool → Message → Bool
good_mac good m = good && names m.bitmap 64

-- 00 with good MAC, 25 or 12 ends a reversal
unfoldable pub ends_reversal : Bool → Message → Bool
ends_reversal good m = approves m && good_mac good m || has_code 0x32 0x35 m || has_code 0x31 0x32 m

-- digit 1 closes
unfoldable pub closes_batch : Message → Bool
closes_batch m = is_value 1 (part_of m part.Reconciliation)
