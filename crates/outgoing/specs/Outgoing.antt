-- Document 01, "Kinds" and "Calls": the fields of the messages that leave.
use Rattle.std.specs.Prelude.{List, [], ◌∷◌, ◌++◌, cond, ℕ, replicate, Ok, Err, Result}
use Rattle.digits.specs.Numbers.{digits_of}
use Rattle.message.specs.Build.{Item, digits, bytes, message_of}
use Rattle.message.specs.declared.Message.{Message}
use Rattle.parts.specs.Layout.{laid}
use Rattle.numbers.specs.declared.Batch.{Batch}
use Rattle.kinds.specs.Kinds.{indicator_of, processing_of, condition_of, takes_original, keys_reference, keys_authorisation, allows_partial}
use Rattle.state.specs.State.{chip_bytes, has_chip}
use Rattle.state.specs.declared.Chip.{Chip}
use Rattle.state.specs.declared.Request.{Request}
use Rattle.state.specs.declared.Reason.{Reason}
use Rattle.state.specs.declared.Reason.TheVariants.{Silence, BadMac, CardDeclined}
use Rattle.state.specs.declared.Reversal.{Reversal}
use Rattle.state.specs.declared.Settings.{Settings}
use Rattle.outgoing.specs.declared.Original.{Original}

-- field 60 is kind, batch, management code
abbrev pub field60 : ℕ → Batch → ℕ → List ℕ
field60 kind batch code = laid 60 (kind ∷ batch.0 ∷ code ∷ [])

-- document 02, request 4: a sale's field 60 gains 60.4 to 60.6, the digits 001, which ask for approval in part
abbrev pub asks_partial : ℕ → List ℕ
asks_partial kind = cond (allows_partial kind) (0 ∷ 0 ∷ 1 ∷ []) []

-- field 60 of a card request: its management code is 000
abbrev pub card_field60 : ℕ → Batch → List ℕ
card_field60 kind batch = field60 kind batch 0 ++ asks_partial kind

-- field 61 is original batch, trace, date MMDD
abbrev pub field61 : Original → List ℕ
field61 o = laid 61 (o.batch.0 ∷ o.trace.0 ∷ o.date ∷ [])

-- field 49: Chinese yuan, 156
abbrev pub currency : List ℕ
currency = 0x31 ∷ 0x35 ∷ 0x36 ∷ []

-- field 22 is 012; with a chip it is 052 (document 02, request 1)
abbrev pub entry_mode : Chip → ℕ
entry_mode c = cond (has_chip c) 52 12

-- with a chip field 55 is sent too
abbrev pub chip_fields : Chip → List Item
chip_fields c = cond (has_chip c) (bytes 55 (chip_bytes c) ∷ []) []

-- every card request holds 2, 3, 4, 11, 22, 25, 41, 42, 49, 60, 64; the currency is 156; field 64 leaves as eight zero bytes
abbrev pub plain_fields : Settings → Batch → Chip → Request → List Item
plain_fields x batch c q =
    digits 2 (digits_of q.card.length q.card.number)
    ∷ digits 3 (digits_of 6 (processing_of q.kind))
    ∷ digits 4 (digits_of 12 q.amount)
    ∷ digits 11 (digits_of 6 q.trace.0)
    ∷ digits 22 (digits_of 3 (entry_mode c))
    ∷ digits 25 (digits_of 2 (condition_of q.kind))
    ∷ bytes 41 x.terminal
    ∷ bytes 42 x.merchant
    ∷ bytes 49 currency
    ∷ digits 60 (card_field60 q.kind batch)
    ∷ bytes 64 (replicate 8 0)
    ∷ []

abbrev pub card_fields : Settings → Batch → Chip → Request → List Item
card_fields x batch c q = plain_fields x batch c q ++ chip_fields c

-- kinds 21 and 23 add 37, 38 and 61; kind 25 adds 37 and 61; kinds 11 and 20 add 38 and 61
abbrev pub original_fields : ℕ → Original → List Item
original_fields kind o =
    cond (takes_original kind)
    (bytes 37 o.reference ∷ bytes 38 o.authorisation ∷ digits 61 (field61 o) ∷ [])
    (cond (keys_reference kind)
    (bytes 37 o.reference ∷ digits 61 (field61 o) ∷ [])
    (cond (keys_authorisation kind) (bytes 38 o.authorisation ∷ digits 61 (field61 o) ∷ []) []))

abbrev pub request_fields : Settings → Batch → Chip → Request → Original → List Item
request_fields x batch c q o = card_fields x batch c q ++ original_fields q.kind o

-- field 39 of a reversal: 98 for silence, A0 for a bad MAC, 06 where the card has declined
abbrev pub reason_code : Reason → List ℕ
reason_code Silence = 0x39 ∷ 0x38 ∷ []
reason_code BadMac = 0x41 ∷ 0x30 ∷ []
reason_code CardDeclined = 0x30 ∷ 0x36 ∷ []

-- the reversal is 0400 with the request's fields other than 37, 38, 61, plus 39 = reason
abbrev pub reversal_fields : Settings → Batch → Chip → Reversal → List Item
reversal_fields x batch c v = card_fields x batch c v.request ++ (bytes 39 (reason_code v.reason) ∷ [])

unfoldable pub request_message : Settings → Batch → Chip → Request → Original → Message
request_message x batch c q o = message_of (indicator_of q.kind) (request_fields x batch c q o)

unfoldable pub reversal_message : Settings → Batch → Chip → Reversal → Message
reversal_message x batch c v = message_of 0x0400 (reversal_fields x batch c v)

-- the length of what was written
abbrev pub length_of : Result ℕ ℕ → ℕ
length_of (Ok n) = n
length_of (Err e) = 0
