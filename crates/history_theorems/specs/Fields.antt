-- The fields of the messages sent, by number and value, from what the desk keyed, the settings and the history (document 01, "Kinds" and
-- "Calls").
use Rattle.std.specs.Prelude.{List, [], ◌∷◌, ◌++◌, Bool, cond, ◌&&◌, ℕ, eqb, replicate}
use Rattle.digits.specs.Digits.{unpack}
use Rattle.digits.specs.Numbers.{digits_of}
use Rattle.field.specs.Table.{among}
use Rattle.message.specs.Build.{Item, digits, bytes}
use Rattle.message.specs.Message.{field_of}
use Rattle.message.specs.declared.Message.{Message}
use Rattle.state.specs.declared.Settings.{Settings}
use Rattle.desk.specs.declared.Desk.{Desk}
use Rattle.history.specs.Words.{kind_in, amount_in, authorised_kinds, chip_kinds, processing_for, condition_for}
use Rattle.history.specs.History.{Request, count, amount, approved_debit, approved_credit}
use Rattle.history_theorems.specs.Standing.{trace_in}
use Rattle.history_theorems.specs.Approvals.{Approval, authorisation_in}

-- field 60 is kind (2), batch (6), management code (3)
abbrev pub field60 : ℕ → ℕ → ℕ → List ℕ
field60 kind batch code = digits_of 2 kind ++ digits_of 6 batch ++ digits_of 3 code

-- field 49: currency 156
abbrev pub yuan : List ℕ
yuan = 0x31 ∷ 0x35 ∷ 0x36 ∷ []

-- field n as another message holds it
abbrev pub copied : ℕ → Message → Item
copied n m = record { number = n; field = field_of m n }

-- document 02, request 1: with a chip field 22 is 052, and 55 is the desk's
abbrev pub sends_chip : Desk → Bool
sends_chip d = d.chip && among d.kind chip_kinds

abbrev pub entry_mode : Bool → Item
entry_mode chip = digits 22 (cond chip (0 ∷ 5 ∷ 2 ∷ []) (0 ∷ 1 ∷ 2 ∷ []))

abbrev pub chip_items : Desk → List ℕ → List Item
chip_items d b = cond (sends_chip d) (bytes 55 b ∷ []) []

-- document 02, request 4: a sale's field 60 has the digits 001 behind them
abbrev pub asks_part : ℕ → List ℕ
asks_part kind = cond (eqb kind 22) (0 ∷ 0 ∷ 1 ∷ []) []

-- every card request holds 2, 3, 4, 11, 22, 25, 41, 42, 49, 60, 64; the management code is 000, and 64 leaves as eight zero bytes
abbrev pub request_items : Settings → ℕ → ℕ → ℕ → Bool → Item → Item → List Item
request_items x batch trace kind chip card amount =
    card
    ∷ digits 3 (processing_for kind)
    ∷ amount
    ∷ digits 11 (digits_of 6 trace)
    ∷ entry_mode chip
    ∷ digits 25 (condition_for kind)
    ∷ bytes 41 x.terminal
    ∷ bytes 42 x.merchant
    ∷ bytes 49 yuan
    ∷ digits 60 (field60 kind batch 0 ++ asks_part kind)
    ∷ bytes 64 (replicate 8 0)
    ∷ []

-- with batch and trace zero and the desk's date
abbrev pub keyed_date : Desk → Item
keyed_date d = digits 61 (replicate 12 0 ++ digits_of 2 d.month ++ digits_of 2 d.day)

-- kind 25 adds 37 and 61, kinds 11 and 20 add 38 and 61
abbrev pub keyed_items : Desk → List Item
keyed_items d =
    cond (eqb d.kind 25) (bytes 37 d.reference ∷ keyed_date d ∷ [])
    (cond (among d.kind authorised_kinds) (bytes 38 d.authorisation ∷ keyed_date d ∷ []) [])

-- kinds 21 and 23 add 37, 38 and 61 from the original: batch, trace and date
abbrev pub original_items : ℕ → Approval → List Item
original_items batch v =
    copied 37 v.answer
    ∷ bytes 38 (authorisation_in v.answer)
    ∷ digits 61 (digits_of 6 batch ++ digits_of 6 (trace_in v.request) ++ unpack 4 (field_of v.answer 13).bytes)
    ∷ []

-- settle sends 11, 41, 42, 48, 49, 60 = 00, batch, 201; field 48 is debit amount (12), debit count (3), credit amount (12), credit count (3),
-- reconciliation digit (1), 0 in the request, then 31 zeros
abbrev pub settlement_items : Settings → ℕ → ℕ → List Request → List Item
settlement_items x batch trace rs =
    digits 11 (digits_of 6 trace)
    ∷ bytes 41 x.terminal
    ∷ bytes 42 x.merchant
    ∷ digits 48
    (digits_of 12 (amount approved_debit rs) ++ digits_of 3 (count approved_debit rs) ++ digits_of 12 (amount approved_credit rs)
    ++ digits_of 3 (count approved_credit rs) ++ replicate 32 0)
    ∷ bytes 49 yuan
    ∷ digits 60 (field60 0 batch 201)
    ∷ []

-- the amount that was approved
abbrev pub approved_amount : Approval → Item
approved_amount v = digits 4 (digits_of 12 (amount_in v.answer))

-- an upload item holds 2, 3, 4, 11, 37, 38, 41, 42, 49, 60 = kind, batch, 201
abbrev pub upload_items : Settings → ℕ → Approval → List Item
upload_items x batch v =
    copied 2 v.request
    ∷ digits 3 (processing_for (kind_in v.request))
    ∷ approved_amount v
    ∷ copied 11 v.request
    ∷ copied 37 v.answer
    ∷ bytes 38 (authorisation_in v.answer)
    ∷ bytes 41 x.terminal
    ∷ bytes 42 x.merchant
    ∷ bytes 49 yuan
    ∷ digits 60 (field60 (kind_in v.request) batch 201)
    ∷ []

-- the upload's end holds 11, 41, 42, 60 = 00, batch, 202; a sign-on 11, 41, 42, 60 = 00, batch, 003 (document 02, request 3)
abbrev pub management_items : ℕ → Settings → ℕ → ℕ → List Item
management_items code x batch trace =
    digits 11 (digits_of 6 trace) ∷ bytes 41 x.terminal ∷ bytes 42 x.merchant ∷ digits 60 (field60 0 batch code) ∷ []

abbrev pub end_items : Settings → ℕ → ℕ → List Item
end_items = management_items 202

abbrev pub sign_on_items : Settings → ℕ → ℕ → List Item
sign_on_items = management_items 3
