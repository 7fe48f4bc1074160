-- Document 01, "Calls": settlement, upload item and the upload's end. Document 02, request 3: sign-on.
use Rattle.std.specs.Prelude.{List, [], ◌∷◌, ℕ}
use Rattle.approval.specs.Cards.{card_of}
use Rattle.digits.specs.Numbers.{digits_of}
use Rattle.entry.specs.declared.Entry.{Entry}
use Rattle.kinds.specs.Kinds.{processing_of}
use Rattle.kinds.specs.declared.Totals.{Totals}
use Rattle.message.specs.Build.{Item, digits, bytes, message_of}
use Rattle.message.specs.declared.Message.{Message}
use Rattle.numbers.specs.declared.Batch.{Batch}
use Rattle.numbers.specs.declared.Trace.{Trace}
use Rattle.outgoing.specs.Outgoing.{field60, currency}
use Rattle.parts.specs.Layout.{laid}
use Rattle.state.specs.declared.Settings.{Settings}

-- field 48 is debit amount, debit count, credit amount, credit count; the reconciliation digit is 0 in the request, and the rest is zeros
abbrev pub field48 : Totals → List ℕ
field48 t = laid 48 (t.debit ∷ t.debits ∷ t.credit ∷ t.credits ∷ [])

-- settle sends 0500 (11, 41, 42, 48, 49, 60 = 00, batch, 201)
abbrev pub settlement_fields : Settings → Batch → Trace → Totals → List Item
settlement_fields x batch trace t =
    digits 11 (digits_of 6 trace.0)
    ∷ bytes 41 x.terminal
    ∷ bytes 42 x.merchant
    ∷ digits 48 (field48 t)
    ∷ bytes 49 currency
    ∷ digits 60 (field60 0 batch 201)
    ∷ []

unfoldable pub settlement_message : Settings → Batch → Trace → Totals → Message
settlement_message x batch trace t = message_of 0x0500 (settlement_fields x batch trace t)

-- each debit or credit entry as 0320 (2, 3, 4, 11, 37, 38, 41, 42, 49, 60 = kind, batch, 201)
abbrev pub item_fields : Settings → Batch → Entry → List Item
item_fields x batch e =
    digits 2 (digits_of (card_of e).length (card_of e).number)
    ∷ digits 3 (digits_of 6 (processing_of e.kind))
    ∷ digits 4 (digits_of 12 e.amount)
    ∷ digits 11 (digits_of 6 e.trace.0)
    ∷ bytes 37 e.reference
    ∷ bytes 38 e.authorisation
    ∷ bytes 41 x.terminal
    ∷ bytes 42 x.merchant
    ∷ bytes 49 currency
    ∷ digits 60 (field60 e.kind batch 201)
    ∷ []

unfoldable pub item_message : Settings → Batch → Entry → Message
item_message x batch e = message_of 0x0320 (item_fields x batch e)

-- a message that says no more than its management code: 11, 41, 42, 60 = 00, batch, code
abbrev pub management_fields : ℕ → Settings → Batch → Trace → List Item
management_fields code x batch trace =
    digits 11 (digits_of 6 trace.0)
    ∷ bytes 41 x.terminal
    ∷ bytes 42 x.merchant
    ∷ digits 60 (field60 0 batch code)
    ∷ []

-- last goes 0320 (11, 41, 42, 60 = 00, batch, 202)
abbrev pub end_fields : Settings → Batch → Trace → List Item
end_fields = management_fields 202

unfoldable pub end_message : Settings → Batch → Trace → Message
end_message x batch trace = message_of 0x0320 (end_fields x batch trace)

-- document 02, request 3: sign on sends 0800 (11, 41, 42, 60 = 00, batch, 003)
abbrev pub sign_on_fields : Settings → Batch → Trace → List Item
sign_on_fields = management_fields 3

unfoldable pub sign_on_message : Settings → Batch → Trace → Message
sign_on_message x batch trace = message_of 0x0800 (sign_on_fields x batch trace)
