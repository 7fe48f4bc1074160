-- Document 01, "Worked at the desk": terminals, cards and answers of the worked cases.
use Rattle.std.specs.Prelude.{List, [], ◌∷◌, Bool, true, false, ℕ, ◌*◌, replicate}
use Rattle.digits.specs.Numbers.{digits_of}
use Rattle.message.specs.Message.{largest}
use Rattle.message.specs.Build.{Item, digits, bytes, message_of}
use Rattle.writing.specs.Writing.{message_bytes}
use Rattle.entry.specs.Entry.{entry_size}
use Rattle.kinds.specs.declared.Totals.{Totals}
use Rattle.state.specs.State.{fresh}
use Rattle.state.specs.Calls.{lend, Result, quiet}
use Rattle.state.specs.declared.Settings.{Settings}
use Rattle.outgoing.specs.Outgoing.{field60}
use Rattle.call_definitions.specs.Events.{Event, sign_on_event, starts, answers, run}

-- three sendings, refunds up to 100,000 fen
abbrev pub settings : ℕ → Settings
settings limit =
    record { limit = limit; sendings = 3; refund = 100000; terminal = replicate 8 0x31; merchant = replicate 15 0x32 }

-- a fresh terminal with room for its journal, signed off
abbrev pub signed_off : ℕ → Result
signed_off limit = quiet (fresh (settings limit)) (lend (replicate (entry_size * limit) 0) (replicate largest 0))

-- what the desk keys, with a chip's field 55 or without
abbrev keyed_with : Bool → List ℕ → ℕ → ℕ → ℕ → Event
keyed_with chip b kind amount original =
    starts (record {
      kind = kind;
      amount = amount;
      card = record { number = 6222021234567894; length = 16 };
      original = record { 0 = original };
      month = 11;
      day = 15;
      authorisation = replicate 6 0x33;
      reference = replicate 12 0x34;
      chip = chip;
    }) b

abbrev pub keyed : ℕ → ℕ → ℕ → Event
keyed kind amount original = keyed_with false [] kind amount original

abbrev pub sale : ℕ → Event
sale amount = keyed 22 amount 0

-- document 02, request 1: field 55 of two elements, and a sale with a chip
abbrev pub field55 : List ℕ
field55 = 0x9F ∷ 0x26 ∷ 0x01 ∷ 0xAA ∷ 0x82 ∷ 0x02 ∷ 0x00 ∷ 0x00 ∷ []

abbrev pub chip_sale : List ℕ → ℕ → Event
chip_sale b amount = keyed_with true b 22 amount 0

-- the centre's answer of a type to a request of a kind and a trace, with a code and further fields
abbrev reply_bytes : ℕ → ℕ → ℕ → ℕ → ℕ → List Item → List ℕ
reply_bytes indicator kind trace a b more =
    message_bytes (message_of indicator
    (digits 11 (digits_of 6 trace) ∷ bytes 39 (a ∷ b ∷ []) ∷ bytes 41 (replicate 8 0x31) ∷ bytes 42 (replicate 15 0x32)
    ∷ digits 60 (field60 kind (record { 0 = 1 }) 0) ∷ more))

abbrev pub reply : ℕ → ℕ → ℕ → ℕ → ℕ → List Item → Event
reply indicator kind trace a b more = answers (reply_bytes indicator kind trace a b more) true

-- document 02, request 3: 00 to the sign-on of a trace, in batch 1, with key material of 24 bytes
abbrev pub sign_on_bytes : ℕ → List ℕ
sign_on_bytes trace = reply_bytes 0x0810 0 trace 0x30 0x30 (bytes 62 (replicate 24 0) ∷ [])

abbrev pub to_sign_on : ℕ → Event
to_sign_on trace = answers (sign_on_bytes trace) true

-- a fresh terminal once it has signed on to batch 1: the sign-on took trace 1
abbrev pub opened : ℕ → Result
opened limit = run (sign_on_event ∷ to_sign_on 1 ∷ []) (signed_off limit)

-- fields 4, 13, 37 and 64 of an approval
abbrev approval_items : ℕ → List Item
approval_items amount =
    digits 4 (digits_of 12 amount) ∷ digits 13 (digits_of 4 1115) ∷ bytes 37 (replicate 12 0x35) ∷ bytes 64 (replicate 8 0) ∷ []

-- 00 with them
abbrev pub approval : ℕ → ℕ → ℕ → Event
approval kind amount trace = reply 0x0210 kind trace 0x30 0x30 (approval_items amount)

-- the same to a refund
abbrev pub refund_approval : ℕ → ℕ → Event
refund_approval amount trace = reply 0x0230 25 trace 0x30 0x30 (approval_items amount)

-- document 02, request 4: 10 with them, of a type to a request of a kind and a trace, its MAC good or bad
abbrev pub partial : ℕ → ℕ → ℕ → ℕ → Bool → Event
partial indicator kind amount trace good = answers (reply_bytes indicator kind trace 0x31 0x30 (approval_items amount)) good

-- a code to the reversal of a sale
abbrev pub to_reversal : ℕ → ℕ → ℕ → Event
to_reversal trace a b = reply 0x0410 22 trace a b []

-- the stored sums
abbrev pub totals : Result → Totals
totals r = r.state.totals
