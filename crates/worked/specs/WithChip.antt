-- Document 02, request 1, "Chip cards at the desk": a sale with a chip, the card's last word, and rule 23.
use Rattle.std.specs.Prelude.{◌≡◌, List, [], ◌∷◌, ◌++◌, ℕ, take, drop, replicate}
use Rattle.entry.specs.Entry.{entry_size}
use Rattle.state.specs.declared.Outcome.TheVariants.{Send, Refused}
use Rattle.state.specs.declared.Awaited.TheVariants as awaited
use Rattle.state.specs.declared.Phase.TheVariants.{Waiting, Pending}
use Rattle.state.specs.declared.Reason.TheVariants.{CardDeclined}
use Rattle.state.specs.Calls.{Result}
use Rattle.call_definitions.specs.Events.{Event, run, no_answer_event, card_agrees_event, card_declines_event, send_reversal_event}
use Rattle.worked.specs.Desk.{signed_off, opened, sale, field55, chip_sale, approval, totals}
use Rattle.worked.specs.Worked.{sale_on_wire, first_sale, sales_approved}

-- a sale of 12,000 fen with a chip, the first request after signing on
abbrev pub chip_sent : Result
chip_sent = run (chip_sale field55 12000 ∷ []) (opened 1)

-- the bytes that leave are those of the sale without a chip but for these
abbrev pub chip_on_wire : List ℕ
chip_on_wire =
    take 8 sale_on_wire
    -- the bitmap names field 55
    ++ (0x82 ∷ take 22 (drop 9 sale_on_wire))
    -- field 22 is 052
    ++ (0x05 ∷ 0x20 ∷ take 27 (drop 33 sale_on_wire))
    -- field 55 after its two-byte length
    ++ (0x00 ∷ 0x08 ∷ field55)
    ++ drop 60 sale_on_wire

-- the centre approves: the card has the last word
abbrev pub granted : Result
granted = run (approval 22 12000 2 ∷ []) chip_sent

abbrev pub after : Event → Result
after e = run (e ∷ []) granted

-- the reversal that leaves where the card has declined
abbrev pub reversal_sent : Result
reversal_sent = run (send_reversal_event ∷ []) (after card_declines_event)

-- a tag given twice
abbrev pub twice : List ℕ
twice = 0x82 ∷ 0x00 ∷ 0x82 ∷ 0x00 ∷ []

pub record WithChip : Type 0 where
  -- with a 16-digit card and a field 55 of eight bytes it is 87 bytes
  pub sent : chip_sent.outcome ≡ Send 87
  pub sent_bytes : take 87 chip_sent.lent.message ≡ chip_on_wire
  -- a good 00 leaves the journal, counts nothing, and the request waits
  pub journal_stays : granted.lent.journal ≡ replicate entry_size 0
  pub counts_stay : granted.state.counts ≡ record { sent = 1; approved = 0; declined = 0; reversed = 0; given_up = 0; unanswered = 0 }
  pub phase_stays : granted.state.phase ≡ Waiting (awaited.Request (first_sale 12000))
  -- meanwhile an answer is refused (14), and another sale (11)
  pub answer_refused : (after (approval 22 12000 2)).outcome ≡ Refused 14
  pub sale_refused : (after (sale 100)).outcome ≡ Refused 11
  -- the card agrees: the entry is made, approved 1
  pub agreed : totals (after card_agrees_event) ≡ record { debit = 12000; debits = 1; credit = 0; credits = 0 }
  pub agreed_counts : (after card_agrees_event).state.counts ≡ sales_approved 1
  -- the card declines: a pending reversal; silence does the same
  pub declined : (after card_declines_event).state.phase ≡ Pending (record { request = first_sale 12000; reason = CardDeclined; sendings = 0 })
  pub silent : after no_answer_event ≡ after card_declines_event
  -- field 39 of the reversal is 06, and field 55 is in it
  pub reversal : reversal_sent.outcome ≡ Send 89
  pub reversal_reason : take 2 (drop 34 reversal_sent.lent.message) ≡ 0x30 ∷ 0x36 ∷ []
  pub reversal_chip : take 10 (drop 62 reversal_sent.lent.message) ≡ 0x00 ∷ 0x08 ∷ field55
  -- outside the wait the card's word is refused (14)
  pub unasked : (run (card_agrees_event ∷ []) chip_sent).outcome ≡ Refused 14
  -- signed off, a tag given twice is refused by 23 all the same, and a field 55 in form by 10
  pub twice_refused : (run (chip_sale twice 12000 ∷ []) (opened 1)).outcome ≡ Refused 23
  pub twice_refused_signed_off : (run (chip_sale twice 12000 ∷ []) (signed_off 1)).outcome ≡ Refused 23
  pub sale_refused_signed_off : (run (chip_sale field55 12000 ∷ []) (signed_off 1)).outcome ≡ Refused 10
