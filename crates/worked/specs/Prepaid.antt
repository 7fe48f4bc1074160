-- Document 02, request 4, "Prepaid membership cards": a sale that a card covers in part.
use Rattle.std.specs.Prelude.{◌≡◌, [], ◌∷◌, true, false, ℕ, take, drop}
use Rattle.state.specs.declared.Outcome.TheVariants.{Quiet, Refused}
use Rattle.state.specs.declared.Phase.TheVariants.{Resting, Pending}
use Rattle.state.specs.declared.Reason.TheVariants.{BadMac, CardDeclined}
use Rattle.state.specs.Calls.{Result}
use Rattle.call_definitions.specs.Events.{run, card_agrees_event, card_declines_event, send_reversal_event}
use Rattle.worked.specs.Desk.{opened, keyed, sale, field55, chip_sale, approval, partial, totals}
use Rattle.worked.specs.Worked.{first_sale}

-- 10 for an amount to the sale of 12,000 fen
abbrev pub answered_for : ℕ → Result
answered_for amount = run (sale 12000 ∷ partial 0x0210 22 amount 2 true ∷ []) (opened 2)

-- paid in part, then voided
abbrev pub voided : Result
voided = run (keyed 23 0 2 ∷ approval 23 7000 3 ∷ []) (answered_for 7000)

-- its MAC is bad, and the reversal that leaves
abbrev pub doubted : Result
doubted = run (sale 12000 ∷ partial 0x0210 22 7000 2 false ∷ []) (opened 2)

-- with a chip
abbrev pub granted : Result
granted = run (chip_sale field55 12000 ∷ partial 0x0210 22 7000 2 true ∷ []) (opened 2)

-- to a refund
abbrev pub refunded : Result
refunded = run (keyed 25 12000 0 ∷ partial 0x0230 25 7000 2 true ∷ []) (opened 2)

pub record Prepaid : Type 0 where
  -- the answered amount is the entry's and the sum's
  pub entered : take 6 (drop 7 (answered_for 7000).lent.journal) ≡ 0x00 ∷ 0x00 ∷ 0x00 ∷ 0x00 ∷ 0x70 ∷ 0x00 ∷ []
  pub booked : totals (answered_for 7000) ≡ record { debit = 7000; debits = 1; credit = 0; credits = 0 }
  -- its void asks for that amount, and takes it back
  pub void_asks : take 6 (drop 22 (run (keyed 23 0 2 ∷ []) (answered_for 7000)).lent.message) ≡ 0x00 ∷ 0x00 ∷ 0x00 ∷ 0x00 ∷ 0x70 ∷ 0x00 ∷ []
  pub taken_back : totals voided ≡ record { debit = 7000; debits = 1; credit = 7000; credits = 1 }
  -- from 1 to the amount asked; 0 and more are refused by 22
  pub least : (answered_for 1).outcome ≡ Quiet
  pub whole : totals (answered_for 12000) ≡ record { debit = 12000; debits = 1; credit = 0; credits = 0 }
  pub nothing : (answered_for 0).outcome ≡ Refused 22
  pub more : (answered_for 12001).outcome ≡ Refused 22
  -- a bad MAC makes a reversal of the amount asked
  pub reversed : doubted.state.phase ≡ Pending (record { request = first_sale 12000; reason = BadMac; sendings = 0 })
  pub reversal_asks : take 6 (drop 22 (run (send_reversal_event ∷ []) doubted).lent.message) ≡ 0x00 ∷ 0x00 ∷ 0x00 ∷ 0x01 ∷ 0x20 ∷ 0x00 ∷ []
  -- with a chip the consent enters the answered amount, and a card that declines is reversed for the amount asked
  pub agreed : totals (run (card_agrees_event ∷ []) granted) ≡ record { debit = 7000; debits = 1; credit = 0; credits = 0 }
  pub declined : (run (card_declines_event ∷ []) granted).state.phase ≡ Pending (record { request = first_sale 12000; reason = CardDeclined; sendings = 0 })
  -- to a refund 10 is a decline
  pub refund_declined : refunded.state.counts.declined ≡ 1
  pub refund_ends : refunded.state.phase ≡ Resting
