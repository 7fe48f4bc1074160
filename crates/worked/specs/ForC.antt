-- The functions for C on the worked cases: fields of the sale that leaves, the totals and counts after its approval, and what is awaited.
use Rattle.std.specs.Prelude.{◌≡◌, [], ◌∷◌, true, false, replicate, drop}
use Rattle.state.specs.Calls.{Result}
use Rattle.call_definitions.specs.Events.{run, sign_on_event, starts, no_answer_event}
use Rattle.image_definitions.specs.Image.{image}
use Rattle.interface_definitions.specs.Interface.{desk_of, settings_of, returned, held, field_at, number_at, totals_on, sums_on}
use Rattle.worked.specs.Desk.{settings, signed_off, opened, keyed, sale, field55, chip_sale, approval, refund_approval, partial}
use Rattle.worked.specs.Worked.{sent, after_f}

-- a sale of 12,000 fen, approved
abbrev pub sold : Result
sold = run (sale 12000 ∷ approval 22 12000 2 ∷ []) (opened 1)

-- document 02, request 4: 10 to a sale of 12,000 fen with a chip, for 7,000 of them; the card has the last word
abbrev pub in_part : Result
in_part = run (chip_sale field55 12000 ∷ partial 0x0210 22 7000 2 true ∷ []) (opened 1)

-- document 02, request 3: a sign-on that nobody answered, and a second, of trace 2
abbrev pub signing_on : Result
signing_on = run (sign_on_event ∷ no_answer_event ∷ sign_on_event ∷ []) (signed_off 1)

-- document 02, request 5: two sales, the first of which is voided, a completion and a refund
abbrev pub batch : Result
batch =
    run
    (sale 5 ∷ approval 22 5 2 ∷ keyed 20 30 0 ∷ approval 20 30 3 ∷ sale 8 ∷ approval 22 8 4 ∷ keyed 23 0 2 ∷ approval 23 5 5
    ∷ keyed 25 700 0 ∷ refund_approval 700 6 ∷ [])
    (opened 5)

pub record ForC : Type 0 where
  -- what is keyed and what is set, in the order of C
  pub keyed : starts (desk_of 22 12000 6222021234567894 16 0 11 15 (replicate 6 0x33) (replicate 12 0x34) false) [] ≡ sale 12000
  pub set : settings_of 300 3 100000 (replicate 8 0x31) (replicate 15 0x32) ≡ settings 300
  -- field 4 has 12 digits in six bytes, and bytes past them stay
  pub amount : field_at sent 4 (held 0 (replicate 8 0xEE)) ≡ returned 0 (held 12 (0 ∷ 0 ∷ 0 ∷ 1 ∷ 0x20 ∷ 0 ∷ 0xEE ∷ 0xEE ∷ []))
  -- just enough room; one byte less is too short
  pub fits : field_at sent 4 (held 7 (replicate 6 0xEE)) ≡ returned 0 (held 12 (0 ∷ 0 ∷ 0 ∷ 1 ∷ 0x20 ∷ 0 ∷ []))
  pub short : field_at sent 4 (held 7 (replicate 5 0xEE)) ≡ returned 1 (held 7 (replicate 5 0xEE))
  -- a sale holds no field 39
  pub not_held : field_at sent 39 (held 7 (replicate 2 0xEE)) ≡ returned 254 (held 7 (replicate 2 0xEE))
  -- debit 12,000 in 1, credit 0 in 0
  pub totals : totals_on (image sold.state) [] ≡ returned 0 (12000 ∷ 1 ∷ 0 ∷ 0 ∷ [])
  -- sales, completions, refunds, sale voids, completion voids: the amount and the count of each
  pub sums : sums_on (image batch.state) batch.lent.journal [] ≡ returned 0 (13 ∷ 2 ∷ 30 ∷ 1 ∷ 700 ∷ 1 ∷ 5 ∷ 1 ∷ 0 ∷ 0 ∷ [])
  -- bytes that are no image; a journal of one byte less is too short, and an empty one is not this terminal's
  pub sums_no_image : sums_on (drop 1 (image batch.state)) batch.lent.journal (7 ∷ []) ≡ returned 2 (7 ∷ [])
  pub sums_short : sums_on (image batch.state) (drop 1 batch.lent.journal) (7 ∷ []) ≡ returned 1 (7 ∷ [])
  pub sums_other : sums_on (image batch.state) (replicate 240 0) (7 ∷ []) ≡ returned 2 (7 ∷ [])
  -- after case f, by their rows
  pub debit_amount : number_at (image after_f.state) 17 7 ≡ returned 0 12000
  pub debit_count : number_at (image after_f.state) 18 7 ≡ returned 0 1
  pub credit_amount : number_at (image after_f.state) 19 7 ≡ returned 0 12000
  pub credit_count : number_at (image after_f.state) 20 7 ≡ returned 0 1
  -- one request approved, by its row
  pub approved : number_at (image sold.state) 12 7 ≡ returned 0 1
  -- the amount asked and the amount approved while the card's word is awaited, by their rows
  pub asked_amount : number_at (image in_part.state) 23 7 ≡ returned 0 12000
  pub approved_amount : number_at (image in_part.state) 33 7 ≡ returned 0 7000
  -- the trace of the sign-on that is awaited, by its row
  pub sign_on_trace : number_at (image signing_on.state) 34 7 ≡ returned 0 2
