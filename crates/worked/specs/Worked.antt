-- Document 01, "Worked at the desk": the starred cases, one line each.
use Rattle.std.specs.Prelude.{◌≡◌, List, [], ◌∷◌, cond, ℕ, zero, suc, eqb, take, drop, replicate, Some, Ok}
use Rattle.field.specs.Table.{formats}
use Rattle.field.specs.Bitmap.{names}
use Rattle.field.specs.Contents.{room}
use Rattle.field.specs.declared.Class.{Class}
use Rattle.field.specs.declared.Class.TheVariants.{Digits, Printable, Any}
use Rattle.field.specs.declared.Format.{Format}
use Rattle.message.specs.Message.{largest}
use Rattle.message.specs.Build.{Item, message_of}
use Rattle.message.specs.declared.Message.{Message}
use Rattle.writing.specs.Writing.{write_message}
use Rattle.state.specs.declared.Counts.{Counts}
use Rattle.state.specs.declared.Request.{Request}
use Rattle.state.specs.declared.Outcome.TheVariants.{Send, Refused}
use Rattle.state.specs.declared.Phase.TheVariants.{Resting, Pending}
use Rattle.state.specs.declared.Reason.TheVariants.{Silence}
use Rattle.state.specs.State.{usual}
use Rattle.state.specs.Calls.{Result}
use Rattle.reading.specs.Reading.{read_message}
use Rattle.parts.specs.Parts.{part_of}
use Rattle.parts.specs.declared.Part.TheVariants as part
use Rattle.call_definitions.specs.Events.{run, no_answer_event, send_reversal_event, settles}
use Rattle.worked.specs.Desk.{settings, opened, keyed, sale, approval, to_reversal, totals}

-- the fields from n on that a bitmap names, k of them looked at
abbrev pub fields_named : List ℕ → ℕ → ℕ → List ℕ
fields_named bm n zero = []
fields_named bm n (suc k) = cond (names bm n) (n ∷ fields_named bm (suc n) k) (fields_named bm (suc n) k)

-- a sale of 12,000 fen, the first request after signing on, and the bytes that leave
abbrev pub first_sent : Result
first_sent = run (sale 12000 ∷ []) (opened 1)

abbrev pub sent : List ℕ
sent = take 77 first_sent.lent.message

-- the same, field by field
abbrev pub sale_on_wire : List ℕ
sale_on_wire =
    -- type 0200 and the bitmap
    0x02 ∷ 0x00 ∷
    0x70 ∷ 0x20 ∷ 0x04 ∷ 0x80 ∷ 0x00 ∷ 0xC0 ∷ 0x80 ∷ 0x11 ∷
    -- fields 2, 3 and 4: the card with its length, a sale, 12,000 fen
    0x16 ∷ 0x62 ∷ 0x22 ∷ 0x02 ∷ 0x12 ∷ 0x34 ∷ 0x56 ∷ 0x78 ∷ 0x94 ∷
    0x00 ∷ 0x00 ∷ 0x00 ∷
    0x00 ∷ 0x00 ∷ 0x00 ∷ 0x01 ∷ 0x20 ∷ 0x00 ∷
    -- fields 11, 22 and 25: trace 2, keyed, the condition of a sale
    0x00 ∷ 0x00 ∷ 0x02 ∷
    0x01 ∷ 0x20 ∷
    0x00 ∷
    -- fields 41, 42 and 49: terminal, merchant, yuan
    0x31 ∷ 0x31 ∷ 0x31 ∷ 0x31 ∷ 0x31 ∷ 0x31 ∷ 0x31 ∷ 0x31 ∷
    0x32 ∷ 0x32 ∷ 0x32 ∷ 0x32 ∷ 0x32 ∷ 0x32 ∷ 0x32 ∷ 0x32 ∷ 0x32 ∷ 0x32 ∷ 0x32 ∷ 0x32 ∷ 0x32 ∷ 0x32 ∷ 0x32 ∷
    0x31 ∷ 0x35 ∷ 0x36 ∷
    -- fields 60 and 64: kind 22, batch 1, management code 000, then 001 (document 02, request 4); eight zero bytes
    0x00 ∷ 0x14 ∷ 0x22 ∷ 0x00 ∷ 0x00 ∷ 0x01 ∷ 0x00 ∷ 0x00 ∷ 0x01 ∷
    0x00 ∷ 0x00 ∷ 0x00 ∷ 0x00 ∷ 0x00 ∷ 0x00 ∷ 0x00 ∷ 0x00 ∷ []

-- every field, each as long as it may be; a byte of zeros is two digits or one filler, a space is printable
abbrev pub filler : Class → ℕ
filler Digits = 0x00
filler Printable = 0x20
filler Any = 0xFF

-- field 55 is one element: tag 82, a value of 252 bytes
abbrev pub filled : Format → List ℕ
filled f = cond (eqb f.number 55) (0x82 ∷ 0x81 ∷ 0xFC ∷ replicate 252 0xFF) (replicate (room f) (filler f.class))

abbrev pub fullest : List Format → List Item
fullest [] = []
fullest (f ∷ fs) = record { number = f.number; field = record { count = f.high; bytes = filled f } } ∷ fullest fs

-- *f, *g, *h: what the desk does and hears, after signing on
abbrev pub after_f : Result
after_f =
    run (sale 12000 ∷ approval 22 12000 2 ∷ sale 8000 ∷ no_answer_event ∷ send_reversal_event ∷ to_reversal 3 0x32 0x35 ∷ keyed 23 0 2 ∷ approval 23 12000 4 ∷ [])
    (opened 2)

abbrev pub after_g : Result
after_g = run (sale 8000 ∷ no_answer_event ∷ send_reversal_event ∷ no_answer_event ∷ send_reversal_event ∷ no_answer_event ∷ send_reversal_event ∷ no_answer_event ∷ []) (opened 1)

abbrev pub after_h : Result
after_h = run (sale 8000 ∷ no_answer_event ∷ send_reversal_event ∷ to_reversal 2 0x39 0x36 ∷ []) (opened 1)

-- *k: a silent sale is reversed before its approval comes
abbrev pub after_k : Result
after_k = run (sale 12000 ∷ no_answer_event ∷ send_reversal_event ∷ to_reversal 2 0x32 0x35 ∷ []) (opened 1)

abbrev pub first_sale : ℕ → Request
first_sale amount =
    record {
      kind = 22;
      amount = amount;
      card = record { number = 6222021234567894; length = 16 };
      trace = record { 0 = 2 };
      original = record { 0 = 0 };
    }

-- the settlement request that would leave now, 80 bytes, as it is read
abbrev pub settlement_of : Result → Message
settlement_of r = (read_message (take 80 (run (settles ∷ []) r).lent.message)).message

-- *i: n sales of the largest amount, each approved
abbrev pub sales : ℕ → Result → Result
sales zero r = r
sales (suc n) r = run (sale 9999999999 ∷ approval 22 9999999999 (suc (suc n)) ∷ []) (sales n r)

abbrev pub hundred : Result
hundred = sales 100 (opened 300)

-- the counts after n approved sales
abbrev pub sales_approved : ℕ → Counts
sales_approved n = record { sent = n; approved = n; declined = 0; reversed = 0; given_up = 0; unanswered = 0 }

-- sent 3, approved 2, reversed 1
abbrev pub counts_f : Counts
counts_f = record { sent = 3; approved = 2; declined = 0; reversed = 1; given_up = 0; unanswered = 0 }

pub record Worked : Type 0 where
  -- sendings L, default 3; largest refund, default 100,000 fen
  pub defaults : usual 1 (replicate 8 0x31) (replicate 15 0x32) ≡ settings 1
  -- the sale that leaves
  pub sent_bytes : sent ≡ sale_on_wire
  -- *a 12,000 fen, field 4
  pub a : take 6 (drop 22 sent) ≡ 0x00 ∷ 0x00 ∷ 0x00 ∷ 0x01 ∷ 0x20 ∷ 0x00 ∷ []
  -- *b field 22
  pub b : take 2 (drop 31 sent) ≡ 0x01 ∷ 0x20 ∷ []
  -- *c field 60 for a sale, batch 1 (document 02, request 4)
  pub c : take 9 (drop 60 sent) ≡ 0x00 ∷ 0x14 ∷ 0x22 ∷ 0x00 ∷ 0x00 ∷ 0x01 ∷ 0x00 ∷ 0x00 ∷ 0x01 ∷ []
  -- *d the sale's bitmap, and the fields that it names
  pub d : take 8 (drop 2 sent) ≡ 0x70 ∷ 0x20 ∷ 0x04 ∷ 0x80 ∷ 0x00 ∷ 0xC0 ∷ 0x80 ∷ 0x11 ∷ []
  pub d_fields : fields_named (take 8 (drop 2 sent)) 1 64 ≡ 2 ∷ 3 ∷ 4 ∷ 11 ∷ 22 ∷ 25 ∷ 41 ∷ 42 ∷ 49 ∷ 60 ∷ 64 ∷ []
  -- *e a sale with a 16-digit card is 77 bytes
  pub e : first_sent.outcome ≡ Send 77
  -- all fields together make 614 bytes
  pub longest : (write_message (message_of 0x0510 (fullest formats)) (replicate largest 0)).outcome ≡ Ok largest
  -- *f sale 12,000 approved, sale 8,000 silent, reversal answered 25, first sale voided:
  -- debit 12,000/1, credit 12,000/1; sent 3, approved 2, reversed 1
  pub f : totals after_f ≡ record { debit = 12000; debits = 1; credit = 12000; credits = 1 }
  pub f_counts : after_f.state.counts ≡ counts_f
  -- and so the settlement says
  pub f_settles : (run (settles ∷ []) after_f).outcome ≡ Send 80
  pub f_debit : part_of (settlement_of after_f) part.DebitAmount ≡ Some 12000
  pub f_debits : part_of (settlement_of after_f) part.DebitCount ≡ Some 1
  pub f_credit : part_of (settlement_of after_f) part.CreditAmount ≡ Some 12000
  pub f_credits : part_of (settlement_of after_f) part.CreditCount ≡ Some 1
  -- *g L = 3, a silent sale, then three silent reversals: given up 1, desk free
  pub g : after_g.state.counts.given_up ≡ 1
  pub g_free : after_g.state.phase ≡ Resting
  -- *h code 96 to a reversal is a failed sending
  pub h : after_h.state.phase ≡ Pending (record { request = first_sale 8000; reason = Silence; sendings = 1 })
  -- *i entry limit 300, 100 sales of 9,999,999,999: one more of 99 goes, of 100 is refused (21)
  pub i : (run (sale 99 ∷ []) hundred).outcome ≡ Send 77
  pub i_refused : (run (sale 100 ∷ []) hundred).outcome ≡ Refused 21
  -- *j refund 100,000 goes, 100,001 is refused (17)
  pub j : (run (keyed 25 100000 0 ∷ []) (opened 1)).outcome ≡ Send 98
  pub j_refused : (run (keyed 25 100001 0 ∷ []) (opened 1)).outcome ≡ Refused 17
  -- *k late answer at rest: 14
  pub k_rest : after_k.state.phase ≡ Resting
  pub k : (run (approval 22 12000 2 ∷ []) after_k).outcome ≡ Refused 14
