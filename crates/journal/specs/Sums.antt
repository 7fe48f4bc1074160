-- The sums of a journal: one entry more, the two sides, and a worked case.
use Rattle.std.specs.Prelude.{◌≡◌, List, [], ◌∷◌, Bool, cond, ℕ}
use Rattle.entry.specs.Entry.{blank}
use Rattle.entry.specs.declared.Entry.{Entry}
use Rattle.kinds.specs.Kinds.{is_debit, is_credit}
use Rattle.kinds.specs.Totals.{booked}
use Rattle.kinds.specs.Sums.{added}
use Rattle.kinds.specs.declared.Totals.{Totals}
use Rattle.kinds.specs.declared.sums.Sums.{Sums}
use Rattle.journal.specs.Journal.{sum_of, amount, one, batch_sums, totals_of}

-- the totals with one entry more
abbrev pub with_entry : Totals → Entry → Totals
with_entry t e = booked e.kind e.amount t

-- the sums of the entries that satisfy p, with one entry more
unfoldable pub sums_with : (Entry → Bool) → Sums → Entry → Sums
sums_with p x e = cond (p e) (added e.kind e.amount x) x

-- Document 01, "Kinds": debit is 20 and 22, credit is 21, 23, 25.
unfoldable pub debit_entry : Entry → Bool
debit_entry e = is_debit e.kind

unfoldable pub credit_entry : Entry → Bool
credit_entry e = is_credit e.kind

-- the five sums make up the amounts and counts of the entries of each side
abbrev pub SidesAddUp : Type 0
SidesAddUp = (es : List Entry)
    → totals_of es ≡ record {
      debit = sum_of debit_entry amount es;
      debits = sum_of debit_entry one es;
      credit = sum_of credit_entry amount es;
      credits = sum_of credit_entry one es;
    }

-- an entry of each kind, its amount in a digit of its own, and a second sale, which is voided
abbrev of : ℕ → ℕ → ℕ → Entry
of kind voided amount =
    record {
      kind = kind;
      voided = voided;
      mark = 0;
      resends = 0;
      trace = blank.trace;
      amount = amount;
      digits = blank.digits;
      card = blank.card;
      date = blank.date;
      authorisation = blank.authorisation;
      reference = blank.reference;
      reserved = blank.reserved;
    }

abbrev pub one_of_each : List Entry
one_of_each =
    of 10 0 1000000 ∷ of 11 0 200000 ∷ of 20 0 30 ∷ of 21 0 40000 ∷ of 22 0 5 ∷ of 23 0 6000 ∷ of 25 0 700 ∷ of 22 1 3 ∷ []

pub record OneOfEach : Type 0 where
  pub sales : (batch_sums one_of_each).sales ≡ record { amount = 8; count = 2 }
  pub completions : (batch_sums one_of_each).completions ≡ record { amount = 30; count = 1 }
  pub refunds : (batch_sums one_of_each).refunds ≡ record { amount = 700; count = 1 }
  pub sale_voids : (batch_sums one_of_each).sale_voids ≡ record { amount = 6000; count = 1 }
  pub completion_voids : (batch_sums one_of_each).completion_voids ≡ record { amount = 40000; count = 1 }
  pub totals : totals_of one_of_each ≡ record { debit = 38; debits = 3; credit = 46700; credits = 3 }
