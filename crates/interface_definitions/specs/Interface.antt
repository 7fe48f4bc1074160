-- The functions for C: the number that each returns, and what it leaves in all that it may write, for every input.
use Rattle.std.specs.Prelude.{List, [], ◌∷◌, ◌++◌, Bool, false, cond, ◌&&◌, ℕ, ltb, eqb, length, get_or, replicate, Result as Attempt, Ok, Err}
use Rattle.message.specs.Message.{Field, field_of}
use Rattle.message.specs.declared.Message.{Message}
use Rattle.reading.specs.Reading.{read_message, ReadOutcome, Read, Refused as Unread}
use Rattle.parts.specs.Parts.{taken, with_taken}
use Rattle.parts.specs.declared.NotTaken.{NotTaken}
use Rattle.parts.specs.declared.NotTaken.TheVariants.{Absent, TooLong}
use Rattle.kinds.specs.declared.sums.Sum.{Sum}
use Rattle.kinds.specs.declared.sums.Sums.{Sums}
use Rattle.journal.specs.Journal.{entries_of, batch_sums}
use Rattle.state.specs.declared.Settings.{Settings}
use Rattle.state.specs.declared.State.{State}
use Rattle.state.specs.declared.Outcome.{Outcome}
use Rattle.state.specs.declared.Outcome.TheVariants.{Send, Quiet, Refused}
use Rattle.state.specs.State.{fresh}
use Rattle.state.specs.Calls.{Lent, lend, Result}
use Rattle.checks.specs.Checks.{first_broken}
use Rattle.rules.specs.Rules.{report_rules}
use Rattle.desk.specs.declared.Desk.{Desk}
use Rattle.image_definitions.specs.Layout.{rows, size}
use Rattle.image_definitions.specs.Image.{totals_values, values_of, image, read_image}
use Rattle.call_definitions.specs.Events.{Event, call}

-- The numbers beside those of documents 01 and 02: done, a message does not hold a field, a message is to be sent.
abbrev pub done : ℕ
done = 0

abbrev pub absent : ℕ
absent = 254

abbrev pub sends : ℕ
sends = 255

-- Of document 01: a buffer is too short; bytes are no image, or an image has no such row.
abbrev pub too_short : ℕ
too_short = 1

abbrev pub out_of_form : ℕ
out_of_form = 2

-- What a call leaves: the number returned, how many bytes are to be sent, the image, and journal and message.
pub record Given : Type 0 where
  pub number : ℕ
  pub length : ℕ
  pub image : List ℕ
  pub lent : Lent

abbrev pub gives : ℕ → ℕ → List ℕ → List ℕ → List ℕ → Given
gives number n b j m = record { number = number; length = n; image = b; lent = lend j m }

abbrev pub number_of : Outcome → ℕ
number_of (Send n) = sends
number_of Quiet = done
number_of (Refused k) = k

abbrev pub length_of : Outcome → ℕ
length_of (Send n) = n
length_of Quiet = 0
length_of (Refused k) = 0

-- the result of a call, with the image of the state after it
abbrev pub given : Result → Given
given r = record { number = number_of r.outcome; length = length_of r.outcome; image = image r.state; lent = r.lent }

-- bytes that are no image are refused, and everything stays
abbrev pub no_image : List ℕ → Lent → Given
no_image b lent = record { number = out_of_form; length = 0; image = b; lent = lent }

-- a call on the terminal whose image these bytes are
unfoldable pub on_image : Event → List ℕ → Lent → Given
on_image e b lent = cond (read_image b).accepted (given (call e (read_image b).state lent)) (no_image b lent)

-- what the desk keyed, in the order in which it is handed in; a chip's field 55 stands beside it
abbrev pub desk_of : ℕ → ℕ → ℕ → ℕ → ℕ → ℕ → ℕ → List ℕ → List ℕ → Bool → Desk
desk_of kind amount card digits original month day authorisation reference chip =
    record {
      kind = kind;
      amount = amount;
      card = record { number = card; length = digits };
      original = record { 0 = original };
      month = month;
      day = day;
      authorisation = authorisation;
      reference = reference;
      chip = chip;
    }

-- zeros where a call takes nothing from the desk
abbrev pub nothing_keyed : Desk
nothing_keyed = desk_of 0 0 0 0 0 0 0 (replicate 6 0) (replicate 12 0) false

-- What a function that is no call leaves: the number returned, and what stands where it writes.
pub record Returned (A : Type 0) : Type 0 where
  pub number : ℕ
  pub left : A

abbrev pub returned : {A : Type 0} → ℕ → A → Returned A
returned n x = record { number = n; left = x }

-- the settings in the order in which they are handed in
abbrev pub settings_of : ℕ → ℕ → ℕ → List ℕ → List ℕ → Settings
settings_of limit sendings refund terminal merchant =
    record { limit = limit; sendings = sendings; refund = refund; terminal = terminal; merchant = merchant }

-- the image of a fresh terminal, where there is just the room for it
unfoldable pub fresh_image : Settings → List ℕ → Returned (List ℕ)
fresh_image x b = cond (eqb (length b) size) (returned done (image (fresh x))) (returned out_of_form b)

-- the number in a row of an image
unfoldable pub number_at : List ℕ → ℕ → ℕ → Returned ℕ
number_at b row x =
    cond (ltb row rows && (read_image b).accepted)
    (returned done (get_or (values_of (read_image b).state) row 0))
    (returned out_of_form x)

-- the totals in an image: debit amount and count, credit amount and count
unfoldable pub totals_on : List ℕ → List ℕ → Returned (List ℕ)
totals_on b x = cond (read_image b).accepted (returned done (totals_values (read_image b).state.totals)) (returned out_of_form x)

-- document 02, request 5: five sums in their order, the amount and the count of each
abbrev pub sum_values : Sum → List ℕ
sum_values x = x.amount ∷ x.count ∷ []

abbrev pub sums_values : Sums → List ℕ
sums_values x =
    sum_values x.sales ++ (sum_values x.completions
    ++ (sum_values x.refunds ++ (sum_values x.sale_voids ++ sum_values x.completion_voids)))

-- those of a terminal's journal, or the number of the first rule that is broken
abbrev pub reported : ℕ → State → List ℕ → List ℕ → Returned (List ℕ)
reported number s j x =
    cond (eqb number done) (returned done (sums_values (batch_sums (entries_of s.entries j)))) (returned number x)

unfoldable pub sums_on : List ℕ → List ℕ → List ℕ → Returned (List ℕ)
sums_on b j x =
    cond (read_image b).accepted
    (reported (first_broken (report_rules (read_image b).state j)) (read_image b).state j x)
    (returned out_of_form x)

-- bytes that are a message, or the number by which they are refused
abbrev pub read_number : ReadOutcome → ℕ
read_number Read = done
read_number (Unread n) = n

-- what stands in *count and out
abbrev pub held : ℕ → List ℕ → Field
held k b = record { count = k; bytes = b }

-- the number returned by how the taking of a field ends, and the count that it leaves
abbrev pub taken_number : Attempt ℕ NotTaken → ℕ
taken_number (Err Absent) = absent
taken_number (Err TooLong) = too_short
taken_number (Ok k) = done

abbrev pub taken_count : Attempt ℕ NotTaken → ℕ → ℕ
taken_count (Err e) x = x
taken_count (Ok k) x = k

abbrev pub taken_as : Attempt ℕ NotTaken → List ℕ → Field → Returned Field
taken_as t b x = returned (taken_number t) (held (taken_count t x.count) (with_taken t b x.bytes))

abbrev pub field_from : ReadOutcome → Message → ℕ → Field → Returned Field
field_from Read m n x = taken_as (taken m n (length x.bytes)) (field_of m n).bytes x
field_from (Unread e) m n x = returned e x

-- field n of the message that bytes are: its bytes at the front of out, and its count of digits or bytes
unfoldable pub field_at : List ℕ → ℕ → Field → Returned Field
field_at b n x = field_from (read_message b).outcome (read_message b).message n x
