-- Document 01, "Message bytes" and rules 3 to 9: type, bitmap, then fields ascending.
use Rattle.std.specs.Prelude.{List, [], ◌∷◌, ◌++◌, cond, ℕ, ◌+◌, ◌*◌, ltb, eqb, length, get_or, take, drop, Err, Result, Ok}
use Rattle.checks.specs.Refusals.{number_of}
use Rattle.checks.specs.declared.Refusal.{Refusal}
use Rattle.field.specs.Table.{among, indicators, formats}
use Rattle.field.specs.Bitmap.{listed}
use Rattle.field.specs.Contents.{room}
use Rattle.field.specs.declared.Format.{Format}
use Rattle.span.specs.Span.{span}
use Rattle.span.specs.declared.Span.{Span}
use Rattle.message.specs.Message.{empty}
use Rattle.message.specs.Late.{late_fault}
use Rattle.message.specs.Build.{padded}
use Rattle.message.specs.declared.Message.{Message}

-- a message was read, or the bytes are refused by a number
pub data ReadOutcome : Type 0 where
  Read : ReadOutcome
  Refused : ℕ → ReadOutcome

-- the outcome, and the message where one was read
pub record Reading : Type 0 where
  pub outcome : ReadOutcome
  pub message : Message

-- what reading fields gives: a refusal number, or each field's count and its contents at its place
pub data Fields : Type 0 where
  bad : ℕ → Fields
  good : List ℕ → List ℕ → Fields

abbrev pub prepend : List ℕ → List ℕ → Fields → Fields
prepend cs bs (bad e) = bad e
prepend cs bs (good cs' bs') = good (cs ++ cs') (bs ++ bs')

abbrev pub after_span : Format → List ℕ → (List ℕ → Fields) → Result Span ℕ → Fields
after_span f s next (Err e) = bad e
after_span f s next (Ok x) =
    prepend (x.count ∷ []) (padded (room f) (take x.size (drop x.skip s))) (next (drop (x.skip + x.size) s))

-- the fields of a table one after another from the front of s; rule 9: no bytes follow the last
unfoldable pub read_fields : List Format → List ℕ → List ℕ → Fields
read_fields [] bm s = cond (eqb (length s) 0) (good [] []) (bad 9)
read_fields (f ∷ fs) bm s = after_span f s (read_fields fs bm) (span f bm s)

abbrev pub refused : ℕ → Reading
refused e = record { outcome = Refused e; message = empty }

-- the type, four packed digits as a number
abbrev pub indicator_in : List ℕ → ℕ
indicator_in s = get_or s 0 0 * 256 + get_or s 1 0

abbrev pub bitmap_of : List ℕ → List ℕ
bitmap_of s = take 8 (drop 2 s)

-- a message that was read, where no rule on it as a whole is broken
abbrev pub accepted : Message → Reading
accepted m = cond (eqb (late_fault m) 0) (record { outcome = Read; message = m }) (refused (late_fault m))

-- the message of a type, a bitmap and the fields after it
abbrev pub assembled : ℕ → List ℕ → Fields → Reading
assembled i bm (bad e) = refused e
assembled i bm (good cs bs) = accepted (record { indicator = i; bitmap = bm; counts = cs; contents = bs })

-- under 10 bytes is 3; then come 4 and 5; then the fields one after another; then 9; then the message as a whole
unfoldable pub read_message : List ℕ → Reading
read_message s =
    cond (ltb (length s) 10) (refused 3)
    (cond (among (indicator_in s) indicators)
    (cond (listed (bitmap_of s))
    (assembled (indicator_in s) (bitmap_of s) (read_fields formats (bitmap_of s) (drop 10 s)))
    (refused 5))
    (refused 4))

-- what code gives for a reading
abbrev pub reading_of : Result Message Refusal → Reading
reading_of (Ok m) = record { outcome = Read; message = m }
reading_of (Err e) = refused (number_of e)

-- what code gives for a reading whose message is not kept
abbrev pub outcome_of : Result (Unit {0}) Refusal → ReadOutcome
outcome_of (Ok _) = Read
outcome_of (Err e) = Refused (number_of e)
