-- What code that reads fields is given, and what it leaves in the arrays that it is lent.
use Rattle.std.specs.Prelude.{◌≡◌, List, ◌++◌, ℕ, take, drop, replicate, Result, Ok, Err}
use Rattle.checks.specs.Refusals.{number_of}
use Rattle.checks.specs.declared.Refusal.{Refusal}
use Rattle.field.specs.Table.{rows}
use Rattle.field.specs.declared.Format.{Format}
use Rattle.message.specs.Message.{rooms}
use Rattle.message.specs.declared.Message.{Message}
use Rattle.span.specs.Span.{span_at, spans}
use Rattle.span.specs.declared.Span.{Span}
use Rattle.reading.specs.Reading.{Read, Reading, Fields, bad, good, refused}

-- no field read yet
pub record Fresh (m : Message) : Type 0 where
  pub no_counts : m.counts ≡ replicate rows 0
  pub no_contents : m.contents ≡ replicate rooms 0

-- what fields that are read, or refused, leave of counts and contents
abbrev pub told : Result (Unit {0}) Refusal → List ℕ → List ℕ → Fields
told (Ok _) cs bs = good cs bs
told (Err e) cs bs = bad (number_of e)

-- what a message that is read, or refused, is
abbrev pub parsed : Result (Unit {0}) Refusal → Message → Reading
parsed (Ok _) m = record { outcome = Read; message = m }
parsed (Err e) m = refused (number_of e)

-- the field at the front of s is r, and out is o with its contents copied to the front
pub record Copied (f : Format) (s o : List ℕ) (r : Result Span ℕ) (out : List ℕ) : Type 0 where
  pub found : r ≡ span_at f s
  pub copied : (n p z : ℕ) → r ≡ spans n p z → out ≡ take z (drop p s) ++ drop z o
