-- What a line of a script does to a rehearsal, and what a call does.
use Rattle.std.specs.Prelude.{◌≡◌, List, ℕ}
use Rattle.state.specs.Calls.{Lent, Result}
use Rattle.call_definitions.specs.Events.{Event, call}
use Rattle.texts.specs.Text.{Text}
use Rattle.screen.specs.Outcomes.{outcome_line}
use Rattle.stage.specs.declared.Rehearsal.{Rehearsal}
use Rattle.stage.specs.Stage.{after_call}
use Rattle.rehearse.specs.declared.commands.Acted.{Acted}

-- a rehearsal and what was lent to it after a line of a script, and what the line wrote
pub record Done : Type 0 where
  pub rehearsal : Rehearsal
  pub lent : Lent
  pub written : List ℕ

-- a function did this: what it gave back and left in what was lent and in the text buffer
pub record Did (d : Done) (a : Acted) (lent : Lent) (o : List ℕ) : Type 0 where
  pub rehearsal_is : a.rehearsal ≡ d.rehearsal
  pub lent_is : lent ≡ d.lent
  pub text_is : Text d.written a.written o

-- a line that changes nothing
abbrev pub writes : List ℕ → Rehearsal → Lent → Done
writes w r lent = record { rehearsal = r; lent = lent; written = w }

-- a call: its outcome is written, and what left is the last message
abbrev pub resulted : Result → Rehearsal → Done
resulted q r =
    record {
      rehearsal = after_call q.outcome q.state r;
      lent = q.lent;
      written = outcome_line q.outcome q.lent.message;
    }

abbrev pub called : Event → Rehearsal → Lent → Done
called e r lent = resulted (call e r.state lent) r
