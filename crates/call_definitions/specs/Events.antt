-- The calls as events, and a list of them one after another.
use Rattle.std.specs.Prelude.{List, [], ◌∷◌, Bool, ℕ}
use Rattle.state.specs.declared.State.{State}
use Rattle.state.specs.Calls.{Lent, Result}
use Rattle.call_definitions.specs.SignOn.{sign_on}
use Rattle.call_definitions.specs.Start.{start}
use Rattle.desk.specs.declared.Desk.{Desk}
use Rattle.calls.specs.declared.Call.{Call}
use Rattle.calls.specs.declared.Call.TheVariants.{SignOn, Start, Answer, NoAnswer, PowerReturned, CardAgrees, CardDeclines, SendReversal, Settle, SendNextUpload}
use Rattle.call_definitions.specs.SendReversal.{send_reversal}
use Rattle.call_definitions.specs.Settle.{settle}
use Rattle.call_definitions.specs.SendNextUpload.{send_next_upload}
use Rattle.call_definitions.specs.Answer.{answer, no_answer, power_returned, card_agrees, card_declines}

-- a call, with what is handed in besides state and buffers
pub data Event : Type 0 where
  sign_on_event : Event
  starts : Desk → List ℕ → Event
  answers : List ℕ → Bool → Event
  no_answer_event : Event
  power_returned_event : Event
  card_agrees_event : Event
  card_declines_event : Event
  send_reversal_event : Event
  settles : Event
  send_next_upload_event : Event

-- the event that a call's name stands for, with what the desk keyed and the bytes of its field 55 or of an answer
abbrev pub event_of : Call → Desk → List ℕ → Event
event_of SignOn desk bytes = sign_on_event
event_of Start desk bytes = starts desk bytes
event_of (Answer good) desk bytes = answers bytes good
event_of NoAnswer desk bytes = no_answer_event
event_of PowerReturned desk bytes = power_returned_event
event_of CardAgrees desk bytes = card_agrees_event
event_of CardDeclines desk bytes = card_declines_event
event_of SendReversal desk bytes = send_reversal_event
event_of Settle desk bytes = settles
event_of SendNextUpload desk bytes = send_next_upload_event

-- what a call gives
abbrev pub call : Event → State → Lent → Result
call sign_on_event s lent = sign_on s lent
call (starts d b) s lent = start d b s lent
call (answers b good) s lent = answer b good s lent
call no_answer_event s lent = no_answer s lent
call power_returned_event s lent = power_returned s lent
call card_agrees_event s lent = card_agrees s lent
call card_declines_event s lent = card_declines s lent
call send_reversal_event s lent = send_reversal s lent
call settles s lent = settle s lent
call send_next_upload_event s lent = send_next_upload s lent

-- each call gets the state and what is lent as the last one left them
abbrev pub run : List Event → Result → Result
run [] r = r
run (e ∷ es) r = run es (call e r.state r.lent)
