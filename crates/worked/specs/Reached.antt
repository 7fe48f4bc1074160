-- Every phase and every ending of a request is reached by some list of calls, shown by example.
use Rattle.std.specs.Prelude.{◌≡◌, List, [], ◌∷◌, ◌++◌, true, cond, ℕ, replicate}
use Rattle.digits.specs.Numbers.{digits_of}
use Rattle.message.specs.Build.{digits, bytes, message_of}
use Rattle.writing.specs.Writing.{message_bytes}
use Rattle.state.specs.declared.Awaited.{Awaited}
use Rattle.state.specs.declared.Awaited.TheVariants as awaited
use Rattle.state.specs.declared.Phase.{Phase}
use Rattle.state.specs.declared.Phase.TheVariants.{Resting, Waiting, Pending, Settling, Uploading}
use Rattle.state.specs.declared.State.{State}
use Rattle.state.specs.State.{signs_on}
use Rattle.outgoing.specs.Outgoing.{field60}
use Rattle.call_definitions.specs.Events.{Event, sign_on_event, answers, no_answer_event, send_reversal_event, settles, send_next_upload_event, run}
use Rattle.worked.specs.Desk.{opened, keyed, sale, field55, chip_sale, reply, approval, to_reversal}

-- a phase without what it holds
pub data Stage : Type 0 where
  rests waits-for-request waits-for-card waits-for-reversal waits-for-settlement waits-for-item waits-for-end : Stage
  pends settles-again uploads-on waits-for-sign-on : Stage

abbrev pub awaited_stage : Awaited → Stage
awaited_stage (awaited.Request q) = waits-for-request
awaited_stage (awaited.Reversal v) = waits-for-reversal
awaited_stage (awaited.Settlement x) = waits-for-settlement
awaited_stage (awaited.Item i) = waits-for-item
awaited_stage (awaited.End x) = waits-for-end

abbrev pub stage : Phase → Stage
stage Resting = rests
stage (Waiting a) = awaited_stage a
stage (Pending v) = pends
stage Settling = settles-again
stage Uploading = uploads-on

-- a terminal with room for one entry, after some calls
abbrev pub after : List Event → State
after es = (run es (opened 1)).state

-- document 02: a request that the centre has approved may wait for the card's word (1), a sign-on may be awaited over a phase (3)
abbrev pub stage_in : State → Stage
stage_in s = cond (signs_on s) waits-for-sign-on (cond s.chip.approved waits-for-card (stage s.phase))

abbrev pub stage_after : List Event → Stage
stage_after es = stage_in (after es)

-- the centre's answer to a settlement of a trace, with its reconciliation digit
abbrev pub reconciled : ℕ → ℕ → Event
reconciled trace digit =
    answers (message_bytes (message_of 0x0510
    (digits 11 (digits_of 6 trace) ∷ bytes 41 (replicate 8 0x31) ∷ bytes 42 (replicate 15 0x32)
    ∷ digits 48 (replicate 30 0 ++ (digit ∷ replicate 31 0)) ∷ digits 60 (field60 0 (record { 0 = 1 }) 201) ∷ []))) true

-- a code to an upload item or the upload's end of a trace
abbrev pub to_upload : ℕ → ℕ → ℕ → Event
to_upload trace a b = reply 0x0330 22 trace a b []

-- an approved sale that the centre does not find in its totals
abbrev pub unbalanced : List Event
unbalanced = sale 100 ∷ approval 22 100 2 ∷ settles ∷ reconciled 3 2 ∷ []

pub record Reached : Type 0 where
  -- each phase
  pub resting : stage_after [] ≡ rests
  pub request_out : stage_after (sale 100 ∷ []) ≡ waits-for-request
  pub card_awaited : stage_after (chip_sale field55 100 ∷ approval 22 100 2 ∷ []) ≡ waits-for-card
  pub pending : stage_after (sale 100 ∷ no_answer_event ∷ []) ≡ pends
  pub reversal_out : stage_after (sale 100 ∷ no_answer_event ∷ send_reversal_event ∷ []) ≡ waits-for-reversal
  pub sign_on_out : stage_after (sign_on_event ∷ []) ≡ waits-for-sign-on
  pub sign_on_over_reversal : stage_after (sale 100 ∷ no_answer_event ∷ sign_on_event ∷ []) ≡ waits-for-sign-on
  pub settlement_out : stage_after (settles ∷ []) ≡ waits-for-settlement
  pub settling : stage_after (settles ∷ no_answer_event ∷ []) ≡ settles-again
  pub uploading : stage_after unbalanced ≡ uploads-on
  pub item_out : stage_after (unbalanced ++ (send_next_upload_event ∷ [])) ≡ waits-for-item
  pub end_out : stage_after (unbalanced ++ (send_next_upload_event ∷ to_upload 2 0x30 0x30 ∷ send_next_upload_event ∷ [])) ≡ waits-for-end
  -- each ending of a request, by a course of events in which it is counted once
  pub endings :
      (after (sale 100 ∷ approval 22 100 2 ∷ [])).counts.approved
      ∷ (after (sale 100 ∷ reply 0x0210 22 2 0x30 0x35 [] ∷ [])).counts.declined
      ∷ (after (sale 100 ∷ no_answer_event ∷ send_reversal_event ∷ to_reversal 2 0x32 0x35 ∷ [])).counts.reversed
      ∷ (after (sale 100 ∷ no_answer_event ∷ send_reversal_event ∷ no_answer_event ∷ send_reversal_event ∷ no_answer_event ∷ send_reversal_event ∷ no_answer_event ∷ [])).counts.given_up
      ∷ (after (keyed 25 100 0 ∷ no_answer_event ∷ [])).counts.unanswered
      ∷ []
      ≡ 1 ∷ 1 ∷ 1 ∷ 1 ∷ 1 ∷ []
  -- both closings
  pub closed : (after (sale 100 ∷ approval 22 100 2 ∷ settles ∷ reconciled 3 1 ∷ [])).batch.0 ≡ 2
  pub closed_after_upload : (after (unbalanced ++ (send_next_upload_event ∷ to_upload 2 0x30 0x30 ∷ send_next_upload_event ∷ to_upload 4 0x30 0x30 ∷ []))).batch.0 ≡ 2
