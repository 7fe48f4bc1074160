-- Document 01, "Calls": what silence, an answer and a resend leave of state and journal.
use Rattle.std.specs.Prelude.{Bool, cond, List, ℕ, ◌+◌, eqb, leb, Some, None, Option}
use Rattle.answer_match.specs.Match.{approves, approves_request, good_mac}
use Rattle.approval.specs.Approval.{approval_of, approved_entry}
use Rattle.entry.specs.Entry.{resends_offset, voided_offset, mark_offset}
use Rattle.entry.specs.declared.Entry.{Entry}
use Rattle.journal.specs.Journal.{entries_of, entry_at, set_byte, original_for, put_entry}
use Rattle.kinds.specs.Kinds.{takes_original}
use Rattle.message.specs.declared.Message.{Message}
use Rattle.state.specs.State.{has_chip, approved_by, approval_in, in_phase, with_chip, signs_on}
use Rattle.state.specs.declared.Awaited.{Awaited}
use Rattle.state.specs.declared.Count.TheVariants.{Declined}
use Rattle.state.specs.declared.Phase.{Phase}
use Rattle.state.specs.declared.Phase.TheVariants.{Resting, Waiting, Pending, Settling, Uploading}
use Rattle.state.specs.declared.Reason.TheVariants.{BadMac}
use Rattle.state.specs.declared.Request.{Request}
use Rattle.state.specs.declared.State.{State}
use Rattle.state.specs.declared.Awaited.TheVariants as awaited
use Rattle.effect_definitions.specs.StateEffects.{sign_on_ended, on_sign_on, ended, pending_or_unanswered, silence_of, failed, one_more, on_reversal, on_settlement, on_end}

-- state and journal after a change
pub record Changed : Type 0 where
  pub state : State
  pub journal : List ℕ

abbrev pub changed : State → List ℕ → Changed
changed s j = record { state = s; journal = j }

-- silence marks an item 1; a silent resend leaves mark 1 while byte 3 is below L, and 4 when it is L
unfoldable pub silent_mark : ℕ → Entry → ℕ
silent_mark l e = cond (eqb e.mark 0) 1 (cond (leb l e.resends) 4 1)

abbrev pub marked : ℕ → ℕ → List ℕ → List ℕ
marked i mark j = set_byte i mark_offset mark j

-- no answer to what is awaited; silence leaves the phase settling, and lets the upload's end be sent again
unfoldable pub silent : Awaited → State → List ℕ → Changed
silent (awaited.Request q) s j = changed (pending_or_unanswered (silence_of s) q s) j
silent (awaited.Reversal v) s j = changed (failed v s) j
silent (awaited.Settlement x) s j = changed (in_phase Settling s) j
silent (awaited.Item i) s j =
    changed (in_phase Uploading s) (marked i (silent_mark s.settings.sendings (entry_at (entries_of s.entries j) i)) j)
silent (awaited.End x) s j = changed (in_phase Uploading s) j

-- what is awaited is silent; in another phase all stays
abbrev pub silent_in : Phase → State → List ℕ → Changed
silent_in Resting s j = changed s j
silent_in (Waiting a) s j = silent a s j
silent_in (Pending v) s j = changed s j
silent_in Settling s j = changed s j
silent_in Uploading s j = changed s j

-- no answer to what is awaited, be it a sign-on, which then ends
unfoldable pub unanswered : State → List ℕ → Changed
unanswered s j = cond (signs_on s) (changed (sign_on_ended s) j) (silent_in s.phase s j)

-- a 21 or 23 marks its original voided, an 11 marks nothing
abbrev pub voided_at : Option ℕ → List ℕ → List ℕ
voided_at (Some i) j = set_byte i voided_offset 1 j
voided_at None j = j

unfoldable pub original_voided : Request → List Entry → List ℕ → List ℕ
original_voided q es j =
    cond (takes_original q.kind) (voided_at (original_for q.kind q.original.0 es) j) j

unfoldable pub approved : Request → Entry → State → List ℕ → Changed
approved q e s j = changed (one_more e.kind e.amount s) (put_entry s.entries e (original_voided q (entries_of s.entries j) j))

-- a good 00, to a sale a good 10: without a chip it approves; with one the card has the last word
unfoldable pub granted : Message → Request → State → List ℕ → Changed
granted a q s j =
    cond (has_chip s.chip)
    (changed (with_chip (approved_by (approval_of a) s.chip) s) j)
    (approved q (approved_entry q (approval_of a)) s j)

-- an answer to a card request: the MAC is read only for a code that approves; other code: declined
unfoldable pub on_request : Bool → Message → Request → State → List ℕ → Changed
on_request good a q s j =
    cond (approves_request q.kind a)
    (cond (good_mac good a) (granted a q s j) (changed (pending_or_unanswered BadMac q s) j))
    (changed (ended Declined s) j)

-- the card agrees to the request that is awaited; nothing else waits for a card
unfoldable pub agreed : Awaited → State → List ℕ → Changed
agreed (awaited.Request q) s j = approved q (approved_entry q (approval_in s.chip)) s j
agreed (awaited.Reversal v) s j = changed s j
agreed (awaited.Settlement x) s j = changed s j
agreed (awaited.Item i) s j = changed s j
agreed (awaited.End x) s j = changed s j

abbrev pub agreed_in : Phase → State → List ℕ → Changed
agreed_in Resting s j = changed s j
agreed_in (Waiting a) s j = agreed a s j
agreed_in (Pending v) s j = changed s j
agreed_in Settling s j = changed s j
agreed_in Uploading s j = changed s j

-- to an upload item: 00 accepts, another code rejects
unfoldable pub on_item : Message → ℕ → List ℕ → List ℕ
on_item a i j = marked i (cond (approves a) 2 3) j

unfoldable pub answered : Bool → Message → Awaited → State → List ℕ → Changed
answered good a (awaited.Request q) s j = on_request good a q s j
answered good a (awaited.Reversal v) s j = changed (on_reversal good a v s) j
answered good a (awaited.Settlement x) s j = changed (on_settlement a s) j
answered good a (awaited.Item i) s j = changed (in_phase Uploading s) (on_item a i j)
answered good a (awaited.End x) s j = changed (on_end a s) j

-- an answer in a phase; what is not awaited is not answered
abbrev pub answered_in : Phase → Bool → Message → State → List ℕ → Changed
answered_in Resting good a s j = changed s j
answered_in (Waiting w) good a s j = answered good a w s j
answered_in (Pending v) good a s j = changed s j
answered_in Settling good a s j = changed s j
answered_in Uploading good a s j = changed s j

-- an answer to what is awaited, be it a sign-on
unfoldable pub heard : Bool → Message → State → List ℕ → Changed
heard good a s j = cond (signs_on s) (changed (on_sign_on a s) j) (answered_in s.phase good a s j)

-- byte 3 grows by 1 as each resend leaves; an entry of mark 0 is sent the first time
unfoldable pub resent : ℕ → Entry → List ℕ → List ℕ
resent i e j = cond (eqb e.mark 0) j (set_byte i resends_offset (e.resends + 1) j)
