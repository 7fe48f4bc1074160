-- Document 01, "Calls": how a call changes the state.
use Rattle.std.specs.Prelude.{Bool, cond, ◌&&◌, true, ℕ, ◌+◌, eqb, leb}
use Rattle.answer_match.specs.Match.{approves, batch_in, ends_reversal, closes_batch}
use Rattle.kinds.specs.Kinds.{is_never_reversed}
use Rattle.kinds.specs.Totals.{booked}
use Rattle.message.specs.declared.Message.{Message}
use Rattle.numbers.specs.declared.Batch.{Batch}
use Rattle.numbers.specs.declared.Trace.{Trace}
use Rattle.state.specs.State.{no_sign_on, no_chip, as_sent, in_phase, counted, with_chip, with_totals, with_entries, with_sign_on, signed, closed, took, is_resting, in_batch}
use Rattle.state.specs.declared.Chip.{Chip}
use Rattle.state.specs.declared.Count.{Count}
use Rattle.state.specs.declared.Count.TheVariants.{Approved, Reversed, GivenUp, Unanswered, Sent}
use Rattle.state.specs.declared.Phase.TheVariants.{Resting, Waiting, Pending, Uploading}
use Rattle.state.specs.declared.Reason.{Reason}
use Rattle.state.specs.declared.Reason.TheVariants.{Silence, CardDeclined}
use Rattle.state.specs.declared.Request.{Request}
use Rattle.state.specs.declared.Reversal.{Reversal}
use Rattle.state.specs.declared.State.{State}
use Rattle.state.specs.declared.Awaited.TheVariants as awaited

-- the batch number is adopted only if no card request has left in this batch and the phase is resting
unfoldable pub adopts : State → Bool
adopts s = eqb s.counts.sent 0 && is_resting s

-- document 02, request 3: a sign-on takes a new trace, and leaves the phase
abbrev pub asks_sign_on : State → Trace → State
asks_sign_on s trace = with_sign_on trace (took trace s)

-- however it ends, nothing else changes
abbrev pub sign_on_ended : State → State
sign_on_ended s = with_sign_on no_sign_on s

-- signed on, in this batch
abbrev pub on : Batch → State → State
on batch s = signed true (in_batch batch s)

-- only 00 signs on, and no other answer signs off
unfoldable pub on_sign_on : Message → State → State
on_sign_on a s = cond (approves a) (on (cond (adopts s) (batch_in a) s.batch) (sign_on_ended s)) (sign_on_ended s)

-- the state once the request has left with a trace, and with a chip or none
abbrev pub requested : State → Chip → Request → State
requested s c q = in_phase (Waiting (awaited.Request q)) (with_chip c (took q.trace (counted Sent s)))

-- a card request ends: it is counted, and its chip forgotten
abbrev pub ended : Count → State → State
ended k s = in_phase Resting (with_chip no_chip (counted k s))

-- silence, bad MAC or a card that declines: kind 25 is unanswered; other kinds make a pending reversal
unfoldable pub pending_or_unanswered : Reason → Request → State → State
pending_or_unanswered reason q s =
    cond (is_never_reversed q.kind)
    (ended Unanswered s)
    (in_phase (Pending (record { request = q; reason = reason; sendings = 0 })) (with_chip (as_sent s.chip) s))

-- silence of the line, or of the card that has the last word (document 02, request 1)
abbrev pub silence_of : State → Reason
silence_of s = cond s.chip.approved CardDeclined Silence

-- a failed sending: at L sendings the reversal is given up, else it is pending again
unfoldable pub failed : Reversal → State → State
failed v s =
    cond (leb s.settings.sendings v.sendings)
    (ended GivenUp s)
    (in_phase (Pending v) s)

-- an approval: the entry is written, its amount booked on its kind's side, and the request counted
abbrev pub one_more : ℕ → ℕ → State → State
one_more kind amount s = ended Approved (with_totals (booked kind amount s.totals) (with_entries (s.entries + 1) s))

-- to a reversal: ended as reversed, or a failed sending
unfoldable pub on_reversal : Bool → Message → Reversal → State → State
on_reversal good a v s = cond (ends_reversal good a) (ended Reversed s) (failed v s)

-- to a settlement: digit 1 closes; 2 or 3 starts the upload
unfoldable pub on_settlement : Message → State → State
on_settlement a s = cond (closes_batch a) (closed s) (in_phase Uploading s)

-- to the upload's end: 00 closes, anything else lets it be sent again
unfoldable pub on_end : Message → State → State
on_end a s = cond (approves a) (closed s) (in_phase Uploading s)

-- one sending more
abbrev pub again : Reversal → Reversal
again v = record { request = v.request; reason = v.reason; sendings = v.sendings + 1 }

-- a settle called again takes a new trace
abbrev pub settles : State → Trace → State
settles s trace = in_phase (Waiting (awaited.Settlement trace)) (took trace s)

-- each sending of the upload's end takes a new trace
abbrev pub ending : State → Trace → State
ending s trace = in_phase (Waiting (awaited.End trace)) (took trace s)
