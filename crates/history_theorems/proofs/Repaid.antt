-- A void that is awaited asks for what the entry of its original holds.
use Rattle.std.specs.Prelude.{Some, None, Option}
use mathlib.Core.Path.{◌≡◌, refl}
use mathlib.Core.List.{List}
use mathlib.Core.Bool.{Bool, true, false, cond}
use Prim.Native.Nat.{ℕ}
use lib.Dec.{eqb, leb}
use Rattle.message.specs.declared.Message.{Message}
use Rattle.reading.specs.Reading.{read_message, ReadOutcome, Read, Refused}
use Rattle.kinds.specs.Kinds.{takes_original, is_never_reversed}
use Rattle.entry.specs.declared.Entry.{Entry}
use Rattle.journal.specs.Journal.{entries_of, entry_at, original_for, next_due, taken}
use Rattle.answer_match.specs.Match.{approves, approves_request, good_mac, ends_reversal, closes_batch}
use Rattle.state.specs.State.{has_chip}
use Rattle.state.specs.Calls.{Lent, Result, refused, judged}
use Rattle.state.specs.declared.Awaited.{Awaited}
use Rattle.state.specs.declared.Awaited.TheVariants as awaited
use Rattle.state.specs.declared.Phase.{Phase}
use Rattle.state.specs.declared.Phase.TheVariants.{Resting, Waiting, Pending, Settling, Uploading}
use Rattle.state.specs.declared.State.{State}
use Rattle.rules.specs.Rules.{due}
use Rattle.desk.specs.declared.Desk.{Desk}
use Rattle.desk.specs.DeskRules.{request_of}
use Rattle.effect_definitions.specs.StateEffects.{on_sign_on, pending_or_unanswered, failed, on_reversal, on_settlement, on_end}
use Rattle.effect_definitions.specs.JournalEffects.{Changed, silent, silent_in, unanswered, approved, granted, on_request, agreed, agreed_in, answered, answered_in, heard}
use Rattle.effect_definitions.proofs.SignOn.{unanswered_as, heard_as}
use Rattle.call_definitions.specs.Start.{original_of, entry_of, start}
use Rattle.call_definitions.specs.SignOn.{sign_on}
use Rattle.call_definitions.specs.Answer.{no_answer, power_returned, card_agrees, card_declines, read_in, answer}
use Rattle.call_definitions.specs.SendReversal.{send_from, send_reversal}
use Rattle.call_definitions.specs.Settle.{settle}
use Rattle.call_definitions.specs.SendNextUpload.{sends_next, upload_from, send_next_upload}
use Rattle.call_definitions.specs.Events.{Event, call, sign_on_event, starts, answers, no_answer_event, power_returned_event, card_agrees_event, card_declines_event, send_reversal_event, settles, send_next_upload_event}

abbrev RepaysAwaited : Awaited → List Entry → Type 0
RepaysAwaited (awaited.Request q) es =
    takes_original q.kind ≡ true → (i : ℕ) → original_for q.kind q.original.0 es ≡ Some i → (entry_at es i).amount ≡ q.amount
RepaysAwaited (awaited.Reversal v) es = Unit {0}
RepaysAwaited (awaited.Settlement t) es = Unit {0}
RepaysAwaited (awaited.Item i) es = Unit {0}
RepaysAwaited (awaited.End t) es = Unit {0}

abbrev pub RepaysIn : Phase → List Entry → Type 0
RepaysIn Resting es = Unit {0}
RepaysIn (Waiting w) es = RepaysAwaited w es
RepaysIn (Pending v) es = Unit {0}
RepaysIn Settling es = Unit {0}
RepaysIn Uploading es = Unit {0}

abbrev pub Repaying : State → List ℕ → Type 0
Repaying s j = RepaysIn s.phase (entries_of s.entries j)

abbrev Left : Changed → Type 0
Left c = Repaying c.state c.journal

abbrev After : Result → Type 0
After r = Repaying r.state r.lent.journal

-- of two changes
either : (b : Bool) (c d : Changed) → Left c → Left d → Left (cond b c d)
either true c d p q = p
either false c d p q = q

either_state : (b : Bool) (s t : State) (j : List ℕ) → Repaying s j → Repaying t j → Repaying (cond b s t) j
either_state true s t j p q = p
either_state false s t j p q = q

-- silence ends every wait
silent-left : (w : Awaited) (s : State) (j : List ℕ) → Left (silent w s j)
unfolding silent pending_or_unanswered failed
silent-left (awaited.Request q) s j = either_state (is_never_reversed q.kind) _ _ j tt tt
silent-left (awaited.Reversal v) s j = either_state (leb s.settings.sendings v.sendings) _ _ j tt tt
silent-left (awaited.Settlement t) s j = tt
silent-left (awaited.Item i) s j = tt
silent-left (awaited.End t) s j = tt

silent_in_lem : (p : Phase) (s : State) (j : List ℕ) → s.phase ≡ p → Repaying s j → Left (silent_in p s j)
silent_in_lem Resting s j e h = h
silent_in_lem (Waiting w) s j e h = silent-left w s j
silent_in_lem (Pending v) s j e h = h
silent_in_lem Settling s j e h = h
silent_in_lem Uploading s j e h = h

unanswered-left : (s : State) (j : List ℕ) → Repaying s j → Left (unanswered s j)
unanswered-left s j h = unanswered_as Left s j (λ e. h) (λ e. silent_in_lem s.phase s j refl h)

-- an answer ends the wait, or leaves it for the card's word
answered-left : (good : Bool) (a : Message) (w : Awaited) (s : State) (j : List ℕ) → Repaying s j → Left (answered good a w s j)
unfolding answered on_request granted approved pending_or_unanswered on_reversal failed on_settlement on_end
answered-left good a (awaited.Request q) s j h =
    either (approves_request q.kind a) _ _
    (either (good_mac good a) _ _ (either (has_chip s.chip) _ _ h tt) (either_state (is_never_reversed q.kind) _ _ j tt tt)) tt
answered-left good a (awaited.Reversal v) s j h =
    either_state (ends_reversal good a) _ _ j tt (either_state (leb s.settings.sendings v.sendings) _ _ j tt tt)
answered-left good a (awaited.Settlement t) s j h = either_state (closes_batch a) _ _ j tt tt
answered-left good a (awaited.Item i) s j h = tt
answered-left good a (awaited.End t) s j h = either_state (approves a) _ _ j tt tt

answered_in_lem : (p : Phase) (good : Bool) (a : Message) (s : State) (j : List ℕ) → Repaying s j → Left (answered_in p good a s j)
answered_in_lem Resting good a s j h = h
answered_in_lem (Waiting w) good a s j h = answered-left good a w s j h
answered_in_lem (Pending v) good a s j h = h
answered_in_lem Settling good a s j h = h
answered_in_lem Uploading good a s j h = h

heard-left : (good : Bool) (a : Message) (s : State) (j : List ℕ) → Repaying s j → Left (heard good a s j)
unfolding on_sign_on
heard-left good a s j h = heard_as Left good a s j (λ e. either_state (approves a) _ _ j h h) (λ e. answered_in_lem s.phase good a s j h)

-- so does the card's word
agreed_in_lem : (p : Phase) (s : State) (j : List ℕ) → Repaying s j → Left (agreed_in p s j)
unfolding agreed approved
agreed_in_lem Resting s j h = h
agreed_in_lem (Waiting (awaited.Request q)) s j h = tt
agreed_in_lem (Waiting (awaited.Reversal v)) s j h = h
agreed_in_lem (Waiting (awaited.Settlement t)) s j h = h
agreed_in_lem (Waiting (awaited.Item i)) s j h = h
agreed_in_lem (Waiting (awaited.End t)) s j h = h
agreed_in_lem (Pending v) s j h = h
agreed_in_lem Settling s j h = h
agreed_in_lem Uploading s j h = h

-- a void takes the amount of the entry that it is for
started : (d : Desk) (es : List Entry) (trace : ℕ) → RepaysAwaited (awaited.Request (request_of d (entry_of (original_of d es) es) trace)) es
unfolding original_of
started d es trace t i f = let g : original_for d.kind d.original.0 es ≡ Some i = rw t at f in rw (t, g)

judged-after : (n : ℕ) (s : State) (lent : Lent) (done : Result) → Repaying s lent.journal → After done → After (judged n s lent done)
unfolding judged
judged-after n s lent done h k = go (eqb n 0)
  where
    go : (b : Bool) → After (cond b done (refused n s lent))
    go true = k
    go false = h

read-after : (o : ReadOutcome) (good : Bool) (a : Message) (s : State) (lent : Lent) → Repaying s lent.journal → After (read_in o good a s lent)
read-after Read good a s lent h = judged-after _ s lent _ h (heard-left good a s lent.journal h)
read-after (Refused n) good a s lent h = h

send_after : (p : Phase) (s : State) (lent : Lent) → Repaying s lent.journal → After (send_from p s lent)
send_after Resting s lent h = h
send_after (Waiting w) s lent h = h
send_after (Pending v) s lent h = tt
send_after Settling s lent h = h
send_after Uploading s lent h = h

next-after : (f : Option ℕ) (s : State) (lent : Lent) → After (sends_next f s lent)
next-after (Some i) s lent = tt
next-after None s lent = tt

upload-after : (p : Phase) (s : State) (lent : Lent) → Repaying s lent.journal → After (upload_from p s lent)
upload-after Resting s lent h = h
upload-after (Waiting w) s lent h = h
upload-after (Pending v) s lent h = h
upload-after Settling s lent h = h
upload-after Uploading s lent h = next-after (next_due (due Uploading) (entries_of s.entries lent.journal)) s lent

pub call-repaying : (e : Event) (s : State) (lent : Lent) → Repaying s lent.journal → After (call e s lent)
unfolding sign_on start answer no_answer power_returned card_agrees card_declines send_reversal settle send_next_upload
call-repaying sign_on_event s lent h = judged-after _ s lent _ h h
call-repaying (starts d b) s lent h = judged-after _ s lent _ h
    (started d (entries_of s.entries lent.journal) (taken (entries_of s.entries lent.journal) s.next.0))
call-repaying (answers b good) s lent h =
    judged-after _ s lent _ h (read-after (read_message b).outcome good (read_message b).message s lent h)
call-repaying no_answer_event s lent h = judged-after _ s lent _ h (unanswered-left s lent.journal h)
call-repaying power_returned_event s lent h = judged-after _ s lent _ h (unanswered-left s lent.journal h)
call-repaying card_agrees_event s lent h = judged-after _ s lent _ h (agreed_in_lem s.phase s lent.journal h)
call-repaying card_declines_event s lent h = judged-after _ s lent _ h (silent_in_lem s.phase s lent.journal refl h)
call-repaying send_reversal_event s lent h = judged-after _ s lent _ h (send_after s.phase s lent h)
call-repaying settles s lent h = judged-after _ s lent _ h tt
call-repaying send_next_upload_event s lent h = judged-after _ s lent _ h (upload-after s.phase s lent h)
