-- What the outcome of each call says.
use Rattle.std.specs.Prelude.{Some, None, Option}
use mathlib.Core.Path.{◌≡◌, refl}
use mathlib.Core.List.{List}
use mathlib.Core.Bool.{Bool, false, not}
use Prim.Native.Nat.{ℕ}
use borrow.Author.Tests.{not-false}
use Rattle.message.specs.declared.Message.{Message}
use Rattle.reading.specs.Reading.{read_message, ReadOutcome as Judgement, Read, Refused as Unread}
use Rattle.writing.specs.Writing.{message_bytes}
use Rattle.numbers.specs.declared.Trace.{Trace}
use Rattle.journal.specs.Journal.{entries_of, entry_at, next_due, taken}
use Rattle.state.specs.declared.Phase.{Phase}
use Rattle.state.specs.declared.Phase.TheVariants.{Resting, Waiting, Pending, Settling, Uploading}
use Rattle.state.specs.declared.State.{State}
use Rattle.checks.specs.Checks.{first_broken}
use Rattle.state.specs.Calls.{Lent, judged}
use Rattle.checks.proofs.Choices.{passed}
use Rattle.rules.specs.Rules.{too_short, keeps_rule2, rules12, due}
use Rattle.rules.proofs.InOrder.{Fit}
use Rattle.outgoing.specs.Outgoing.{request_message, reversal_message}
use Rattle.call_definitions.specs.SignOn.{sign_on_rules, sign_on}
use Rattle.effect_definitions.specs.StateEffects.{again}
use Rattle.call_definitions.proofs.Refusals.{unbroken}
use Rattle.call_definitions.specs.Start.{original_of, entry_of, named_by, start_rules, start}
use Rattle.desk.specs.DeskRules.{chip_from, request_of}
use Rattle.desk.specs.declared.Desk.{Desk}
use Rattle.call_definitions.specs.SendReversal.{send_from, send_reversal_rules, send_reversal}
use Rattle.call_definitions.specs.Settle.{settle_rules, settle}
use Rattle.batch_messages.specs.BatchMessages.{sign_on_message, settlement_message, item_message, end_message}
use Rattle.call_definitions.specs.SendNextUpload.{sends_next, upload_from, send_next_upload_rules, send_next_upload}
use Rattle.call_definitions.specs.Answer.{quietly, no_answer_rules, no_answer, without_power, power_returned, card_rules, card_agrees, card_declines, answer_rules, read_in, answer}
use Rattle.effect_definitions.specs.JournalEffects.{Changed, silent_in, agreed_in, unanswered, heard}
use Rattle.call_theorems.proofs.Back.{ready-fits}
use Rattle.call_definitions.specs.Events.{Event, sign_on_event, starts, answers, no_answer_event, power_returned_event, card_agrees_event, card_declines_event, send_reversal_event, settles, send_next_upload_event, call}
use Rattle.call_definitions.specs.Shapes.{SettingsShaped, EventShaped}
use Rattle.call_theorems.proofs.Told.{Told, told-refused, told-quiet, told-sent, told-judged}
use Rattle.call_theorems.proofs.Leaving.{sign_on-reads, started-reads, pending-reads, settlement_reads, item-reads, end_reads}

-- the settings and what is handed in are shaped
abbrev pub Shapes : Event → State → Type 0
Shapes e s = SettingsShaped s.settings × EventShaped e

-- the calls that send nothing
module _ (Shaped : Type 0) (s : State) (lent : Lent) where
  -- silence, the power, and the card's word
  quietly-told : (n : ℕ) (c : Changed) → Told Shaped s lent (judged n s lent (quietly c lent))
  quietly-told n c = told-judged n (quietly c lent) (λ z. told-quiet)

  no_answer-told : Told Shaped s lent (no_answer s lent)
  unfolding no_answer
  no_answer-told = quietly-told (first_broken (no_answer_rules s lent)) (unanswered s lent.journal)

  power_returned-told : Told Shaped s lent (power_returned s lent)
  unfolding power_returned
  power_returned-told =
      told-judged (first_broken (rules12 s lent)) (without_power (unanswered s lent.journal) lent) (λ z. told-quiet)

  card_agrees-told : Told Shaped s lent (card_agrees s lent)
  unfolding card_agrees
  card_agrees-told = quietly-told (first_broken (card_rules s lent)) (agreed_in s.phase s lent.journal)

  card_declines-told : Told Shaped s lent (card_declines s lent)
  unfolding card_declines
  card_declines-told = quietly-told (first_broken (card_rules s lent)) (silent_in s.phase s lent.journal)

  -- an answer
  read_in_lem : (o : Judgement) (good : Bool) (a : Message) → Told Shaped s lent (read_in o good a s lent)
  read_in_lem Read good a = quietly-told (first_broken (answer_rules a s lent.journal)) (heard good a s lent.journal)
  read_in_lem (Unread n) good a = told-refused

  answer-told : (b : List ℕ) (good : Bool) → Told Shaped s lent (answer b good s lent)
  unfolding answer
  answer-told b good =
      told-judged (first_broken (rules12 s lent)) (read_in (read_message b).outcome good (read_message b).message s lent)
      (λ z. read_in_lem (read_message b).outcome good (read_message b).message)

-- rules 1 and 2 have passed
fits : (s : State) (lent : Lent) → too_short s lent ≡ false → not (keeps_rule2 s (entries_of s.entries lent.journal)) ≡ false → Fit s lent
fits s lent a b = ready-fits s lent (record { long = a; order = not-false (keeps_rule2 s (entries_of s.entries lent.journal)) b })

sign_on-told : (s : State) (lent : Lent) → Told (Shapes sign_on_event s) s lent (sign_on s lent)
unfolding sign_on
sign_on-told s lent =
    let rs = sign_on_rules s lent in
    let trace : Trace = record { 0 = taken (entries_of s.entries lent.journal) s.next.0 } in
    told-judged (first_broken rs) _
    (λ z. told-sent (message_bytes (sign_on_message s.settings s.batch trace))
    (λ x. sign_on-reads s lent (fits s lent (passed 1 rs refl z) (passed 2 rs refl z)) x.0 trace))

start-told : (d : Desk) (b : List ℕ) (s : State) (lent : Lent) → Told (Shapes (starts d b) s) s lent (start d b s lent)
unfolding start
start-told d b s lent =
    let es = entries_of s.entries lent.journal in
    let e = entry_of (original_of d es) es in
    let n = taken es s.next.0 in
    told-judged (first_broken (start_rules d b s es e lent)) _
    (λ z. told-sent (message_bytes (request_message s.settings s.batch (chip_from d b) (request_of d e n) (named_by d s.batch e)))
    (λ h. started-reads d b s lent n (unbroken d b s e lent z) h.0 h.1.0 h.1.1))

send_from_lem : (s : State) (lent : Lent) → Fit s lent → (p : Phase) → s.phase ≡ p → Told (Shapes send_reversal_event s) s lent (send_from p s lent)
send_from_lem s lent h Resting e = told-quiet
send_from_lem s lent h (Waiting a) e = told-quiet
send_from_lem s lent h (Pending v) e =
    told-sent (message_bytes (reversal_message s.settings s.batch s.chip (again v))) (λ x. pending-reads s lent v h e x.0)
send_from_lem s lent h Settling e = told-quiet
send_from_lem s lent h Uploading e = told-quiet

send_reversal-told : (s : State) (lent : Lent) → Told (Shapes send_reversal_event s) s lent (send_reversal s lent)
unfolding send_reversal
send_reversal-told s lent =
    let rs = send_reversal_rules s lent in
    told-judged (first_broken rs) (send_from s.phase s lent)
    (λ z. send_from_lem s lent (fits s lent (passed 1 rs refl z) (passed 2 rs refl z)) s.phase refl)

settle-told : (s : State) (lent : Lent) → Told (Shapes settles s) s lent (settle s lent)
unfolding settle
settle-told s lent =
    let es = entries_of s.entries lent.journal in
    let rs = settle_rules s lent in
    let trace : Trace = record { 0 = taken es s.next.0 } in
    told-judged (first_broken rs) _
    (λ z. told-sent (message_bytes (settlement_message s.settings s.batch trace s.totals))
    (λ x. settlement_reads s lent (fits s lent (passed 1 rs refl z) (passed 2 rs refl z)) x.0 trace s.totals))

-- an item, or the end where none is left
next-told : (s : State) (lent : Lent) → Fit s lent → (f : Option ℕ) → next_due (due Uploading) (entries_of s.entries lent.journal) ≡ f
    → Told (Shapes send_next_upload_event s) s lent (sends_next f s lent)
next-told s lent h (Some i) e =
    told-sent (message_bytes (item_message s.settings s.batch (entry_at (entries_of s.entries lent.journal) i)))
    (λ x. item-reads s lent h x.0 i e)
next-told s lent h None e =
    let trace : Trace = record { 0 = taken (entries_of s.entries lent.journal) s.next.0 } in
    told-sent (message_bytes (end_message s.settings s.batch trace)) (λ x. end_reads s lent h x.0 trace)

upload_from_lem : (s : State) (lent : Lent) → Fit s lent → (p : Phase) → Told (Shapes send_next_upload_event s) s lent (upload_from p s lent)
upload_from_lem s lent h Resting = told-quiet
upload_from_lem s lent h (Waiting a) = told-quiet
upload_from_lem s lent h (Pending v) = told-quiet
upload_from_lem s lent h Settling = told-quiet
upload_from_lem s lent h Uploading = next-told s lent h (next_due (due Uploading) (entries_of s.entries lent.journal)) refl

send_next_upload-told : (s : State) (lent : Lent) → Told (Shapes send_next_upload_event s) s lent (send_next_upload s lent)
unfolding send_next_upload
send_next_upload-told s lent =
    let rs = send_next_upload_rules s lent in
    told-judged (first_broken rs) (upload_from s.phase s lent)
    (λ z. upload_from_lem s lent (fits s lent (passed 1 rs refl z) (passed 2 rs refl z)) s.phase)

pub call-told : (e : Event) (s : State) (lent : Lent) → Told (Shapes e s) s lent (call e s lent)
call-told sign_on_event s lent = sign_on-told s lent
call-told (starts d b) s lent = start-told d b s lent
call-told (answers b good) s lent = answer-told _ s lent b good
call-told no_answer_event s lent = no_answer-told _ s lent
call-told power_returned_event s lent = power_returned-told _ s lent
call-told card_agrees_event s lent = card_agrees-told _ s lent
call-told card_declines_event s lent = card_declines-told _ s lent
call-told send_reversal_event s lent = send_reversal-told s lent
call-told settles s lent = settle-told s lent
call-told send_next_upload_event s lent = send_next_upload-told s lent
