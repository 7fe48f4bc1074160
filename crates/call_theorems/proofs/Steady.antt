-- The settings never change, nor does field 55 of a request that has not ended; of the message buffer a call looks at its length alone.
use Rattle.std.specs.Prelude.{Some, None, Option}
use mathlib.Core.Path.{◌≡◌, refl, sym}
use mathlib.Core.List.{List}
use mathlib.Core.Bool.{Bool, true, false, cond, true≢false}
use Prim.Native.Nat.{ℕ}
use native.Mathlib.Omega.{arith}
use lib.Dec.{eqb, leb}
use lib.ListN.{length}
use borrow.Author.Tests.{eqb-true}
use Rattle.reading.specs.Reading.{read_message, ReadOutcome as Judgement, Read, Refused as Unread}
use Rattle.message.specs.declared.Message.{Message}
use Rattle.kinds.specs.Kinds.{is_never_reversed}
use Rattle.entry.specs.declared.Entry.{Entry}
use Rattle.journal.specs.Journal.{entries_of, next_due}
use Rattle.state.specs.declared.Awaited.{Awaited}
use Rattle.state.specs.declared.Awaited.TheVariants as awaited
use Rattle.state.specs.declared.Phase.{Phase}
use Rattle.state.specs.declared.Phase.TheVariants.{Resting, Waiting, Pending, Settling, Uploading}
use Rattle.state.specs.declared.Request.{Request}
use Rattle.state.specs.declared.Reversal.{Reversal}
use Rattle.state.specs.declared.State.{State}
use Rattle.state.specs.declared.Count.{Count}
use Rattle.state.specs.declared.Count.TheVariants.{Declined, Reversed, GivenUp, Unanswered}
use Rattle.state.specs.declared.Reason.{Reason}
use Rattle.state.specs.declared.Reason.TheVariants.{BadMac}
use Rattle.state.specs.State.{chip_bytes, has_chip, approval_in, waits, pends, signs_on, is_waiting}
use Rattle.state.specs.declared.Outcome.TheVariants.{Send, Quiet, Refused}
use Rattle.state.specs.Calls.{Lent, lend, Result, refused, judged}
use Rattle.checks.specs.Checks.{first_broken}
use Rattle.checks.proofs.Choices.{passed}
use Rattle.state_rules.specs.StateRules.{waiting}
use Rattle.rules.specs.Rules.{too_short, due}
use Rattle.answer_match.specs.Match.{approves, approves_request, good_mac, ends_reversal, closes_batch}
use Rattle.approval.specs.Approval.{approval_of, approved_entry}
use Rattle.effect_definitions.specs.StateEffects.{ended, pending_or_unanswered, silence_of, failed, on_reversal, on_settlement, on_end, on_sign_on}
use Rattle.effect_definitions.specs.JournalEffects.{Changed, silent, silent_in, unanswered, approved, granted, on_request, agreed, agreed_in, answered, answered_in, heard}
use Rattle.call_definitions.specs.SignOn.{sign_on_rules, sign_on}
use Rattle.call_definitions.specs.Start.{original_of, entry_of, start_rules, start}
use Rattle.desk.specs.declared.Desk.{Desk}
use Rattle.call_definitions.specs.Answer.{no_answer, without_power, power_returned, card_agrees, card_declines, read_in, answer}
use Rattle.call_definitions.proofs.Quietly.{idle}
use Rattle.call_definitions.specs.SendReversal.{send_from, send_reversal_rules, send_reversal}
use Rattle.call_definitions.specs.Settle.{settle_rules, settle}
use Rattle.call_definitions.specs.SendNextUpload.{sends_next, upload_from, send_next_upload_rules, send_next_upload}
use Rattle.call_definitions.specs.Events.{Event, call, sign_on_event, starts, answers, no_answer_event, power_returned_event, card_agrees_event, card_declines_event, send_reversal_event, settles, send_next_upload_event}
use Rattle.call_theorems.specs.Facts.{is_sign_on, SettingsStay, ChipStaysAsSent, OnlySignOnAwaited, NothingLeavesMeanwhile, SameButMessage, MessageByLength}

-- what a change keeps: the settings, and field 55 of a request that has not ended; no sign-on is awaited that was not before
record Keeps (s t : State) : Type 0 where
  settings_are : t.settings ≡ s.settings
  sign_on_is : signs_on t ≡ true → signs_on s ≡ true
  chip_is : waiting s.phase ≡ 1 → waiting t.phase ≡ 1 → chip_bytes t.chip ≡ chip_bytes s.chip

abbrev KeptBy : State → Changed → Type 0
KeptBy s c = Keeps s c.state

abbrev keeps : {s t : State} → t.settings ≡ s.settings → chip_bytes t.chip ≡ chip_bytes s.chip → (signs_on t ≡ true → signs_on s ≡ true) → Keeps s t
keeps x c o = record { settings_are = x; sign_on_is = o; chip_is = λ a b. c }

-- a request's end
ends : (k : Count) (s : State) → Keeps s (ended k s)
ends k s = record { settings_are = refl; sign_on_is = λ e. e; chip_is = λ a b. absurd (omega (arith, b)) }

either : {s x y : State} (b : Bool) → Keeps s x → Keeps s y → Keeps s (cond b x y)
either true h k = h
either false h k = k

one_of : (s : State) (b : Bool) (x y : Changed) → KeptBy s x → KeptBy s y → KeptBy s (cond b x y)
one_of s true x y h k = h
one_of s false x y h k = k

pending_keeps : (r : Reason) (q : Request) (s : State) → Keeps s (pending_or_unanswered r q s)
unfolding pending_or_unanswered
pending_keeps r q s = either (is_never_reversed q.kind) (ends Unanswered s) (keeps refl refl (λ e. e))

failed_keeps : (v : Reversal) (s : State) → Keeps s (failed v s)
unfolding failed
failed_keeps v s = either (leb s.settings.sendings v.sendings) (ends GivenUp s) (keeps refl refl (λ e. e))

approved_keeps : (q : Request) (e : Entry) (s : State) (j : List ℕ) → KeptBy s (approved q e s j)
unfolding approved
approved_keeps q e s j = record { settings_are = refl; sign_on_is = λ e. e; chip_is = λ a b. absurd (omega (arith, b)) }

silent_keeps : (w : Awaited) (s : State) (j : List ℕ) → KeptBy s (silent w s j)
unfolding silent
silent_keeps (awaited.Request q) s j = pending_keeps (silence_of s) q s
silent_keeps (awaited.Reversal v) s j = failed_keeps v s
silent_keeps (awaited.Settlement t) s j = keeps refl refl (λ e. e)
silent_keeps (awaited.Item i) s j = keeps refl refl (λ e. e)
silent_keeps (awaited.End t) s j = keeps refl refl (λ e. e)

silent_in_lem : (p : Phase) (s : State) (j : List ℕ) → KeptBy s (silent_in p s j)
silent_in_lem Resting s j = keeps refl refl (λ e. e)
silent_in_lem (Waiting w) s j = silent_keeps w s j
silent_in_lem (Pending v) s j = keeps refl refl (λ e. e)
silent_in_lem Settling s j = keeps refl refl (λ e. e)
silent_in_lem Uploading s j = keeps refl refl (λ e. e)

unanswered_keeps : (s : State) (j : List ℕ) → KeptBy s (unanswered s j)
unfolding unanswered
unanswered_keeps s j = one_of s (signs_on s) _ _ (keeps refl refl (λ e. absurd (true≢false (sym e)))) (silent_in_lem s.phase s j)

answered_keeps : (w : Awaited) (good : Bool) (a : Message) (s : State) (j : List ℕ) → KeptBy s (answered good a w s j)
unfolding answered on_request granted on_reversal on_settlement on_end
answered_keeps (awaited.Request q) good a s j =
    one_of s (approves_request q.kind a) _ _
    (one_of s (good_mac good a) _ _
    (one_of s (has_chip s.chip) _ _ (keeps refl refl (λ e. e)) (approved_keeps q (approved_entry q (approval_of a)) s j))
    (pending_keeps BadMac q s))
    (ends Declined s)
answered_keeps (awaited.Reversal v) good a s j = either (ends_reversal good a) (ends Reversed s) (failed_keeps v s)
answered_keeps (awaited.Settlement t) good a s j = either (closes_batch a) (keeps refl refl (λ e. e)) (keeps refl refl (λ e. e))
answered_keeps (awaited.Item i) good a s j = keeps refl refl (λ e. e)
answered_keeps (awaited.End t) good a s j = either (approves a) (keeps refl refl (λ e. e)) (keeps refl refl (λ e. e))

answered_in_lem : (p : Phase) (good : Bool) (a : Message) (s : State) (j : List ℕ) → KeptBy s (answered_in p good a s j)
answered_in_lem Resting good a s j = keeps refl refl (λ e. e)
answered_in_lem (Waiting w) good a s j = answered_keeps w good a s j
answered_in_lem (Pending v) good a s j = keeps refl refl (λ e. e)
answered_in_lem Settling good a s j = keeps refl refl (λ e. e)
answered_in_lem Uploading good a s j = keeps refl refl (λ e. e)

heard_keeps : (good : Bool) (a : Message) (s : State) (j : List ℕ) → KeptBy s (heard good a s j)
unfolding heard on_sign_on
heard_keeps good a s j =
    one_of s (signs_on s) _ _
    (either (approves a) (keeps refl refl (λ e. absurd (true≢false (sym e)))) (keeps refl refl (λ e. absurd (true≢false (sym e))))) (answered_in_lem s.phase good a s j)

agreed_keeps : (w : Awaited) (s : State) (j : List ℕ) → KeptBy s (agreed w s j)
unfolding agreed
agreed_keeps (awaited.Request q) s j = approved_keeps q (approved_entry q (approval_in s.chip)) s j
agreed_keeps (awaited.Reversal v) s j = keeps refl refl (λ e. e)
agreed_keeps (awaited.Settlement t) s j = keeps refl refl (λ e. e)
agreed_keeps (awaited.Item i) s j = keeps refl refl (λ e. e)
agreed_keeps (awaited.End t) s j = keeps refl refl (λ e. e)

agreed_in_lem : (p : Phase) (s : State) (j : List ℕ) → KeptBy s (agreed_in p s j)
agreed_in_lem Resting s j = keeps refl refl (λ e. e)
agreed_in_lem (Waiting w) s j = agreed_keeps w s j
agreed_in_lem (Pending v) s j = keeps refl refl (λ e. e)
agreed_in_lem Settling s j = keeps refl refl (λ e. e)
agreed_in_lem Uploading s j = keeps refl refl (λ e. e)

judged_keeps : (n : ℕ) (s : State) (lent : Lent) (done : Result) → (n ≡ 0 → Keeps s done.state) → Keeps s (judged n s lent done).state
unfolding judged
judged_keeps n s lent done h = go (eqb n 0) refl
  where
    go : (b : Bool) → eqb n 0 ≡ b → Keeps s (cond b done (refused n s lent)).state
    go true e = h (eqb-true n 0 e)
    go false e = keeps refl refl (λ e. e)

-- a request leaves only where none waits
free : (p : Phase) → waits p ≡ false → pends p ≡ false → waiting p ≡ 0
free Resting w v = refl
free (Waiting a) w v = absurd (true≢false w)
free (Pending r) w v = absurd (true≢false v)
free Settling w v = refl
free Uploading w v = refl

start_keeps : (d : Desk) (b : List ℕ) (s : State) (lent : Lent) → Keeps s (start d b s lent).state
unfolding start
start_keeps d b s lent =
    let es = entries_of s.entries lent.journal in
    let rs = start_rules d b s es (entry_of (original_of d es) es) lent in
    judged_keeps (first_broken rs) s lent _
    (λ z. record {
      settings_are = refl;
      sign_on_is = λ e. e;
      chip_is = λ w v. absurd (omega (arith, w, free s.phase (idle s (passed 11 rs refl z)).0 (passed 12 rs refl z)));
    })

read_keeps : (o : Judgement) (good : Bool) (a : Message) (s : State) (lent : Lent) → Keeps s (read_in o good a s lent).state
read_keeps Read good a s lent = judged_keeps _ s lent _ (λ z. heard_keeps good a s lent.journal)
read_keeps (Unread n) good a s lent = keeps refl refl (λ e. e)

send_keeps : (p : Phase) (s : State) (lent : Lent) → Keeps s (send_from p s lent).state
send_keeps Resting s lent = keeps refl refl (λ e. e)
send_keeps (Waiting w) s lent = keeps refl refl (λ e. e)
send_keeps (Pending v) s lent = keeps refl refl (λ e. e)
send_keeps Settling s lent = keeps refl refl (λ e. e)
send_keeps Uploading s lent = keeps refl refl (λ e. e)

next_keeps : (f : Option ℕ) (s : State) (lent : Lent) → Keeps s (sends_next f s lent).state
next_keeps (Some i) s lent = keeps refl refl (λ e. e)
next_keeps None s lent = keeps refl refl (λ e. e)

upload_keeps : (p : Phase) (s : State) (lent : Lent) → Keeps s (upload_from p s lent).state
upload_keeps Resting s lent = keeps refl refl (λ e. e)
upload_keeps (Waiting w) s lent = keeps refl refl (λ e. e)
upload_keeps (Pending v) s lent = keeps refl refl (λ e. e)
upload_keeps Settling s lent = keeps refl refl (λ e. e)
upload_keeps Uploading s lent = next_keeps (next_due (due Uploading) (entries_of s.entries lent.journal)) s lent

call_keeps : (e : Event) (s : State) (lent : Lent) → is_sign_on e ≡ false → Keeps s (call e s lent).state
unfolding answer no_answer power_returned card_agrees card_declines send_reversal settle send_next_upload
call_keeps sign_on_event s lent n = absurd (true≢false n)
call_keeps (starts d b) s lent n = start_keeps d b s lent
call_keeps (answers b good) s lent n = judged_keeps _ s lent _ (λ z. read_keeps (read_message b).outcome good (read_message b).message s lent)
call_keeps no_answer_event s lent n = judged_keeps _ s lent _ (λ z. unanswered_keeps s lent.journal)
call_keeps power_returned_event s lent n =
    let k = unanswered_keeps s lent.journal in
    judged_keeps _ s lent (without_power (unanswered s lent.journal) lent)
    (λ z. record { settings_are = k.settings_are; sign_on_is = k.sign_on_is; chip_is = k.chip_is })
call_keeps card_agrees_event s lent n = judged_keeps _ s lent _ (λ z. agreed_in_lem s.phase s lent.journal)
call_keeps card_declines_event s lent n = judged_keeps _ s lent _ (λ z. silent_in_lem s.phase s lent.journal)
call_keeps send_reversal_event s lent n = judged_keeps _ s lent _ (λ z. send_keeps s.phase s lent)
call_keeps settles s lent n = judged_keeps _ s lent _ (λ z. keeps refl refl (λ e. e))
call_keeps send_next_upload_event s lent n = judged_keeps _ s lent _ (λ z. upload_keeps s.phase s lent)

-- so does a sign-on that leaves, but that it is awaited
record Steady (s t : State) : Type 0 where
  settings_are : t.settings ≡ s.settings
  chip_is : waiting s.phase ≡ 1 → waiting t.phase ≡ 1 → chip_bytes t.chip ≡ chip_bytes s.chip

asked_steady : (n : ℕ) (s : State) (lent : Lent) (done : Result) → Steady s done.state → Steady s (judged n s lent done).state
unfolding judged
asked_steady n s lent done h = go (eqb n 0)
  where
    go : (b : Bool) → Steady s (cond b done (refused n s lent)).state
    go true = h
    go false = record { settings_are = refl; chip_is = λ a b. refl }

steady : (e : Event) (s : State) (lent : Lent) → Steady s (call e s lent).state
unfolding sign_on
steady e s lent = go (is_sign_on e) refl
  where
    go : (b : Bool) → is_sign_on e ≡ b → Steady s (call e s lent).state
    go false n = let k = call_keeps e s lent n in record { settings_are = k.settings_are; chip_is = k.chip_is }
    go true n = asked e n
      where
        asked : (e : Event) → is_sign_on e ≡ true → Steady s (call e s lent).state
        asked sign_on_event n = asked_steady _ s lent _ (record { settings_are = refl; chip_is = λ a b. refl })
        asked (starts d b) n = absurd (true≢false (sym n))
        asked (answers b good) n = absurd (true≢false (sym n))
        asked no_answer_event n = absurd (true≢false (sym n))
        asked power_returned_event n = absurd (true≢false (sym n))
        asked card_agrees_event n = absurd (true≢false (sym n))
        asked card_declines_event n = absurd (true≢false (sym n))
        asked send_reversal_event n = absurd (true≢false (sym n))
        asked settles n = absurd (true≢false (sym n))
        asked send_next_upload_event n = absurd (true≢false (sym n))

pub settings_stay : SettingsStay
settings_stay e s lent = (steady e s lent).settings_are

pub chip_stays-as_sent : ChipStaysAsSent
chip_stays-as_sent e s lent = (steady e s lent).chip_is

pub only_sign_on-awaited : OnlySignOnAwaited
only_sign_on-awaited e s lent n = (call_keeps e s lent n).sign_on_is

-- a call that sends has passed its rules
sent-passed : (n : ℕ) (s : State) (lent : Lent) (done : Result) (k : ℕ) → (judged n s lent done).outcome ≡ Send k → (n ≡ 0) × (done.outcome ≡ Send k)
unfolding judged
sent-passed n s lent done k = go (eqb n 0) refl
  where
    go : (b : Bool) → eqb n 0 ≡ b → (cond b done (refused n s lent)).outcome ≡ Send k → (n ≡ 0) × (done.outcome ≡ Send k)
    go true e h = (eqb-true n 0 e, h)
    go false e h = absurd (let z : ◌≡◌ {A = ℕ} 0 1 = cc in omega arith)

quiet-sends : {k : ℕ} {A : Type 0} → Quiet ≡ Send k → A
quiet-sends e = absurd (let z : ◌≡◌ {A = ℕ} 0 1 = cc in omega arith)

unread-sends : {n k : ℕ} {A : Type 0} → Refused n ≡ Send k → A
unread-sends e = absurd (let z : ◌≡◌ {A = ℕ} 0 1 = cc in omega arith)

read-sends : (o : Judgement) (good : Bool) (a : Message) (s : State) (lent : Lent) (k : ℕ) → (read_in o good a s lent).outcome ≡ Send k → signs_on s ≡ false
read-sends Read good a s lent k h = quiet-sends (sent-passed _ s lent _ k h).1
read-sends (Unread n) good a s lent k h = unread-sends h

-- rule 11 has passed
unsigned : (s : State) → is_waiting s ≡ false → signs_on s ≡ false
unsigned s h = rw (idle s h).1

pub nothing-leaves_meanwhile : NothingLeavesMeanwhile
unfolding sign_on start answer no_answer power_returned card_agrees card_declines send_reversal settle send_next_upload
nothing-leaves_meanwhile sign_on_event s lent k h =
    let rs = sign_on_rules s lent in
    unsigned s (passed 11 rs refl (sent-passed (first_broken rs) s lent _ k h).0)
nothing-leaves_meanwhile (starts d b) s lent k h =
    let es = entries_of s.entries lent.journal in
    let rs = start_rules d b s es (entry_of (original_of d es) es) lent in
    unsigned s (passed 11 rs refl (sent-passed (first_broken rs) s lent _ k h).0)
nothing-leaves_meanwhile (answers b good) s lent k h =
    read-sends (read_message b).outcome good (read_message b).message s lent k (sent-passed _ s lent _ k h).1
nothing-leaves_meanwhile no_answer_event s lent k h = quiet-sends (sent-passed _ s lent _ k h).1
nothing-leaves_meanwhile power_returned_event s lent k h = quiet-sends (sent-passed _ s lent _ k h).1
nothing-leaves_meanwhile card_agrees_event s lent k h = quiet-sends (sent-passed _ s lent _ k h).1
nothing-leaves_meanwhile card_declines_event s lent k h = quiet-sends (sent-passed _ s lent _ k h).1
nothing-leaves_meanwhile send_reversal_event s lent k h =
    let rs = send_reversal_rules s lent in
    unsigned s (passed 11 rs refl (sent-passed (first_broken rs) s lent (send_from s.phase s lent) k h).0)
nothing-leaves_meanwhile settles s lent k h =
    let rs = settle_rules s lent in
    unsigned s (passed 11 rs refl (sent-passed (first_broken rs) s lent _ k h).0)
nothing-leaves_meanwhile send_next_upload_event s lent k h =
    let rs = send_next_upload_rules s lent in
    unsigned s (passed 11 rs refl (sent-passed (first_broken rs) s lent (upload_from s.phase s lent) k h).0)

-- the message buffer
abbrev same : {r q : Result} → r.outcome ≡ q.outcome → r.state ≡ q.state → r.lent.journal ≡ q.lent.journal → SameButMessage r q
same a b c = record { outcome_is = a; state_is = b; journal_is = c }

module _ (s : State) (j m n : List ℕ) (e : length m ≡ length n) where
  short : too_short s (lend j m) ≡ too_short s (lend j n)
  unfolding too_short
  short = rw e

  judged-same : {k l : ℕ} {x y : Result} → k ≡ l → SameButMessage x y → SameButMessage (judged k s (lend j m) x) (judged l s (lend j n) y)
  unfolding judged
  judged-same {k} {l} {x} {y} q h = rw q (go (eqb l 0))
    where
      go : (b : Bool) → SameButMessage (cond b x (refused l s (lend j m))) (cond b y (refused l s (lend j n)))
      go true = h
      go false = same refl refl refl

  read_same : (o : Judgement) (good : Bool) (a : Message) → SameButMessage (read_in o good a s (lend j m)) (read_in o good a s (lend j n))
  read_same Read good a = judged-same refl (same refl refl refl)
  read_same (Unread k) good a = same refl refl refl

  send_same : (p : Phase) → SameButMessage (send_from p s (lend j m)) (send_from p s (lend j n))
  send_same Resting = same refl refl refl
  send_same (Waiting w) = same refl refl refl
  send_same (Pending v) = same refl refl refl
  send_same Settling = same refl refl refl
  send_same Uploading = same refl refl refl

  next-same : (f : Option ℕ) → SameButMessage (sends_next f s (lend j m)) (sends_next f s (lend j n))
  next-same (Some i) = same refl refl refl
  next-same None = same refl refl refl

  upload-same : (p : Phase) → SameButMessage (upload_from p s (lend j m)) (upload_from p s (lend j n))
  upload-same Resting = same refl refl refl
  upload-same (Waiting w) = same refl refl refl
  upload-same (Pending v) = same refl refl refl
  upload-same Settling = same refl refl refl
  upload-same Uploading = next-same (next_due (due Uploading) (entries_of s.entries j))

pub message_by_length : MessageByLength
unfolding sign_on start answer no_answer power_returned card_agrees card_declines send_reversal settle send_next_upload
message_by_length sign_on_event s j m n e = judged-same s j m n e (rw (short s j m n e)) (same refl refl refl)
message_by_length (starts d b) s j m n e = judged-same s j m n e (rw (short s j m n e)) (same refl refl refl)
message_by_length (answers b good) s j m n e =
    judged-same s j m n e (rw (short s j m n e)) (read_same s j m n e (read_message b).outcome good (read_message b).message)
message_by_length no_answer_event s j m n e = judged-same s j m n e (rw (short s j m n e)) (same refl refl refl)
message_by_length power_returned_event s j m n e = judged-same s j m n e (rw (short s j m n e)) (same refl refl refl)
message_by_length card_agrees_event s j m n e = judged-same s j m n e (rw (short s j m n e)) (same refl refl refl)
message_by_length card_declines_event s j m n e = judged-same s j m n e (rw (short s j m n e)) (same refl refl refl)
message_by_length send_reversal_event s j m n e = judged-same s j m n e (rw (short s j m n e)) (send_same s j m n e s.phase)
message_by_length settles s j m n e = judged-same s j m n e (rw (short s j m n e)) (same refl refl refl)
message_by_length send_next_upload_event s j m n e = judged-same s j m n e (rw (short s j m n e)) (upload-same s j m n e s.phase)
