-- The calls answer, no answer, power returned, card agrees and card declines keep rules 1 and 2.
use mathlib.Core.Path.{◌≡◌, refl}
use mathlib.Core.List.{List}
use mathlib.Core.Bool.{Bool, true, false, cond, and-eq-true_iff, not}
use Prim.Native.Nat.{ℕ}
use borrow.Author.Tests.{not-false}
use Rattle.field.specs.Bitmap.{names}
use Rattle.message.specs.declared.Message.{Message}
use Rattle.reading.specs.Reading.{read_message, ReadOutcome as Judgement, Read, Refused as Unread}
use Rattle.numbers.specs.declared.Trace.{Trace}
use Rattle.numbers.specs.declared.Batch.{Batch}
use Rattle.entry.specs.declared.Entry.{Entry}
use Rattle.journal.specs.Journal.{entries_of}
use Rattle.state.specs.declared.Request.{Request}
use Rattle.state.specs.declared.Reason.TheVariants.{BadMac}
use Rattle.state.specs.declared.Reversal.{Reversal}
use Rattle.state.specs.declared.Awaited.{Awaited}
use Rattle.state.specs.declared.Awaited.TheVariants as awaited
use Rattle.state.specs.declared.Phase.{Phase}
use Rattle.state.specs.declared.Phase.TheVariants.{Resting, Waiting, Pending, Settling, Uploading}
use Rattle.state.specs.declared.Settings.{Settings}
use Rattle.state.specs.declared.State.{State}
use Rattle.state.specs.declared.Count.TheVariants.{Declined, Reversed}
use Rattle.state.specs.State.{has_chip, approved_by, approval_in, in_phase, with_chip, closed, signs_on}
use Rattle.state.specs.Calls.{Lent, with_journal}
use Rattle.checks.proofs.Choices.{passed}
use Rattle.checks.specs.Checks.{first_broken}
use Rattle.rules.specs.Rules.{rules12}
use Rattle.rules.proofs.InOrder.{Fit}
use Rattle.state_rules.specs.StateRules.{request_in_form}
use Rattle.state_rules.proofs.Holds.{MayApprove, consent_holds}
use Rattle.answer_match.specs.Match.{is_answer, is_sign_on_answer, matches_sent, holds_named, indicator_sent, approves, approves_request, approval_holds, good_mac, ends_reversal, closes_batch}
use Rattle.approval.specs.Approval.{approval_of, approved_entry}
use Rattle.effect_definitions.proofs.SignOn.{unanswered_as}
use Rattle.call_definitions.specs.Answer.{no_answer_rules, no_answer, without_power, power_returned, awaits_card, card_rules, card_agrees, card_declines, answers_in, answers_now, answer_rules, answer_in, read_in, answer}
use Rattle.effect_definitions.specs.JournalEffects.{Changed, changed, silent, silent_in, unanswered, approved, granted, on_request, agreed, agreed_in, answered, answered_in, heard}
use Rattle.effect_definitions.specs.StateEffects.{on_sign_on, ended, pending_or_unanswered, silence_of, failed, on_reversal, on_settlement, on_end}
use Rattle.call_theorems.proofs.Refusing.{Fits, judged-fits}
use Rattle.call_theorems.proofs.Phases.{pending_or_unanswered_fit, declined_fit, consent_fit, failed_fit, reversed_fit, settling_fit, uploading_fit, ending_fit, closed_fit, off_fit}
use Rattle.call_theorems.proofs.Items.{silent-item, answered-item}
use Rattle.call_theorems.proofs.Signing.{ended_fit, answered-sign_on}
use Rattle.call_theorems.proofs.Approvals.{approval-read}
use Rattle.call_theorems.proofs.Approving.{approved_fit}

-- rules 1 and 2 pass after a change
abbrev FitsAfter : Changed → Lent → Type 0
FitsAfter c lent = Fit c.state (with_journal c.journal lent)

-- what is awaited is silent
silent-fits : (a : Awaited) (s : State) (lent : Lent) → Fit (in_phase (Waiting a) s) lent → FitsAfter (silent a s lent.journal) lent
unfolding silent
silent-fits (awaited.Request q) s lent h = pending_or_unanswered_fit s lent (silence_of s) q h
silent-fits (awaited.Reversal v) s lent h = failed_fit s lent v h
silent-fits (awaited.Settlement x) s lent h = settling_fit s lent x h
silent-fits (awaited.Item i) s lent h = silent-item s lent i h
silent-fits (awaited.End x) s lent h = ending_fit s lent x h

silent_in_lem : (p : Phase) (s : State) (lent : Lent) → Fit (in_phase p s) lent → FitsAfter (silent_in p (in_phase p s) lent.journal) lent
silent_in_lem Resting s lent h = h
silent_in_lem (Waiting a) s lent h = silent-fits a (in_phase (Waiting a) s) lent h
silent_in_lem (Pending v) s lent h = h
silent_in_lem Settling s lent h = h
silent_in_lem Uploading s lent h = h

unanswered-fits : (s : State) (lent : Lent) → Fit s lent → FitsAfter (unanswered s lent.journal) lent
unanswered-fits s lent h = unanswered_as (λ c. FitsAfter c lent) s lent.journal (λ e. ended_fit s lent h) (λ e. silent_in_lem s.phase s lent h)

pub no_answer-fits : (s : State) (lent : Lent) → Fit s lent → Fits (no_answer s lent)
unfolding no_answer
no_answer-fits s lent h = judged-fits (first_broken (no_answer_rules s lent)) s lent _ h (λ z. unanswered-fits s lent h)

pub power_returned-fits : (s : State) (lent : Lent) → Fit s lent → Fits (power_returned s lent)
unfolding power_returned
power_returned-fits s lent h =
    let c = unanswered s lent.journal in
    judged-fits (first_broken (rules12 s lent)) s lent (without_power c lent) h
    (λ z. off_fit c.state (with_journal c.journal lent) (unanswered-fits s lent h))

pub card_declines-fits : (s : State) (lent : Lent) → Fit s lent → Fits (card_declines s lent)
unfolding card_declines
card_declines-fits s lent h = judged-fits (first_broken (card_rules s lent)) s lent _ h (λ z. silent_in_lem s.phase s lent h)

-- the card agrees: the approval that its word was awaited for is in form
module _ (s : State) (lent : Lent) (y : awaits_card s ≡ true) where
  agreed-fits : (w : Awaited) → Fit (in_phase (Waiting w) s) lent → FitsAfter (agreed w (in_phase (Waiting w) s) lent.journal) lent
  unfolding agreed
  agreed-fits (awaited.Request q) h =
      approved_fit q (approval_in s.chip) (in_phase (Waiting (awaited.Request q)) s) lent h
      (consent_holds (Waiting (awaited.Request q)) s.chip h.order.state.chip y).may
  agreed-fits (awaited.Reversal v) h = h
  agreed-fits (awaited.Settlement x) h = h
  agreed-fits (awaited.Item i) h = h
  agreed-fits (awaited.End x) h = h

  agreed_in_lem : (p : Phase) → Fit (in_phase p s) lent → FitsAfter (agreed_in p (in_phase p s) lent.journal) lent
  agreed_in_lem Resting h = h
  agreed_in_lem (Waiting w) h = agreed-fits w h
  agreed_in_lem (Pending v) h = h
  agreed_in_lem Settling h = h
  agreed_in_lem Uploading h = h

pub card_agrees-fits : (s : State) (lent : Lent) → Fit s lent → Fits (card_agrees s lent)
unfolding card_agrees
card_agrees-fits s lent h =
    let rs = card_rules s lent in
    judged-fits (first_broken rs) s lent _ h
    (λ z. agreed_in_lem s lent (not-false (awaits_card s) (passed 14 rs refl z)) s.phase h)

-- what a message says where it approves a request is in form; a message that was read is such
abbrev Approves : Message → Type 0
Approves a = (q : Request) → request_in_form q ≡ true → approval_holds q.kind q.amount a ≡ true → approves_request q.kind a ≡ true
    → MayApprove q (approval_of a)

-- an answer to what is awaited
module _ (a : Message) (good : Bool) (says : Approves a) (s : State) (lent : Lent) where
  -- a good approval: an entry, or the wait for the card's word
  granted-fits : (q : Request) → s.phase ≡ Waiting (awaited.Request q) → Fit (in_phase (Waiting (awaited.Request q)) s) lent
      → MayApprove q (approval_of a) → FitsAfter (granted a q s lent.journal) lent
  unfolding granted
  granted-fits q p h w = go (has_chip s.chip) refl
    where
      go : (b : Bool) → has_chip s.chip ≡ b
          → FitsAfter (cond b (changed (with_chip (approved_by (approval_of a) s.chip) s) lent.journal)
          (approved q (approved_entry q (approval_of a)) s lent.journal)) lent
      go true c = rw p (consent_fit s lent q (approval_of a) h c w)
      go false c = approved_fit q (approval_of a) s lent h w

  request-fits : (q : Request) → s.phase ≡ Waiting (awaited.Request q) → Fit (in_phase (Waiting (awaited.Request q)) s) lent
      → approval_holds q.kind q.amount a ≡ true → FitsAfter (on_request good a q s lent.journal) lent
  unfolding on_request
  request-fits q p h n = go (approves_request q.kind a) (good_mac good a) refl
    where
      go : (x y : Bool) → approves_request q.kind a ≡ x
          → FitsAfter (cond x (cond y (granted a q s lent.journal) (changed (pending_or_unanswered BadMac q s) lent.journal))
          (changed (ended Declined s) lent.journal)) lent
      go true true e = granted-fits q p h (says q h.order.state.phase_form n e)
      go true false e = pending_or_unanswered_fit s lent BadMac q h
      go false y e = declined_fit s lent q h

  reversal-fits : (v : Reversal) → Fit (in_phase (Waiting (awaited.Reversal v)) s) lent → Fit (on_reversal good a v s) lent
  unfolding on_reversal
  reversal-fits v h = go (ends_reversal good a)
    where
      go : (x : Bool) → Fit (cond x (ended Reversed s) (failed v s)) lent
      go true = reversed_fit s lent v h
      go false = failed_fit s lent v h

  settlement_fits : (x : Trace) → Fit (in_phase (Waiting (awaited.Settlement x)) s) lent → Fit (on_settlement a s) lent
  unfolding on_settlement
  settlement_fits x h = go (closes_batch a)
    where
      go : (y : Bool) → Fit (cond y (closed s) (in_phase Uploading s)) lent
      go true = closed_fit (in_phase (Waiting (awaited.Settlement x)) s) lent refl refl refl h
      go false = uploading_fit s lent x h

  end_fits : (x : Trace) → Fit (in_phase (Waiting (awaited.End x)) s) lent → Fit (on_end a s) lent
  unfolding on_end
  end_fits x h = go (approves a)
    where
      go : (y : Bool) → Fit (cond y (closed s) (in_phase Uploading s)) lent
      go true = closed_fit (in_phase (Waiting (awaited.End x)) s) lent refl refl refl h
      go false = ending_fit s lent x h

  answered-fits : (w : Awaited) → s.phase ≡ Waiting w → Fit (in_phase (Waiting w) s) lent → holds_named w a ≡ true
      → FitsAfter (answered good a w s lent.journal) lent
  unfolding answered
  answered-fits (awaited.Request q) p h n =
      request-fits q p h ((and-eq-true_iff (names a.bitmap 39) (approval_holds q.kind q.amount a)).0 n).1
  answered-fits (awaited.Reversal v) p h n = reversal-fits v h
  answered-fits (awaited.Settlement x) p h n = settlement_fits x h
  answered-fits (awaited.Item i) p h n = answered-item s lent i h a
  answered-fits (awaited.End x) p h n = end_fits x h

is_held : (x : Settings) (batch : Batch) (trace : Trace) (w : Awaited) (a : Message) → is_answer x batch trace w a ≡ true
    → holds_named w a ≡ true
unfolding is_answer
is_held x batch trace w a h = ((and-eq-true_iff (matches_sent x batch (indicator_sent w) trace a) (holds_named w a)).0 h).1

-- what an answer leaves, in each phase
answered_in_lem : (p : Phase) (a : Message) (good : Bool) → Approves a → (s : State) (lent : Lent) → Fit (in_phase p s) lent
    → not (answers_in p (entries_of s.entries lent.journal) (in_phase p s) a) ≡ false → FitsAfter (answered_in p good a (in_phase p s) lent.journal) lent
answered_in_lem Resting a good n s lent h e = h
answered_in_lem (Waiting w) a good n s lent h e =
    answered-fits a good n (in_phase (Waiting w) s) lent w refl h (is_held s.settings s.batch _ w a (not-false _ e))
answered_in_lem (Pending v) a good n s lent h e = h
answered_in_lem Settling a good n s lent h e = h
answered_in_lem Uploading a good n s lent h e = h

-- what an answer leaves of what is awaited, be it a sign-on
heard-fits : (a : Message) (good : Bool) → Approves a → (s : State) (lent : Lent) → Fit s lent
    → not (answers_now (entries_of s.entries lent.journal) s a) ≡ false → FitsAfter (heard good a s lent.journal) lent
unfolding heard
heard-fits a good n s lent h e = go (signs_on s) e
  where
    es : List Entry
    es = entries_of s.entries lent.journal

    go : (b : Bool) → not (cond b (is_sign_on_answer s.settings s.sign_on a) (answers_in s.phase es s a)) ≡ false
        → FitsAfter (cond b (changed (on_sign_on a s) lent.journal) (answered_in s.phase good a s lent.journal)) lent
    go true e = answered-sign_on a s lent h (not-false _ e)
    go false e = answered_in_lem s.phase a good n s lent h e

answer_in_lem : (a : Message) (good : Bool) → Approves a → (s : State) (lent : Lent) → Fit s lent → Fits (answer_in good a s lent)
answer_in_lem a good n s lent h =
    let rs = answer_rules a s lent.journal in
    judged-fits (first_broken rs) s lent _ h (λ z. heard-fits a good n s lent h (passed 22 rs refl z))

read_in_lem : (o : Judgement) (a : Message) (good : Bool) → (o ≡ Read → Approves a) → (s : State) (lent : Lent) → Fit s lent
    → Fits (read_in o good a s lent)
read_in_lem Read a good n s lent h = answer_in_lem a good (n refl) s lent h
read_in_lem (Unread k) a good n s lent h = h

pub answer-fits : (b : List ℕ) (good : Bool) (s : State) (lent : Lent) → Fit s lent → Fits (answer b good s lent)
unfolding answer
answer-fits b good s lent h =
    judged-fits (first_broken (rules12 s lent)) s lent (read_in (read_message b).outcome good (read_message b).message s lent) h
    (λ z. read_in_lem (read_message b).outcome (read_message b).message good (approval-read b) s lent h)
