-- Sign on, answer, no answer, power returned and the card's word keep the invariant; so does every call.
use mathlib.Core.Path.{◌≡◌, refl, sym, ◌∙◌}
use mathlib.Core.List.{List}
use mathlib.Core.Bool.{Bool, true, false, cond, true≢false, not, ◌||◌}
use Prim.Native.Nat.{ℕ}
use Rattle.message.specs.declared.Message.{Message}
use Rattle.reading.specs.Reading.{read_message, ReadOutcome as Judgement, Read, Refused as Unread}
use Rattle.numbers.specs.declared.Batch.{Batch}
use Rattle.numbers.specs.declared.Trace.{Trace}
use Rattle.journal.specs.Journal.{entries_of, taken}
use Rattle.writing.specs.Writing.{message_bytes}
use Rattle.answer_match.specs.Match.{approves, batch_in}
use Rattle.batch_messages.specs.BatchMessages.{sign_on_message}
use Rattle.state.specs.declared.Awaited.{Awaited}
use Rattle.state.specs.declared.Awaited.TheVariants as awaited
use Rattle.state.specs.declared.Chip.{Chip}
use Rattle.state.specs.declared.Phase.{Phase}
use Rattle.state.specs.declared.Phase.TheVariants.{Resting, Waiting, Pending, Settling, Uploading}
use Rattle.state.specs.declared.Settings.{Settings}
use Rattle.state.specs.declared.State.{State}
use lib.Dec.{eqb}
use borrow.Author.Tests.{not-false, eqb-true}
use Rattle.state.specs.State.{approval_in, in_phase, signed, waits, signs_on}
use Rattle.state_rules.specs.StateRules.{awaits_request, request_awaited}
use Rattle.state_rules.proofs.Holds.{ChipHolds, consent_holds, none_over_wait}
use Rattle.checks.specs.Checks.{first_broken}
use Rattle.state.specs.declared.Outcome.{Outcome}
use Rattle.state.specs.declared.Outcome.TheVariants.{Send, Quiet, Refused}
use Rattle.state.specs.Calls.{Lent, refused, judged}
use Rattle.checks.proofs.Choices.{passed}
use Rattle.rules.specs.Rules.{rules12}
use Rattle.rules.proofs.InOrder.{Fit, fit}
use Rattle.call_definitions.specs.SignOn.{sign_on_rules, sign_on_now, sign_on}
use Rattle.effect_definitions.specs.StateEffects.{adopts, sign_on_ended, on, on_sign_on}
use Rattle.call_definitions.specs.Answer.{quietly, no_answer_rules, no_answer, without_power, power_returned, card_rules, card_agrees, card_declines, answers_in, answer_rules, answer_in, read_in, answer}
use Rattle.effect_definitions.specs.JournalEffects.{silent_in, unanswered, agreed, agreed_in, answered_in, heard}
use Rattle.call_definitions.specs.Events.{Event, sign_on_event, starts, answers, no_answer_event, power_returned_event, card_agrees_event, card_declines_event, send_reversal_event, settles, send_next_upload_event, call}
use Rattle.call_definitions.specs.Shapes.{EventShaped}
use Rattle.call_theorems.specs.Facts.{is_sign_on}
use Rattle.call_theorems.proofs.Steady.{only_sign_on-awaited, nothing-leaves_meanwhile}
use Rattle.history.specs.Words.{message_in}
use Rattle.history.specs.Demand.{given_by}
use Rattle.history.proofs.Matching.{sign_on-closes}
use Rattle.history.specs.History.{consenting, Account, by_fate, when_silent, when_heard, when_agreed, when_declined, after_answer, when_given}
use Rattle.effect_definitions.proofs.SignOn.{unanswered_as, heard_as}
use Rattle.call_definitions.proofs.Quietly.{idle as resting, plainly}
use Rattle.history.proofs.Said.{handed_out}
use Rattle.history.proofs.Sent.{SignsOn, sign_on-typed, sign_on-says}
use Rattle.history.proofs.Requests.{silent-ended, heard-ended, agreed-ended, declined-ended, silent-same, heard-same}
use Rattle.history.proofs.Tied.{account_of, NeverCloses, latest-changed, fate-of, AwaitedShape, Shape, Tied}
use Rattle.history.proofs.Silence.{TiedAfter, after_silence, silent-tied}
use Rattle.history.proofs.Answered.{not_closed, approved-tied, answered-tied}
use Rattle.history.proofs.After.{After, refused-after, judged-after, no, sent-sign_on, sign_on-alone}
use Rattle.call_definitions.proofs.Quietly.{fit_first}
use Rattle.history.proofs.Starts.{start_after, reverse-after}
use Rattle.history.proofs.Settles.{settings-held, settle-after, upload-after}

-- signed on: the batch number matters to what is awaited only
other_batch : (p : Phase) (l : ℕ) (x : Settings) (b c : Batch) (k : Chip) (a : Account) → waits p ≡ false → Shape l x b k p a → Shape l x c k p a
other_batch Resting l x b c k a w h = h
other_batch (Waiting v) l x b c k a w h = absurd (true≢false w)
other_batch (Pending v) l x b c k a w h = h
other_batch Settling l x b c k a w h = h
other_batch Uploading l x b c k a w h = h

-- nothing is awaited: the last message sent does not matter
other_last : (p : Phase) (l : ℕ) (x : Settings) (b : Batch) (k : Chip) (a : Account) (m : Message) → waits p ≡ false → Shape l x b k p a
    → Shape l x b k p (account_of a.requests m)
other_last Resting l x b k a m w h = h
other_last (Waiting v) l x b k a m w h = absurd (true≢false w)
other_last (Pending v) l x b k a m w h =
    record {
      head = h.head;
      rest = h.rest;
      requests_are = h.requests_are;
      fate_is = h.fate_is;
      sendings_are = h.sendings_are;
      few = h.few;
      done = h.done;
    }
other_last Settling l x b k a m w h = h
other_last Uploading l x b k a m w h = h

-- what leaves is a sign-on
pub sign_on_sent : (l : ℕ) (s : State) (lent : Lent) (a : Account) → Tied l s a → Fit s lent → (trace : Trace)
    → SignsOn (message_in (handed_out (message_bytes (sign_on_message s.settings s.batch trace)) lent.message))
sign_on_sent l s lent a h f trace =
    sign_on-typed _
    (sign_on-says s.settings s.batch lent.message f.message_room f.order.state.batch_most trace (settings-held l s lent a h f)).indicator

-- sign on: it is no card request, and changes none
sign_on-after : (l : ℕ) (s : State) (lent : Lent) (a : Account) → Tied l s a → After l sign_on_event a (sign_on s lent)
unfolding sign_on
sign_on-after l s lent a h =
    let rs = sign_on_rules s lent in
    let trace : Trace = record { 0 = taken (entries_of s.entries lent.journal) s.next.0 } in
    let b = handed_out (message_bytes (sign_on_message s.settings s.batch trace)) lent.message in
    judged-after l sign_on_event a (first_broken rs) s lent _ h
    (λ z.
    let f = fit_first s lent _ _ refl z in
    let t = sign_on_sent l s lent a h f trace in
    record {
      tied =
          rw (sent-sign_on sign_on_event (message_in b) a.requests t)
          (record {
            kept = h.kept;
            shape = other_last s.phase l s.settings s.batch s.chip a (message_in b) (resting s (passed 11 rs refl z)).0 h.shape;
          });
      lawful =
          record {
            settlements = no t.is_settlement;
            no_request = no t.is_request;
            no_settlement = no t.is_settlement;
            reversals = no t.is_reversal;
            no_consent = no t.is_request;
            no_consent_settling = no t.is_settlement;
            alone = sign_on-alone (message_in b) t.is_sign_on;
          };
    })

-- silence: where nothing is awaited, no request changes
silent_in_lem : (p : Phase) (l : ℕ) (s : State) (j : List ℕ) (a : Account) → ChipHolds p s.chip → Tied l (in_phase p s) a
    → TiedAfter l (silent_in p (in_phase p s) j) (after_silence l a)
unfolding when_silent
silent_in_lem Resting l s j a k h = rw (silent-same l l a.requests h.shape) h
silent_in_lem (Waiting w) l s j a k h = silent-tied w l (in_phase (Waiting w) s) j a k h
silent_in_lem (Pending v) l s j a k h =
    let d = h.shape in
    let e : by_fate (when_silent l) a.requests ≡ a.requests = latest-changed d (when_silent l) (silent-ended l) ∙ sym d.requests_are in
    rw e h
silent_in_lem Settling l s j a k h = rw (silent-same l l a.requests h.shape) h
silent_in_lem Uploading l s j a k h = rw (silent-same l l a.requests h.shape) h

-- the chip of a terminal that rules 1 and 2 let pass
chip-fits : (s : State) (lent : Lent) → Fit s lent → ChipHolds s.phase s.chip
chip-fits s lent f = f.order.state.chip

-- where nothing is awaited in the phase, silence and a heard message leave the requests
silent_idle : (p : Phase) (l : ℕ) (x : Settings) (b : Batch) (k : Chip) (a : Account) → waits p ≡ false → Shape l x b k p a
    → by_fate (when_silent l) a.requests ≡ a.requests
unfolding when_silent
silent_idle Resting l x b k a w h = silent-same l l a.requests h
silent_idle (Waiting v) l x b k a w h = absurd (true≢false w)
silent_idle (Pending v) l x b k a w h = latest-changed h (when_silent l) (silent-ended l) ∙ sym h.requests_are
silent_idle Settling l x b k a w h = silent-same l l a.requests h
silent_idle Uploading l x b k a w h = silent-same l l a.requests h

heard_idle : (p : Phase) (l : ℕ) (good : Bool) (m : List ℕ) (x : Settings) (b : Batch) (k : Chip) (a : Account) → waits p ≡ false → Shape l x b k p a
    → by_fate (when_heard l good m) a.requests ≡ a.requests
unfolding when_heard
heard_idle Resting l good m x b k a w h = heard-same l good m l a.requests h
heard_idle (Waiting v) l good m x b k a w h = absurd (true≢false w)
heard_idle (Pending v) l good m x b k a w h = latest-changed h (when_heard l good m) (heard-ended l good m) ∙ sym h.requests_are
heard_idle Settling l good m x b k a w h = heard-same l good m l a.requests h
heard_idle Uploading l good m x b k a w h = heard-same l good m l a.requests h

-- over a sign-on that is awaited the phase is no wait
pub under_sign_on : (s : State) (lent : Lent) → Fit s lent → signs_on s ≡ true → waits s.phase ≡ false
under_sign_on s lent f e = go (waits s.phase) refl
  where
    go : (b : Bool) → waits s.phase ≡ b → b ≡ false
    go true w =
        let z = none_over_wait s.phase s.sign_on w f.order.state.sign_on in
        absurd (true≢false (sym e ∙ rw z))
    go false w = refl

-- what is awaited is silent, be it a sign-on
unanswered-tied : (l : ℕ) (s : State) (lent : Lent) (a : Account) → Fit s lent → Tied l s a
    → TiedAfter l (unanswered s lent.journal) (after_silence l a)
unanswered-tied l s lent a f h =
    unanswered_as (λ c. TiedAfter l c (after_silence l a)) s lent.journal
    (λ e.
    rw (silent_idle s.phase l s.settings s.batch s.chip a (under_sign_on s lent f e) h.shape)
    (record { kept = h.kept; shape = h.shape }))
    (λ e. silent_in_lem s.phase l s lent.journal a (chip-fits s lent f) h)

-- no answer
silence_after : (l : ℕ) (s : State) (lent : Lent) (a : Account) → Tied l s a → After l no_answer_event a (no_answer s lent)
unfolding no_answer
silence_after l s lent a h =
    judged-after l no_answer_event a (first_broken (no_answer_rules s lent)) s lent (quietly (unanswered s lent.journal) lent) h
    (λ z. record { tied = unanswered-tied l s lent a (fit_first s lent _ _ refl z) h; lawful = tt })

-- power returned
off_tied : (l : ℕ) (s : State) (a : Account) → Tied l s a → Tied l (signed false s) a
off_tied l s a h = record { kept = h.kept; shape = h.shape }

power_after : (l : ℕ) (s : State) (lent : Lent) (a : Account) → Tied l s a → After l power_returned_event a (power_returned s lent)
unfolding power_returned
power_after l s lent a h =
    let c = unanswered s lent.journal in
    judged-after l power_returned_event a (first_broken (rules12 s lent)) s lent (without_power c lent) h
    (λ z.
    record {
      tied = off_tied l c.state (after_silence l a) (unanswered-tied l s lent a (fit s lent z) h);
      lawful = tt;
    })

-- the account after the card's consent
abbrev after_consent : Account → Account
after_consent a = account_of (by_fate when_agreed a.requests) a.last

agreed-awaited : (w : Awaited) (l : ℕ) (s : State) (j : List ℕ) (a : Account)
    → Tied l (in_phase (Waiting w) s) a → s.chip.approved ≡ true → awaits_request w ≡ true
    → TiedAfter l (agreed w s j) (after_consent a)
unfolding agreed when_agreed
agreed-awaited (awaited.Request q) l s j a h e r =
    let d = fate-of l s.settings s.batch s.chip q a true e h.shape in
    rw (latest-changed d.latest when_agreed agreed-ended)
    (approved-tied l s j a q h.kept consenting refl d (approval_in s.chip) _ (d.approved_for e))
agreed-awaited (awaited.Reversal v) l s j a h e r = absurd (true≢false (sym r))
agreed-awaited (awaited.Settlement x) l s j a h e r = absurd (true≢false (sym r))
agreed-awaited (awaited.Item i) l s j a h e r = absurd (true≢false (sym r))
agreed-awaited (awaited.End x) l s j a h e r = absurd (true≢false (sym r))

agreed_in_lem : (p : Phase) (l : ℕ) (s : State) (j : List ℕ) (a : Account) → Tied l (in_phase p s) a
    → s.chip.approved ≡ true → request_awaited p ≡ true → TiedAfter l (agreed_in p (in_phase p s) j) (after_consent a)
agreed_in_lem Resting l s j a h e r = absurd (true≢false (sym r))
agreed_in_lem (Waiting w) l s j a h e r = agreed-awaited w l (in_phase (Waiting w) s) j a h e r
agreed_in_lem (Pending v) l s j a h e r = absurd (true≢false (sym r))
agreed_in_lem Settling l s j a h e r = absurd (true≢false (sym r))
agreed_in_lem Uploading l s j a h e r = absurd (true≢false (sym r))

agrees_after : (l : ℕ) (s : State) (lent : Lent) (a : Account) → Tied l s a → After l card_agrees_event a (card_agrees s lent)
unfolding card_agrees
agrees_after l s lent a h =
    let rs = card_rules s lent in
    judged-after l card_agrees_event a (first_broken rs) s lent (quietly (agreed_in s.phase s lent.journal) lent) h
    (λ z.
    let f = fit_first s lent _ _ refl z in
    let e : s.chip.approved ≡ true = not-false _ (passed 14 rs refl z) in
    record {
      tied = agreed_in_lem s.phase l s lent.journal a h e (consent_holds s.phase s.chip (chip-fits s lent f) e).request;
      lawful = tt;
    })

-- a card that declines: as one that is silent
declined-awaited : (w : Awaited) (l : ℕ) (x : Settings) (batch : Batch) (c : Chip) (a : Account) → AwaitedShape l x batch c w a
    → c.approved ≡ true → awaits_request w ≡ true → by_fate when_declined a.requests ≡ by_fate (when_silent l) a.requests
unfolding when_declined when_silent
declined-awaited (awaited.Request q) l x batch c a h e r =
    let d = fate-of l x batch c q a true e h in
    latest-changed d.latest when_declined declined-ended ∙ sym (latest-changed d.latest (when_silent l) (silent-ended l))
declined-awaited (awaited.Reversal v) l x batch c a h e r = absurd (true≢false (sym r))
declined-awaited (awaited.Settlement t) l x batch c a h e r = absurd (true≢false (sym r))
declined-awaited (awaited.Item i) l x batch c a h e r = absurd (true≢false (sym r))
declined-awaited (awaited.End t) l x batch c a h e r = absurd (true≢false (sym r))

declined_in : (p : Phase) (l : ℕ) (x : Settings) (batch : Batch) (c : Chip) (a : Account) → Shape l x batch c p a → c.approved ≡ true
    → request_awaited p ≡ true → by_fate when_declined a.requests ≡ by_fate (when_silent l) a.requests
declined_in Resting l x batch c a h e r = absurd (true≢false (sym r))
declined_in (Waiting w) l x batch c a h e r = declined-awaited w l x batch c a h e r
declined_in (Pending v) l x batch c a h e r = absurd (true≢false (sym r))
declined_in Settling l x batch c a h e r = absurd (true≢false (sym r))
declined_in Uploading l x batch c a h e r = absurd (true≢false (sym r))

declines_after : (l : ℕ) (s : State) (lent : Lent) (a : Account) → Tied l s a → After l card_declines_event a (card_declines s lent)
unfolding card_declines
declines_after l s lent a h =
    let rs = card_rules s lent in
    judged-after l card_declines_event a (first_broken rs) s lent (quietly (silent_in s.phase s lent.journal) lent) h
    (λ z.
    let f = fit_first s lent _ _ refl z in
    let k = chip-fits s lent f in
    let e : s.chip.approved ≡ true = not-false _ (passed 14 rs refl z) in
    record {
      tied =
          rw (declined_in s.phase l s.settings s.batch s.chip a h.shape e (consent_holds s.phase s.chip k e).request)
          (silent_in_lem s.phase l s lent.journal a k h);
      lawful = tt;
    })

-- an answer to what is awaited; rule 14 lets no other phase pass, nor the wait for the card
answered_in_lem : (p : Phase) (l : ℕ) (b : List ℕ) (good : Bool) (s : State) (lent : Lent) (a : Account) → (read_message b).outcome ≡ Read
    → Fit (in_phase p s) lent → Tied l (in_phase p s) a → (not (waits p) || s.chip.approved) ≡ false
    → answers_in p (entries_of s.entries lent.journal) (in_phase p s) (message_in b) ≡ true
    → After l (answers b good) a (quietly (answered_in p good (message_in b) (in_phase p s) lent.journal) lent)
answered_in_lem Resting l b good s lent a r f h w e = absurd (true≢false w)
answered_in_lem (Waiting x) l b good s lent a r f h w e =
    record { tied = answered-tied x l good b r (in_phase (Waiting x) s) lent.journal a h refl w e; lawful = tt }
answered_in_lem (Pending v) l b good s lent a r f h w e = absurd (true≢false w)
answered_in_lem Settling l b good s lent a r f h w e = absurd (true≢false w)
answered_in_lem Uploading l b good s lent a r f h w e = absurd (true≢false w)

-- a sign-on was sent last, while its answer is awaited
abbrev pub Signing : State → Account → Type 0
Signing s a = signs_on s ≡ true → NeverCloses a.last

-- the answer to a sign-on: the batch number may change, and no request does
sign_on-answered : (l : ℕ) (b : List ℕ) (good : Bool) (s : State) (lent : Lent) (a : Account) → Fit s lent → Tied l s a → Signing s a
    → signs_on s ≡ true → Tied l (on_sign_on (message_in b) s) (account_of (after_answer l good b a) a.last)
unfolding on_sign_on
sign_on-answered l b good s lent a f h g e =
    let w = under_sign_on s lent f e in
    rw (not_closed l good b a (g e), heard_idle s.phase l good b s.settings s.batch s.chip a w h.shape)
    (go w (approves (message_in b)))
  where
    go : waits s.phase ≡ false → (t : Bool)
        → Tied l (cond t (on (cond (adopts s) (batch_in (message_in b)) s.batch) (sign_on_ended s)) (sign_on_ended s)) a
    go w true =
        record {
          kept = h.kept;
          shape = other_batch s.phase l s.settings s.batch (cond (adopts s) (batch_in (message_in b)) s.batch) s.chip a w h.shape;
        }
    go w false = record { kept = h.kept; shape = h.shape }

heard-after : (l : ℕ) (b : List ℕ) (good : Bool) (s : State) (lent : Lent) (a : Account) → (read_message b).outcome ≡ Read
    → Fit s lent → Tied l s a → Signing s a → first_broken (answer_rules (message_in b) s lent.journal) ≡ 0
    → After l (answers b good) a (quietly (heard good (message_in b) s lent.journal) lent)
heard-after l b good s lent a r f h g z =
    heard_as (λ c. After l (answers b good) a (quietly c lent)) good (message_in b) s lent.journal
    (λ e. record { tied = sign_on-answered l b good s lent a f h g e; lawful = tt })
    (λ e. let p = plainly (message_in b) s lent.journal z e in answered_in_lem s.phase l b good s lent a r f h p.0 p.1)

answer_in_lem : (l : ℕ) (b : List ℕ) (good : Bool) (s : State) (lent : Lent) (a : Account) → (read_message b).outcome ≡ Read
    → Fit s lent → Tied l s a → Signing s a → After l (answers b good) a (answer_in good (message_in b) s lent)
answer_in_lem l b good s lent a r f h g =
    let rs = answer_rules (message_in b) s lent.journal in
    judged-after l (answers b good) a (first_broken rs) s lent (quietly (heard good (message_in b) s lent.journal) lent) h
    (λ z. heard-after l b good s lent a r f h g z)

read_in_lem : (o : Judgement) (l : ℕ) (b : List ℕ) (good : Bool) (s : State) (lent : Lent) (a : Account) → (read_message b).outcome ≡ o
    → Fit s lent → Tied l s a → Signing s a → After l (answers b good) a (read_in o good (message_in b) s lent)
read_in_lem Read l b good s lent a r f h g = answer_in_lem l b good s lent a r f h g
read_in_lem (Unread n) l b good s lent a r f h g = refused-after l (answers b good) a n s lent h

answer-after : (l : ℕ) (b : List ℕ) (good : Bool) (s : State) (lent : Lent) (a : Account) → Tied l s a → Signing s a
    → After l (answers b good) a (answer b good s lent)
unfolding answer
answer-after l b good s lent a h g =
    judged-after l (answers b good) a (first_broken (rules12 s lent)) s lent
    (read_in (read_message b).outcome good (read_message b).message s lent) h
    (λ z. read_in_lem (read_message b).outcome l b good s lent a refl (fit s lent z) h g)

sign_on-signing : (l : ℕ) (s : State) (lent : Lent) (a : Account) → Tied l s a → Signing s a
    → (let r = sign_on s lent in Signing r.state (when_given l (given_by r.outcome r.lent.message) sign_on_event a))
unfolding sign_on judged
sign_on-signing l s lent a h g = go (eqb (first_broken (sign_on_rules s lent)) 0) refl
  where
    trace : Trace
    trace = record { 0 = taken (entries_of s.entries lent.journal) s.next.0 }

    go : (b : Bool) → eqb (first_broken (sign_on_rules s lent)) 0 ≡ b
        → (let r = cond b (sign_on_now s trace lent) (refused (first_broken (sign_on_rules s lent)) s lent)
        in Signing r.state (when_given l (given_by r.outcome r.lent.message) sign_on_event a))
    go true e y = sign_on-closes (sign_on_sent l s lent a h (fit_first s lent _ _ refl (eqb-true _ 0 e)) trace)
    go false e y = g y

-- any call
pub call-after : (e : Event) (l : ℕ) (s : State) (lent : Lent) (a : Account) → EventShaped e → Tied l s a → Signing s a → After l e a (call e s lent)
call-after sign_on_event l s lent a w h g = sign_on-after l s lent a h
call-after (starts d b) l s lent a w h g = start_after l d b s lent a h w.0 w.1
call-after (answers b good) l s lent a w h g = answer-after l b good s lent a h g
call-after no_answer_event l s lent a w h g = silence_after l s lent a h
call-after power_returned_event l s lent a w h g = power_after l s lent a h
call-after card_agrees_event l s lent a w h g = agrees_after l s lent a h
call-after card_declines_event l s lent a w h g = declines_after l s lent a h
call-after send_reversal_event l s lent a w h g = reverse-after l s lent a h
call-after settles l s lent a w h g = settle-after l s lent a h
call-after send_next_upload_event l s lent a w h g = upload-after l s lent a h

-- a sign-on is awaited only where it was sent last
pub signing-after : (e : Event) (l : ℕ) (s : State) (lent : Lent) (a : Account) → Tied l s a → Signing s a
    → (let r = call e s lent in Signing r.state (when_given l (given_by r.outcome r.lent.message) e a))
signing-after e l s lent a h g = go (is_sign_on e) refl
  where
    others : (o : Outcome) → (call e s lent).outcome ≡ o → is_sign_on e ≡ false
        → signs_on (call e s lent).state ≡ true → NeverCloses (when_given l (given_by o (call e s lent).lent.message) e a).last
    others (Send k) q n y = absurd (true≢false (sym (only_sign_on-awaited e s lent n y) ∙ nothing-leaves_meanwhile e s lent k q))
    others Quiet q n y = g (only_sign_on-awaited e s lent n y)
    others (Refused k) q n y = g (only_sign_on-awaited e s lent n y)

    go : (b : Bool) → is_sign_on e ≡ b
        → (let r = call e s lent in Signing r.state (when_given l (given_by r.outcome r.lent.message) e a))
    go false n = others (call e s lent).outcome refl n
    go true n = asked e n
      where
        asked : (e : Event) → is_sign_on e ≡ true
            → (let r = call e s lent in Signing r.state (when_given l (given_by r.outcome r.lent.message) e a))
        asked sign_on_event n = sign_on-signing l s lent a h g
        asked (starts d b) n = absurd (true≢false (sym n))
        asked (answers b good) n = absurd (true≢false (sym n))
        asked no_answer_event n = absurd (true≢false (sym n))
        asked power_returned_event n = absurd (true≢false (sym n))
        asked card_agrees_event n = absurd (true≢false (sym n))
        asked card_declines_event n = absurd (true≢false (sym n))
        asked send_reversal_event n = absurd (true≢false (sym n))
        asked settles n = absurd (true≢false (sym n))
        asked send_next_upload_event n = absurd (true≢false (sym n))
