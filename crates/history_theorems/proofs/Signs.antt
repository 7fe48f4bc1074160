-- The invariant of sign-ons: the one that is awaited is the one that was sent last.
use Rattle.std.specs.Prelude.{Some, None, Option}
use mathlib.Core.Path.{◌≡◌, refl, sym, ap, ◌∙◌}
use mathlib.Core.List.{List}
use mathlib.Core.Bool.{Bool, true, false, cond, ◌&&◌, and-true, and_assoc, true≢false}
use Prim.Native.Nat.{ℕ}
use native.Mathlib.Omega.{arith}
use lib.Dec.{leb, eqb}
use borrow.Author.Tests.{eqb-true, ne_eqb, not-false}
use Rattle.digits.specs.Packed.{numeral}
use Rattle.numbers.specs.Numbers.{within, is_number}
use Rattle.numbers.specs.declared.Batch.{Batch}
use Rattle.numbers.specs.declared.Trace.{Trace}
use Rattle.field.specs.Bitmap.{names}
use Rattle.message.specs.Message.{empty}
use Rattle.message.specs.declared.Message.{Message}
use Rattle.reading.specs.Reading.{read_message, ReadOutcome, Read, Refused as Unread}
use Rattle.parts.specs.Parts.{matches, part_of}
use Rattle.parts.specs.declared.Part.TheVariants as part
use Rattle.journal.specs.Journal.{entries_of, taken}
use Rattle.traces.proofs.Free.{taken_range}
use Rattle.answer_match.specs.Match as match
use Rattle.answer_match.specs.Match.{repeats, brought_by, sign_on_holds, is_sign_on_answer}
use Rattle.state.specs.declared.Phase.{Phase}
use Rattle.state.specs.declared.Phase.TheVariants.{Resting, Waiting, Pending, Settling, Uploading}
use Rattle.state.specs.declared.Settings.{Settings}
use Rattle.state.specs.declared.State.{State}
use Rattle.state.specs.State.{waits, signs_on, is_waiting}
use Rattle.state.specs.Calls.{Lent, Result, judged, refused}
use Rattle.checks.specs.Checks.{first_broken}
use Rattle.checks.proofs.Choices.{passed}
use Rattle.rules.specs.Rules.{rules12}
use Rattle.rules.proofs.InOrder.{Fit}
use Rattle.effect_definitions.specs.SignOn.{LeavesAll}
use Rattle.effect_definitions.specs.JournalEffects.{Changed, changed, silent_in, unanswered, heard}
use Rattle.effect_definitions.specs.StateEffects.{sign_on_ended, on_sign_on}
use Rattle.effect_definitions.proofs.SignOn.{unanswered_as, ending-leaves-all}
use Rattle.call_definitions.specs.SignOn.{sign_on_rules, sign_on_now, sign_on}
use Rattle.call_definitions.specs.Start.{original_of, entry_of, start_rules, start}
use Rattle.call_definitions.specs.Answer.{quietly, no_answer, without_power, power_returned, card_rules, card_agrees, card_declines, answer_rules, read_in, answer}
use Rattle.call_definitions.specs.SendReversal.{send_reversal_rules, send_from, send_reversal}
use Rattle.call_definitions.specs.Settle.{settle_rules, settle}
use Rattle.call_definitions.specs.SendNextUpload.{send_next_upload_rules, upload_from, send_next_upload}
use Rattle.call_definitions.specs.Events.{Event, sign_on_event, starts, answers, no_answer_event, power_returned_event, card_agrees_event, card_declines_event, send_reversal_event, settles, send_next_upload_event, call}
use Rattle.call_definitions.proofs.Quietly.{idle, fit_first}
use Rattle.call_theorems.specs.Facts.{is_sign_on}
use Rattle.call_theorems.proofs.Steady.{only_sign_on-awaited}
use Rattle.history.specs.Words.{message_in, same_field, code_is, batch_in, matches_message, holds_its_fields, is_matching}
use Rattle.history.specs.History as history
use Rattle.history.specs.History.{Given, Account}
use Rattle.history.specs.Demand.{given_by}
use Rattle.history.proofs.Said.{Says}
use Rattle.history.proofs.Sent.{sign_on-typed, sign_on-says}
use Rattle.history.proofs.Settles.{settings-held}
use Rattle.history.proofs.Tied.{Tied}
use Rattle.history.proofs.Events.{under_sign_on}
use Rattle.history_theorems.specs.Standing as standing
use Rattle.history_theorems.specs.Standing.{Standing, SignOn, sign_on_given}
use Rattle.history_theorems.specs.Judged.{awaits}
use Rattle.history_theorems.proofs.Stands as stands
use Rattle.history_theorems.proofs.Stands.{Stands, idle_unapproved}

pub record Signs (s : State) (w : SignOn) : Type 0 where
  pub awaited_is : signs_on s ≡ w.awaited
  pub says : signs_on s ≡ true → Says s.settings s.batch s.sign_on 0x0800 0 3 w.message

-- an answer or the card's word is awaited
pub awaits_both : (s : State) (w : SignOn) (y : Standing) → waits s.phase ≡ y.awaited → Signs s w → is_waiting s ≡ awaits w y
awaits_both s w y e g = rw (e, g.awaited_is)

-- what is said of silence holds of a sign-on that is silent: over it nothing else is awaited
idle_silent : (P : Changed → Type 0) (p : Phase) (s : State) (j : List ℕ) → waits p ≡ false → P (silent_in p s j) → P (changed s j)
idle_silent P Resting s j w h = h
idle_silent P (Waiting a) s j w h = absurd (true≢false w)
idle_silent P (Pending v) s j w h = h
idle_silent P Settling s j w h = h
idle_silent P Uploading s j w h = h

pub silence_keeps : (P : Changed → Type 0) → ((c : Changed) → P c → P (changed (sign_on_ended c.state) c.journal))
    → (s : State) (lent : Lent) → Fit s lent → P (silent_in s.phase s lent.journal) → P (unanswered s lent.journal)
silence_keeps P f s lent fits k =
    unanswered_as P s lent.journal
    (λ e.
    idle_silent (λ c. P (changed (sign_on_ended c.state) c.journal)) s.phase s lent.journal (under_sign_on s lent fits e)
    (f (silent_in s.phase s lent.journal) k))
    (λ e. k)

-- the answer to a sign-on leaves all else
pub told-leaves : (a : Message) (s : State) (j : List ℕ) → signs_on s ≡ true → LeavesAll s j (changed (on_sign_on a s) j)
unfolding heard
told-leaves a s j e = rw e at (ending-leaves-all true a s j e).0.0

-- and nothing else is awaited
pub still : (s : State) (lent : Lent) (y : Standing) → Fit s lent → Stands s lent.journal y → signs_on s ≡ true → y.awaited ≡ false
still s lent y f d e =
    sym (stands.awaits s.settings s.batch (entries_of s.entries lent.journal) y s.phase d.phase_is) ∙ under_sign_on s lent f e

-- a choice that is decided
pub chosen : {A : Type 0} {b c : Bool} → b ≡ c → (u v : A) → cond b u v ≡ cond c u v
chosen e u v = ap (λ (b : Bool). cond b u v) e

-- the batch number that an answer brings, in both words
kept-number : (x : ℕ) (b : Bool) → is_number x ≡ b → is_number (cond b x 0) ≡ b
unfolding within
kept-number x true e = e
kept-number x false e = refl

brings_alike : (n : Option ℕ) → is_number (brought_by n) ≡ (leb 1 (numeral n) && leb (numeral n) 999999)
unfolding within
brings_alike (Some x) = kept-number x (is_number x) refl
brings_alike None = refl

pub number_alike : (a : Message) → (match.batch_in a).0 ≡ cond (is_number (match.batch_in a).0) (batch_in a) 0
unfolding match.batch_in batch_in within
number_alike a = go (part_of a part.Batch)
  where
    go : (n : Option ℕ) → brought_by n ≡ cond (is_number (brought_by n)) (numeral n) 0
    go (Some x) = inner (is_number x) refl
      where
        inner : (b : Bool) → is_number x ≡ b → cond b x 0 ≡ cond (is_number (cond b x 0)) x 0
        inner true e = rw e
        inner false e = refl
    go None = refl

-- the answer to a sign-on is accepted exactly where it matches
module _ {x : Settings} {batch : Batch} {trace : Trace} {m : Message} (h : Says x batch trace 0x0800 0 3 m) (a : Message) where
  repeats_alike : repeats x 0x0800 trace a ≡ matches_message m a
  unfolding repeats matches_message same_field matches
  repeats_alike =
      rw ((sign_on-typed m h.indicator).is_sign_on, h.trace_bytes, h.terminal_bytes, h.merchant_bytes, h.indicator) (sym (and-true _))

  holds_alike : (names a.bitmap 39 && sign_on_holds a) ≡ holds_its_fields m a
  unfolding holds_its_fields sign_on_holds code_is matches match.batch_in batch_in
  holds_alike =
      let t = sign_on-typed m h.indicator in
      rw (t.is_sign_on, t.is_settlement, t.is_request, brings_alike (part_of a part.Batch), and-true (names a.bitmap 39))

pub sign_on-matches : (x : Settings) (batch : Batch) (trace : Trace) (m : Message) (b : List ℕ) → (read_message b).outcome ≡ Read
    → Says x batch trace 0x0800 0 3 m → is_sign_on_answer x trace (message_in b) ≡ is_matching m b
unfolding is_matching is_sign_on_answer
sign_on-matches x batch trace m b r s =
    let a = message_in b in
    and_assoc (repeats x 0x0800 trace a) (names a.bitmap 39) (sign_on_holds a) ∙ rw (r, repeats_alike s a, holds_alike s a)

-- a call that is refused leaves it
module _ (s : State) (lent : Lent) (w : SignOn) (g : Signs s w) where
  abbrev SignsAfter : Event → Result → Type 0
  SignsAfter e r = Signs r.state (sign_on_given (given_by r.outcome r.lent.message) e w)

  judged-signs : (e : Event) (n : ℕ) (done : Result) → (n ≡ 0 → SignsAfter e done) → SignsAfter e (judged n s lent done)
  unfolding judged
  judged-signs e n done f = go (eqb n 0) refl
    where
      go : (b : Bool) → eqb n 0 ≡ b → SignsAfter e (cond b done (refused n s lent))
      go true q = f (eqb-true n 0 q)
      go false q = g

  -- sign on
  sign_on-signs : (l : ℕ) (a : Account) → Tied l s a → SignsAfter sign_on_event (sign_on s lent)
  unfolding sign_on
  sign_on-signs l a h =
      let trace : Trace = record { 0 = taken (entries_of s.entries lent.journal) s.next.0 } in
      judged-signs sign_on_event (first_broken (sign_on_rules s lent)) (sign_on_now s trace lent)
      (λ z.
      let f = fit_first s lent _ _ refl z in
      let least = (taken_range (entries_of s.entries lent.journal) s.next.0 f.order.state.next_least f.order.state.next_most).0 in
      record {
        awaited_is = rw (ne_eqb trace.0 0 (λ q. omega arith));
        says = λ q. sign_on-says s.settings s.batch lent.message f.message_room f.order.state.batch_most trace (settings-held l s lent a h f);
      })

  -- while it is awaited, an answer, silence and the return of power end it
  module _ (e : signs_on s ≡ true) where
    ended : (t : State) → signs_on t ≡ false → Signs t (standing.sign_on_ended w)
    ended t q = record { awaited_is = q; says = λ y. absurd (true≢false (sym y ∙ q)) }

    silent-signs : signs_on (unanswered s lent.journal).state ≡ false
    silent-signs = (ending-leaves-all true empty s lent.journal e).1.1

    heard-signs : (o : ReadOutcome) (b : List ℕ) (good : Bool) → SignsAfter (answers b good) (read_in o good (message_in b) s lent)
    heard-signs Read b good =
        judged-signs (answers b good) (first_broken (answer_rules (message_in b) s lent.journal)) (quietly (heard good (message_in b) s lent.journal) lent)
        (λ z. ended _ (ending-leaves-all good (message_in b) s lent.journal e).0.1)
    heard-signs (Unread n) b good = g

    -- and every other call is refused
    busy : is_waiting s ≡ false → ⊥
    busy q = true≢false (sym e ∙ rw (idle s q).1)

    card_busy : first_broken (card_rules s lent) ≡ 0 → ⊥
    card_busy z =
        let f = fit_first s lent _ _ refl z in
        let u = idle_unapproved s.phase s.chip f.order.state.chip (under_sign_on s lent f e) in
        true≢false (sym (not-false _ (passed 14 (card_rules s lent) refl z)) ∙ u)

    ending-signs : (x : Event) → is_sign_on x ≡ false → SignsAfter x (call x s lent)
    unfolding start answer no_answer power_returned card_agrees card_declines send_reversal settle send_next_upload
    ending-signs sign_on_event n = absurd (true≢false n)
    ending-signs (starts d b) n =
        let es = entries_of s.entries lent.journal in
        let rs = start_rules d b s es (entry_of (original_of d es) es) lent in
        judged-signs (starts d b) (first_broken rs) _ (λ z. absurd (busy (passed 11 rs refl z)))
    ending-signs (answers b good) n =
        judged-signs (answers b good) (first_broken (rules12 s lent)) _ (λ z. heard-signs (read_message b).outcome b good)
    ending-signs no_answer_event n = judged-signs no_answer_event _ (quietly (unanswered s lent.journal) lent) (λ z. ended _ silent-signs)
    ending-signs power_returned_event n = judged-signs power_returned_event _ (without_power (unanswered s lent.journal) lent) (λ z. ended _ silent-signs)
    ending-signs card_agrees_event n = judged-signs card_agrees_event _ _ (λ z. absurd (card_busy z))
    ending-signs card_declines_event n = judged-signs card_declines_event _ _ (λ z. absurd (card_busy z))
    ending-signs send_reversal_event n =
        judged-signs send_reversal_event _ (send_from s.phase s lent) (λ z. absurd (busy (passed 11 (send_reversal_rules s lent) refl z)))
    ending-signs settles n = judged-signs settles _ _ (λ z. absurd (busy (passed 11 (settle_rules s lent) refl z)))
    ending-signs send_next_upload_event n =
        judged-signs send_next_upload_event _ (upload_from s.phase s lent) (λ z. absurd (busy (passed 11 (send_next_upload_rules s lent) refl z)))

  -- while none is, no call but sign on makes one awaited
  sent-none : (x : Event) (m : Message) → is_sign_on x ≡ false → (standing.sign_on_sent x m w).awaited ≡ w.awaited
  sent-none sign_on_event m n = absurd (true≢false n)
  sent-none (starts d b) m n = refl
  sent-none (answers b good) m n = refl
  sent-none no_answer_event m n = refl
  sent-none power_returned_event m n = refl
  sent-none card_agrees_event m n = refl
  sent-none card_declines_event m n = refl
  sent-none send_reversal_event m n = refl
  sent-none settles m n = refl
  sent-none send_next_upload_event m n = refl

  quiet_none : (x : Event) → w.awaited ≡ false → (standing.sign_on_quiet x w).awaited ≡ false
  quiet_none sign_on_event n = n
  quiet_none (starts d b) n = n
  quiet_none (answers b good) n = refl
  quiet_none no_answer_event n = refl
  quiet_none power_returned_event n = refl
  quiet_none card_agrees_event n = n
  quiet_none card_declines_event n = n
  quiet_none send_reversal_event n = n
  quiet_none settles n = n
  quiet_none send_next_upload_event n = n

  none-given : (o : Given) (x : Event) → is_sign_on x ≡ false → w.awaited ≡ false → (sign_on_given o x w).awaited ≡ false
  none-given (history.sent b) x n e = sent-none x (message_in b) n ∙ e
  none-given history.quiet x n e = quiet_none x e
  none-given (history.refused k) x n e = e

  idle_signs : (x : Event) → is_sign_on x ≡ false → signs_on s ≡ false → SignsAfter x (call x s lent)
  idle_signs x n e =
      record {
        awaited_is = still (signs_on (call x s lent).state) refl ∙ sym (none-given (given_by (call x s lent).outcome (call x s lent).lent.message) x n (sym g.awaited_is ∙ e));
        says = λ y. absurd (true≢false (sym (only_sign_on-awaited x s lent n y) ∙ e));
      }
    where
      still : (b : Bool) → signs_on (call x s lent).state ≡ b → b ≡ false
      still true y = sym (only_sign_on-awaited x s lent n y) ∙ e
      still false y = refl

  other_signs : (x : Event) → is_sign_on x ≡ false → (b : Bool) → signs_on s ≡ b → SignsAfter x (call x s lent)
  other_signs x n true e = ending-signs e x n
  other_signs x n false e = idle_signs x n e

  -- any call
  pub call-signs : (x : Event) (l : ℕ) (a : Account) → Tied l s a → SignsAfter x (call x s lent)
  call-signs sign_on_event l a h = sign_on-signs l a h
  call-signs (starts d b) l a h = other_signs (starts d b) refl (signs_on s) refl
  call-signs (answers b good) l a h = other_signs (answers b good) refl (signs_on s) refl
  call-signs no_answer_event l a h = other_signs no_answer_event refl (signs_on s) refl
  call-signs power_returned_event l a h = other_signs power_returned_event refl (signs_on s) refl
  call-signs card_agrees_event l a h = other_signs card_agrees_event refl (signs_on s) refl
  call-signs card_declines_event l a h = other_signs card_declines_event refl (signs_on s) refl
  call-signs send_reversal_event l a h = other_signs send_reversal_event refl (signs_on s) refl
  call-signs settles l a h = other_signs settles refl (signs_on s) refl
  call-signs send_next_upload_event l a h = other_signs send_next_upload_event refl (signs_on s) refl
