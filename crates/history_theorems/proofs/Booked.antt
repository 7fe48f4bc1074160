-- The journal is that of the approvals, after each call.
use Rattle.std.specs.Prelude.{Some, None, Option}
use mathlib.Core.Path.{◌≡◌, refl, sym, ap, ◌∙◌}
use mathlib.Core.List.{List, [], ◌∷◌, ◌++◌}
use mathlib.Core.Bool.{Bool, true, false, cond, not, ◌&&◌, ◌||◌, and-eq-true_iff, true≢false}
use Prim.Native.Nat.{ℕ, ◌+◌}
use native.Mathlib.Nat.{zero-add}
use native.Mathlib.Decide.{ℕ_discrete}
use lib.Dec.{eqb, leb}
use borrow.Author.Tests.{eqb-true, ne_eqb, not-false}
use Rattle.field.specs.Bitmap.{names}
use Rattle.message.specs.declared.Message.{Message}
use Rattle.reading.specs.Reading.{read_message, ReadOutcome, Read, Refused}
use Rattle.kinds.specs.Kinds.{is_never_reversed, takes_original, original_kind, allows_partial}
use Rattle.entry.specs.declared.Entry.{Entry}
use Rattle.journal.specs.Journal.{entries_of, entry_at, set_byte, original_for, next_due, with_mark, with_resends}
use Rattle.journal.proofs.Entries.{set_mark, set-resends, set-voided}
use Rattle.state.specs.declared.Awaited.{Awaited}
use Rattle.state.specs.declared.Awaited.TheVariants as awaited
use Rattle.state.specs.declared.Count.TheVariants as count
use Rattle.state.specs.declared.Phase.{Phase}
use Rattle.state.specs.declared.Phase.TheVariants.{Resting, Waiting, Pending, Settling, Uploading}
use Rattle.state.specs.declared.Reason.TheVariants.{BadMac}
use Rattle.state.specs.declared.Request.{Request}
use Rattle.state.specs.declared.Reversal.{Reversal}
use Rattle.state.specs.declared.State.{State}
use Rattle.state.specs.State.{has_chip, as_sent, approved_by, in_phase, with_chip, closed, waits}
use Rattle.state_rules.specs.StateRules.{awaits_request, request_awaited}
use Rattle.state.specs.Calls.{Lent, Result, judged, refused}
use Rattle.checks.specs.Checks.{first_broken}
use Rattle.checks.proofs.Choices.{passed}
use Rattle.rules.specs.Rules.{rules12, due, request_kept, unvoided_at, original_unvoided}
use Rattle.rules.proofs.InOrder.{Fit, fit}
use Rattle.state_rules.proofs.Holds.{request-holds, MayApprove, consent_holds}
use Rattle.answer_match.specs.Match as match
use Rattle.answer_match.specs.Match.{is_answer, matches_sent, indicator_sent, holds_named, approves, approves_request, good_mac, approval_holds, ends_reversal}
use Rattle.approval.specs.Approval.{approval_of, approved_entry}
use Rattle.effect_definitions.specs.StateEffects as effects
use Rattle.effect_definitions.specs.StateEffects.{pending_or_unanswered, silence_of, failed, on_reversal, on_settlement, on_end}
use Rattle.effect_definitions.specs.JournalEffects.{Changed, changed, marked, silent, silent_in, unanswered, voided_at, original_voided, approved, granted, on_request, agreed, agreed_in, on_item, answered, answered_in, heard, resent}
use Rattle.call_definitions.specs.SignOn.{sign_on}
use Rattle.call_definitions.specs.Start.{start}
use Rattle.call_definitions.specs.Answer.{trace_sent, quietly, no_answer_rules, no_answer, without_power, power_returned, card_rules, card_agrees, card_declines, answers_in, answer_rules, read_in, answer}
use Rattle.call_definitions.specs.SendReversal.{send_from, send_reversal}
use Rattle.call_definitions.specs.Settle.{settle}
use Rattle.call_definitions.specs.SendNextUpload.{sends_next, upload_from, send_next_upload}
use Rattle.call_definitions.specs.Events.{Event, sign_on_event, starts, answers, no_answer_event, power_returned_event, card_agrees_event, card_declines_event, send_reversal_event, settles, send_next_upload_event, call}
use Rattle.effect_definitions.proofs.SignOn.{heard_as}
use Rattle.call_definitions.proofs.Quietly.{plainly, fit_first}
use Rattle.history.specs.Words.{message_in, amount_in, carries_chip, is_request, closes_batch}
use Rattle.history.proofs.Sent.{Typed, reversal-typed, settlement_typed, item-typed, end_typed}
use Rattle.history.proofs.Matching.{request_alike, mac_alike, settlement_closes, end_closes, other_closes}
use Rattle.call_theorems.proofs.Approvals.{approval-names, approval-read}
use Rattle.history.proofs.Answered.{answered_alike}
use Rattle.history.proofs.Approved.{approved-entries}
use Rattle.history_theorems.specs.Standing.{Standing}
use Rattle.history_theorems.specs.Approvals.{Approval, when_heard, when_quiet, when_given, AreEntries}
use Rattle.history_theorems.proofs.Stands.{Names, Stands}
use Rattle.history_theorems.proofs.Signs.{silence_keeps, told-leaves, chosen, still}
use Rattle.history_theorems.proofs.Said.{given_in}
use Rattle.history_theorems.proofs.Ledger.{mark_leaves, resends_leave, changed-entries, WithOne, one_more, none-voided, one-voided}
use Rattle.history_theorems.proofs.Entered.{entered, voids-none, voids_alike}
use Rattle.history_theorems.proofs.Repaid.{RepaysIn, Repaying}

abbrev pub Booked : State → List ℕ → List Approval → Type 0
Booked s j xs = AreEntries (entries_of s.entries j) xs

abbrev Left : Changed → List Approval → Type 0
Left c xs = Booked c.state c.journal xs

abbrev pub BookedAfter : Event → Standing → List Approval → Result → Type 0
BookedAfter e y xs r = Booked r.state r.lent.journal (when_given (given_in r) e y xs)

-- a mark or a resend of an entry says nothing of its approval
marked-booked : (n i x : ℕ) (j : List ℕ) (xs : List Approval) → AreEntries (entries_of n j) xs → AreEntries (entries_of n (marked i x j)) xs
marked-booked n i x j xs h = rw (set_mark n i x j) (changed-entries (with_mark x) (mark_leaves x) i (entries_of n j) xs h)

resent-booked : (n i : ℕ) (e : Entry) (j : List ℕ) (xs : List Approval) → AreEntries (entries_of n j) xs
    → AreEntries (entries_of n (resent i e j)) xs
unfolding resent
resent-booked n i e j xs h = go (eqb e.mark 0)
  where
    go : (b : Bool) → AreEntries (entries_of n (cond b j (set_byte i 3 (e.resends + 1) j))) xs
    go true = h
    go false =
        rw (set-resends n i (e.resends + 1) j)
        (changed-entries (with_resends (e.resends + 1)) (resends_leave (e.resends + 1)) i (entries_of n j) xs h)

-- silence
silent-booked : (w : Awaited) (s : State) (j : List ℕ) (xs : List Approval) → Booked s j xs → Left (silent w s j) xs
unfolding silent pending_or_unanswered failed
silent-booked (awaited.Request q) s j xs h = go (is_never_reversed q.kind)
  where
    go : (b : Bool) → Left (changed (cond b (effects.ended count.Unanswered s)
        (in_phase (Pending (record { request = q; reason = silence_of s; sendings = 0 })) (with_chip (as_sent s.chip) s))) j) xs
    go true = h
    go false = h
silent-booked (awaited.Reversal v) s j xs h = go (leb s.settings.sendings v.sendings)
  where
    go : (b : Bool) → Left (changed (cond b (effects.ended count.GivenUp s) (in_phase (Pending v) s)) j) xs
    go true = h
    go false = h
silent-booked (awaited.Settlement t) s j xs h = h
silent-booked (awaited.Item i) s j xs h = marked-booked s.entries i _ j xs h
silent-booked (awaited.End t) s j xs h = h

silent_in_lem : (p : Phase) (s : State) (j : List ℕ) (xs : List Approval) → Booked s j xs → Left (silent_in p (in_phase p s) j) xs
silent_in_lem Resting s j xs h = h
silent_in_lem (Waiting w) s j xs h = silent-booked w (in_phase (Waiting w) s) j xs h
silent_in_lem (Pending v) s j xs h = h
silent_in_lem Settling s j xs h = h
silent_in_lem Uploading s j xs h = h

silence_booked : (s : State) (lent : Lent) (xs : List Approval) → Fit s lent → Booked s lent.journal xs → Left (unanswered s lent.journal) xs
silence_booked s lent xs f h = silence_keeps (λ c. Left c xs) (λ c k. k) s lent f (silent_in_lem s.phase s lent.journal xs h)

-- an approval: its original is voided, and its entry is the last
module _ (b : List ℕ) (read : (read_message b).outcome ≡ Read) (s : State) (lent : Lent) (q : Request) (r : Message) (xs : List Approval)
    (fits : Fit (in_phase (Waiting (awaited.Request q)) s) lent) (said : Names q r) (holds : approval_holds q.kind q.amount (message_in b) ≡ true)
    (good : approves_request q.kind (message_in b) ≡ true) (paid : RepaysIn (Waiting (awaited.Request q)) (entries_of s.entries lent.journal))
    (h : Booked s lent.journal xs) where
  abbrev approval : Approval
  approval = record { request = r; answer = message_in b }

  abbrev es : List Entry
  es = entries_of s.entries lent.journal

  -- what the answer says
  may : MayApprove q (approval_of (message_in b))
  may = approval-read b read q fits.order.state.phase_form holds good

  -- a void is never in part
  not_partial : (kind : ℕ) → takes_original kind ≡ true → allows_partial kind ≡ false
  unfolding takes_original
  not_partial kind t = go (ℕ_discrete kind 22)
    where
      go : Dec (kind ≡ 22) → eqb kind 22 ≡ false
      go (yes e) = absurd (true≢false (sym (rw e at t)))
      go (no e) = ne_eqb kind 22 e

  repaid : takes_original q.kind ≡ true → (i : ℕ) → original_for q.kind q.original.0 es ≡ Some i → (entry_at es i).amount ≡ amount_in (message_in b)
  repaid t i f = paid t i f ∙ sym (may.1.whole (not_partial q.kind t)) ∙ answered_alike (message_in b)

  voided-entries : (t : Bool) → takes_original q.kind ≡ t → (f : Option ℕ) → original_for q.kind q.original.0 es ≡ f
      → cond t (unvoided_at f es) true ≡ true
      → WithOne approval (entries_of s.entries (cond t (voided_at f lent.journal) lent.journal)) xs
  voided-entries true t (Some i) f k =
      rw (set-voided s.entries i 1 lent.journal)
      (one-voided approval (original_kind q.kind) q.original.0 (voids_alike q r said t) 0 i es xs (f ∙ ap Some (sym (zero-add i))) fits.order.journal.apart (repaid t i f) h)
  voided-entries true t None f k = absurd (true≢false (sym k))
  voided-entries false t f e k = none-voided approval es xs (voids-none q r said t) h

  -- the journal had an original left that was not voided
  original-left : cond (takes_original q.kind) (unvoided_at (original_for q.kind q.original.0 es) es) true ≡ true
  unfolding request_kept original_unvoided
  original-left = let t = simp and-eq-true_iff at fits.order.phase_kept in t.0.1

  approved-booked : Left (approved q (approved_entry q (approval_of (message_in b))) s lent.journal) (xs ++ (approval ∷ []))
  unfolding approved original_voided
  approved-booked =
      let n = approval-names q.kind q.amount (message_in b) holds good in
      rw (approved-entries q (approval_of (message_in b)) s lent fits may)
      (one_more approval (approved_entry q (approval_of (message_in b))) (entries_of s.entries (original_voided q es lent.journal)) xs
      (voided-entries (takes_original q.kind) refl (original_for q.kind q.original.0 es) refl original-left)
      (entered q r said b read n.date n.reference (request-holds q fits.order.state.phase_form).card_most may.1))

-- an accepted answer
module _ (b : List ℕ) (good : Bool) (read : (read_message b).outcome ≡ Read) (s : State) (lent : Lent) (y : Standing) (xs : List Approval)
    (h : Booked s lent.journal xs) where
  abbrev a : Message
  a = message_in b

  abbrev Heard : Changed → Type 0
  Heard c = Left c (when_heard good a y xs)

  -- to what is no card request and closes nothing
  same-approvals : closes_batch y.message a ≡ false → is_request y.message ≡ false → when_heard good a y xs ≡ xs
  unfolding when_heard
  same-approvals c t = rw (c, t)

  request-booked : (q : Request) → Fit (in_phase (Waiting (awaited.Request q)) s) lent → Typed true false false false y.message
      → Names q y.message → carries_chip y.message ≡ has_chip s.chip → approval_holds q.kind q.amount a ≡ true
      → Repaying (in_phase (Waiting (awaited.Request q)) s) lent.journal → Heard (on_request good a q s lent.journal)
  unfolding on_request granted when_heard pending_or_unanswered
  request-booked q f t n m k p =
      rw (other_closes t a, t.is_request, m, request_alike y.message n.kind_is a, mac_alike good a)
      (go (approves_request q.kind a) (good_mac good a) (has_chip s.chip) (is_never_reversed q.kind) refl)
    where
      go : (x z c w : Bool) → approves_request q.kind a ≡ x → Left
          (cond x
          (cond z
          (cond c (changed (with_chip (approved_by (approval_of a) s.chip) s) lent.journal) (approved q (approved_entry q (approval_of a)) s lent.journal))
          (changed (cond w (effects.ended count.Unanswered s)
          (in_phase (Pending (record { request = q; reason = BadMac; sendings = 0 })) (with_chip (as_sent s.chip) s))) lent.journal))
          (changed (effects.ended count.Declined s) lent.journal))
          (cond (not c && (x && z)) (xs ++ (record { request = y.message; answer = a } ∷ [])) xs)
      go true true true w e = h
      go true true false w e = approved-booked b read s lent q y.message xs f n k e p h
      go true false true true e = h
      go true false true false e = h
      go true false false true e = h
      go true false false false e = h
      go false z true w e = h
      go false z false w e = h

  reversal-booked : (v : Reversal) → Typed false true false false y.message → Heard (changed (on_reversal good a v s) lent.journal)
  unfolding on_reversal failed
  reversal-booked v t =
      rw (same-approvals (other_closes t a) t.is_request) (go (ends_reversal good a) (leb s.settings.sendings v.sendings))
    where
      go : (x z : Bool)
          → Booked (cond x (effects.ended count.Reversed s) (cond z (effects.ended count.GivenUp s) (in_phase (Pending v) s))) lent.journal xs
      go true z = h
      go false true = h
      go false false = h

  -- a closing empties the journal
  closed-booked : (x : Bool) → closes_batch y.message a ≡ x → is_request y.message ≡ false
      → Heard (changed (cond x (closed s) (in_phase Uploading s)) lent.journal)
  unfolding when_heard
  closed-booked true e t = rw e tt
  closed-booked false e t = rw (e, t) h

  heard-booked : (w : Awaited) → Fit (in_phase (Waiting w) s) lent → Stands (in_phase (Waiting w) s) lent.journal y
      → Repaying (in_phase (Waiting w) s) lent.journal
      → is_answer s.settings s.batch (trace_sent (entries_of s.entries lent.journal) w) w a ≡ true → Heard (answered good a w s lent.journal)
  unfolding answered is_answer on_settlement on_end on_item
  heard-booked (awaited.Request q) f d p e =
      let t = (and-eq-true_iff (matches_sent s.settings s.batch (indicator_sent (awaited.Request q)) q.trace a)
      (holds_named (awaited.Request q) a)).0 e in
      let n = (and-eq-true_iff (names a.bitmap 39) (approval_holds q.kind q.amount a)).0 t.1 in
      request-booked q f d.phase_is.1.typed d.details.says d.details.carries n.1 p
  heard-booked (awaited.Reversal v) f d p e = reversal-booked v (reversal-typed y.message d.phase_is.1.indicator)
  heard-booked (awaited.Settlement t) f d p e =
      let k = settlement_typed y.message d.phase_is.1.indicator in
      closed-booked (match.closes_batch a) (settlement_closes k a) k.is_request
  heard-booked (awaited.Item i) f d p e =
      let k = item-typed y.message d.phase_is.1.indicator d.phase_is.1.code_number in
      rw (same-approvals (other_closes k a) k.is_request) (marked-booked s.entries i (cond (approves a) 2 3) lent.journal xs h)
  heard-booked (awaited.End t) f d p e =
      let k = end_typed y.message d.phase_is.1.indicator d.phase_is.1.code_number in
      closed-booked (approves a) (end_closes k a) k.is_request

-- the card's consent
agreed-booked : (w : Awaited) (s : State) (lent : Lent) (y : Standing) (xs : List Approval) → Fit (in_phase (Waiting w) s) lent
    → Stands (in_phase (Waiting w) s) lent.journal y → Repaying (in_phase (Waiting w) s) lent.journal → Booked s lent.journal xs
    → s.chip.approved ≡ true → awaits_request w ≡ true
    → Left (agreed w s lent.journal) (xs ++ (record { request = y.message; answer = y.answer } ∷ []))
unfolding agreed
agreed-booked (awaited.Request q) s lent y xs f d p h e r =
    let g = d.details.granted e in
    rw (g.answer_is, g.approval_is) (approved-booked g.bytes g.read s lent q y.message xs f d.details.says g.holds g.good p h)
agreed-booked (awaited.Reversal v) s lent y xs f d p h e r = absurd (true≢false (sym r))
agreed-booked (awaited.Settlement t) s lent y xs f d p h e r = absurd (true≢false (sym r))
agreed-booked (awaited.Item i) s lent y xs f d p h e r = absurd (true≢false (sym r))
agreed-booked (awaited.End t) s lent y xs f d p h e r = absurd (true≢false (sym r))

agreed_in_lem : (p : Phase) (s : State) (lent : Lent) (y : Standing) (xs : List Approval) → Fit (in_phase p s) lent → Stands (in_phase p s) lent.journal y
    → Repaying (in_phase p s) lent.journal → Booked s lent.journal xs → s.chip.approved ≡ true → request_awaited p ≡ true
    → Left (agreed_in p (in_phase p s) lent.journal) (xs ++ (record { request = y.message; answer = y.answer } ∷ []))
agreed_in_lem Resting s lent y xs f d k h e r = absurd (true≢false (sym r))
agreed_in_lem (Waiting w) s lent y xs f d k h e r = agreed-booked w (in_phase (Waiting w) s) lent y xs f d k h e r
agreed_in_lem (Pending v) s lent y xs f d k h e r = absurd (true≢false (sym r))
agreed_in_lem Settling s lent y xs f d k h e r = absurd (true≢false (sym r))
agreed_in_lem Uploading s lent y xs f d k h e r = absurd (true≢false (sym r))

-- each call
module _ (s : State) (lent : Lent) (y : Standing) (xs : List Approval) (d : Stands s lent.journal y) (h : Booked s lent.journal xs) where
  judged-booked : (e : Event) (n : ℕ) (done : Result) → (n ≡ 0 → BookedAfter e y xs done) → BookedAfter e y xs (judged n s lent done)
  unfolding judged
  judged-booked e n done f = go (eqb n 0) refl
    where
      go : (b : Bool) → eqb n 0 ≡ b → BookedAfter e y xs (cond b done (refused n s lent))
      go true q = f (eqb-true n 0 q)
      go false q = h

  next-booked : (f : Option ℕ) (t : State) → t.entries ≡ s.entries → BookedAfter send_next_upload_event y xs (sends_next f t lent)
  next-booked (Some i) t e = rw e (resent-booked s.entries i _ lent.journal xs h)
  next-booked None t e = rw e h

  send_booked : (p : Phase) → BookedAfter send_reversal_event y xs (send_from p s lent)
  send_booked Resting = h
  send_booked (Waiting w) = h
  send_booked (Pending v) = h
  send_booked Settling = h
  send_booked Uploading = h

  upload-booked : (p : Phase) → BookedAfter send_next_upload_event y xs (upload_from p s lent)
  upload-booked Resting = h
  upload-booked (Waiting w) = h
  upload-booked (Pending v) = h
  upload-booked Settling = h
  upload-booked Uploading = next-booked (next_due (due Uploading) (entries_of s.entries lent.journal)) s refl

answered_in_lem : (b : List ℕ) (good : Bool) → (read_message b).outcome ≡ Read → (p : Phase) (s : State) (lent : Lent) (y : Standing) (xs : List Approval)
    → Fit (in_phase p s) lent → Stands (in_phase p s) lent.journal y → Repaying (in_phase p s) lent.journal → Booked s lent.journal xs
    → (not (waits p) || s.chip.approved) ≡ false
    → answers_in p (entries_of s.entries lent.journal) (in_phase p s) (message_in b) ≡ true
    → Left (answered_in p good (message_in b) (in_phase p s) lent.journal) (when_quiet (answers b good) y xs)
answered_in_lem b good r Resting s lent y xs f d k h w e = absurd (true≢false w)
answered_in_lem b good r (Waiting x) s lent y xs f d k h w e =
    rw (chosen d.phase_is.0.awaits_is _ _) (heard-booked b good r (in_phase (Waiting x) s) lent y xs h x f d k e)
answered_in_lem b good r (Pending v) s lent y xs f d k h w e = absurd (true≢false w)
answered_in_lem b good r Settling s lent y xs f d k h w e = absurd (true≢false w)
answered_in_lem b good r Uploading s lent y xs f d k h w e = absurd (true≢false w)

read-booked : (o : ReadOutcome) (b : List ℕ) (good : Bool) → (read_message b).outcome ≡ o → (s : State) (lent : Lent) (y : Standing) (xs : List Approval)
    → Fit s lent → Stands s lent.journal y → Repaying s lent.journal → Booked s lent.journal xs → BookedAfter (answers b good) y xs (read_in o good (message_in b) s lent)
read-booked Read b good r s lent y xs f d k h =
    let rs = answer_rules (message_in b) s lent.journal in
    judged-booked s lent y xs d h (answers b good) (first_broken rs) (quietly (heard good (message_in b) s lent.journal) lent)
    (λ z.
    heard_as (λ c. Left c (when_quiet (answers b good) y xs)) good (message_in b) s lent.journal
    (λ e.
    rw (chosen (still s lent y f d e) _ _, (told-leaves (message_in b) s lent.journal e).entries_stay) h)
    (λ e. let p = plainly (message_in b) s lent.journal z e in answered_in_lem b good r s.phase s lent y xs f d k h p.0 p.1))
read-booked (Refused n) b good r s lent y xs f d k h = h

pub call-booked : (e : Event) (s : State) (lent : Lent) (y : Standing) (xs : List Approval) → Stands s lent.journal y
    → Repaying s lent.journal → Booked s lent.journal xs → BookedAfter e y xs (call e s lent)
unfolding sign_on start answer no_answer power_returned card_agrees card_declines send_reversal settle send_next_upload
call-booked sign_on_event s lent y xs d k h = judged-booked s lent y xs d h sign_on_event _ _ (λ z. h)
call-booked (starts i b) s lent y xs d k h = judged-booked s lent y xs d h (starts i b) _ _ (λ z. h)
call-booked (answers b good) s lent y xs d k h =
    judged-booked s lent y xs d h (answers b good) (first_broken (rules12 s lent)) (read_in (read_message b).outcome good (message_in b) s lent)
    (λ z. read-booked (read_message b).outcome b good refl s lent y xs (fit s lent z) d k h)
call-booked no_answer_event s lent y xs d k h =
    judged-booked s lent y xs d h no_answer_event (first_broken (no_answer_rules s lent)) (quietly (unanswered s lent.journal) lent)
    (λ z. silence_booked s lent xs (fit_first s lent _ _ refl z) h)
call-booked power_returned_event s lent y xs d k h =
    judged-booked s lent y xs d h power_returned_event (first_broken (rules12 s lent)) (without_power (unanswered s lent.journal) lent)
    (λ z. silence_booked s lent xs (fit s lent z) h)
call-booked card_agrees_event s lent y xs d k h =
    let rs = card_rules s lent in
    judged-booked s lent y xs d h card_agrees_event (first_broken rs) (quietly (agreed_in s.phase s lent.journal) lent)
    (λ z.
    let f = fit_first s lent _ _ refl z in
    let e : s.chip.approved ≡ true = not-false _ (passed 14 rs refl z) in
    agreed_in_lem s.phase s lent y xs f d k h e (consent_holds s.phase s.chip f.order.state.chip e).request)
call-booked card_declines_event s lent y xs d k h =
    judged-booked s lent y xs d h card_declines_event _ (quietly (silent_in s.phase s lent.journal) lent) (λ z. silent_in_lem s.phase s lent.journal xs h)
call-booked send_reversal_event s lent y xs d k h =
    judged-booked s lent y xs d h send_reversal_event _ (send_from s.phase s lent) (λ z. send_booked s lent y xs d h s.phase)
call-booked settles s lent y xs d k h = judged-booked s lent y xs d h settles _ _ (λ z. h)
call-booked send_next_upload_event s lent y xs d k h =
    judged-booked s lent y xs d h send_next_upload_event _ (upload_from s.phase s lent) (λ z. upload-booked s lent y xs d h s.phase)
