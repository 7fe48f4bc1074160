-- What an upload sends, and the marks of the journal after each call.
use Rattle.std.specs.Prelude.{Some, None, Option}
use mathlib.Core.Path.{◌≡◌, refl, sym, ap, subst, ◌∙◌}
use mathlib.Core.List.{List, [], ◌∷◌, ◌++◌}
use mathlib.Core.Bool.{Bool, true, false, cond, not, ◌&&◌, ◌||◌, and-eq-true_iff, true≢false}
use Prim.Native.Nat.{ℕ, ◌+◌, ◌≤◌, ◌<◌}
use native.Mathlib.Omega.{arith}
use lib.Dec.{eqb, leb}
use lib.ListN.{length}
use borrow.Author.Tests.{eqb-true, eqb-false, eq-eqb, leb-true, not-false}
use Rattle.numbers.specs.Limits.{last_number}
use Rattle.numbers.specs.declared.Batch.{Batch}
use Rattle.numbers.specs.declared.Trace.{Trace}
use Rattle.message.specs.Build.{Item, digits, bytes}
use Rattle.message.specs.Message.{Field, largest}
use Rattle.message.specs.declared.Message.{Message}
use Rattle.reading.specs.Reading.{read_message, ReadOutcome, Read, Refused}
use Rattle.writing.specs.Writing.{message_bytes}
use Rattle.entry.specs.Form.{in_form, keeps_resends, keeps_silent}
use Rattle.entry.specs.declared.Entry.{Entry}
use Rattle.entry.proofs.Form.{in_form_lem}
use Rattle.journal.specs.Journal.{entries_of, entry_at, set_byte, is_at, next_due, taken, with_resends}
use Rattle.journal.proofs.Entries.{set-resends}
use Rattle.journal.proofs.Searches.{every-at, next-at}
use Rattle.state.specs.declared.Phase.{Phase}
use Rattle.state.specs.declared.Phase.TheVariants.{Resting, Waiting, Pending, Settling, Uploading}
use Rattle.state.specs.declared.Settings.{Settings}
use Rattle.state.specs.declared.State.{State}
use Rattle.state.specs.State.{in_phase, waits}
use Rattle.state.specs.Calls.{Lent, Result, judged, refused, quiet}
use Rattle.state_rules.proofs.Holds.{consent_holds}
use Rattle.checks.specs.Checks.{first_broken}
use Rattle.checks.proofs.Choices.{passed}
use Rattle.rules.specs.Rules.{rules12, due}
use Rattle.rules.proofs.InOrder.{Fit, fit}
use Rattle.traces.proofs.Free.{taken_range}
use Rattle.batch_messages.specs.BatchMessages.{item_fields, item_message, end_message}
use Rattle.batch_messages.proofs.Held.{EntryHeld, item-held, upload-listed}
use Rattle.outgoing.specs.Held.{SettingsHeld}
use Rattle.outgoing_theorems.specs.Theorems.{Reads}
use Rattle.effect_definitions.specs.JournalEffects.{Changed, silent_in, unanswered, agreed_in, answered_in, heard, resent}
use Rattle.call_definitions.specs.SignOn.{sign_on}
use Rattle.call_definitions.specs.Start.{start}
use Rattle.call_definitions.specs.Answer.{quietly, no_answer_rules, no_answer, without_power, power_returned, card_rules, card_agrees, card_declines, answers_in, answer_rules, read_in, answer}
use Rattle.call_definitions.specs.SendReversal.{send_from, send_reversal}
use Rattle.call_definitions.specs.Settle.{settle}
use Rattle.call_definitions.specs.SendNextUpload.{sends_next, send_next_upload_rules, upload_from, send_next_upload}
use Rattle.call_definitions.specs.Events.{Event, sign_on_event, starts, answers, no_answer_event, power_returned_event, card_agrees_event, card_declines_event, send_reversal_event, settles, send_next_upload_event, call}
use Rattle.effect_definitions.proofs.SignOn.{heard_as}
use Rattle.call_definitions.proofs.Quietly.{plainly, fit_first}
use Rattle.history.specs.Words.{message_in, kind_in, carries_chip, is_request, approves_request, mac_good, closes_batch, processing_for}
use Rattle.history.specs.History as history
use Rattle.history.specs.History.{Given, Account}
use Rattle.history.proofs.Said.{handed_out, sent-reads}
use Rattle.history.proofs.Settles.{settings-held, entry-held}
use Rattle.history.proofs.Tied.{Tied}
use Rattle.history_theorems.specs.Standing.{Standing, trace_in}
use Rattle.history_theorems.specs.Approvals.{Approval, IsEntry}
use Rattle.history_theorems.specs.Fields.{field60, yuan, upload_items, end_items}
use Rattle.history_theorems.specs.Uploads.{Progress, unsent, silent, ended, Place, none, at, next_item, leaves, change_at, Upload, with_item, when_sent, is_item, changed, falls_silent, is_answered, when_silent, when_heard, when_quiet, when_given, SendsNext, EachFew}
use Rattle.history_theorems.proofs.Signs.{silence_keeps, told-leaves, chosen, still}
use Rattle.history_theorems.proofs.Stands.{Stands}
use Rattle.history_theorems.proofs.Said.{given_in}
use Rattle.history_theorems.proofs.Sends.{end_sent, management_reads}
use Rattle.history_theorems.proofs.Booked.{Booked}
use Rattle.history_theorems.proofs.Copies.{Copied, EachExact, copied-place}
use Rattle.history_theorems.proofs.ByKind.{processing_is}
use Rattle.history_theorems.proofs.Progress.{IsMarked, Marks, marks-changed, marks-progress, place_of, next_alike, MayLeaveAt, may_leave-at, few-leaves, few-changed, few-more, silent-few}
use Rattle.history_theorems.proofs.Uploaded.{Uploads, silent_in_lem, agreed_in_lem, declined-same, heard-uploads}

abbrev Left : Changed → Upload → Type 0
Left c u = Uploads c.state c.journal u

-- as an item leaves, its resends grow
left-unsent : (e : Entry) (p : Progress) → e.mark ≡ 0 → IsMarked e p → IsMarked e (leaves p)
left-unsent e unsent z h = h
left-unsent e (silent n) z h = absurd (omega arith)
left-unsent e ended z h = absurd (omega arith)

left-again : (e : Entry) (p : Progress) → (e.mark ≡ 0 → ⊥) → IsMarked e p → IsMarked (with_resends (e.resends + 1) e) (leaves p)
unfolding with_resends
left-again e unsent z h = absurd (z h.0)
left-again e (silent n) z h = (h.0, ap (λ (k : ℕ). k + 1) h.1)
left-again e ended z h = h

resent-marks : (n i : ℕ) (j : List ℕ) (ps : List Progress) → Marks (entries_of n j) ps
    → Marks (entries_of n (resent i (entry_at (entries_of n j) i) j)) (change_at i leaves ps)
unfolding resent
resent-marks n i j ps h = go (eqb e.mark 0) refl
  where
    e : Entry
    e = entry_at (entries_of n j) i

    go : (b : Bool) → eqb e.mark 0 ≡ b → Marks (entries_of n (cond b j (set_byte i 3 (e.resends + 1) j))) (change_at i leaves ps)
    go true q = marks-progress leaves i (entries_of n j) ps h (λ p m. left-unsent e p (eqb-true e.mark 0 q) m)
    go false q =
        rw (set-resends n i (e.resends + 1) j)
        (marks-changed (with_resends (e.resends + 1)) leaves i (entries_of n j) ps h (λ p m. left-again e p (eqb-false e.mark 0 q) m))

-- the item of an entry is that of its approval
abbrev item_with : Settings → Field → List ℕ → Field → Field → Field → List ℕ → List ℕ → List Item
item_with x card processing amount trace reference authorisation sixty =
    record { number = 2; field = card }
    ∷ digits 3 processing
    ∷ record { number = 4; field = amount }
    ∷ record { number = 11; field = trace }
    ∷ record { number = 37; field = reference }
    ∷ bytes 38 authorisation
    ∷ bytes 41 x.terminal
    ∷ bytes 42 x.merchant
    ∷ bytes 49 yuan
    ∷ digits 60 sixty
    ∷ []

same_item : (x : Settings) {c c' a a' t t' r r' : Field} {p p' k k' s s' : List ℕ} → c ≡ c' → p ≡ p' → a ≡ a' → t ≡ t' → r ≡ r' → k ≡ k' → s ≡ s'
    → item_with x c p a t r k s ≡ item_with x c' p' a' t' r' k' s'
same_item x c p a t r k s = rw (c, p, a, t, r, k, s)

items_same : (s : Settings) (batch : Batch) (n : ℕ) (e : Entry) (x : Approval) (later : List Approval) → batch.0 ≡ n → IsEntry e x later → Copied e x
    → item_fields s batch e ≡ upload_items s n x
items_same s batch n e x later p h c =
    same_item s c.card_copied (processing_is e.kind ∙ ap processing_for h.kind_is) c.amount_copied c.trace_copied c.reference_copied
    h.authorisation_is (ap (λ (k : ℕ). field60 k batch.0 201) h.kind_is ∙ ap (λ (k : ℕ). field60 (kind_in x.request) k 201) p)

item-reads : (s : Settings) (batch : Batch) (m : List ℕ) (e : Entry) → largest ≤ length m → SettingsHeld s → EntryHeld e
    → Reads 0x0320 (item_fields s batch e) (read_message (handed_out (message_bytes (item_message s batch e)) m))
unfolding item_message
item-reads s batch m e room held entry = sent-reads 0x0320 (item_fields s batch e) m upload-listed (item-held s batch held e entry) room

-- the end of the upload, with the trace that it took
end_reads : (s : Settings) (batch : Batch) (n : ℕ) (m : List ℕ) (trace : Trace) → largest ≤ length m → SettingsHeld s → trace.0 ≤ last_number → batch.0 ≡ n
    → (let b = handed_out (message_bytes (end_message s batch trace)) m in Reads 0x0320 (end_items s n (trace_in (message_in b))) (read_message b))
end_reads s batch n m trace room held most p = management_reads s batch trace _ 0x0320 202 (end_sent s batch m trace held room) most n p

-- what is said of a call's result
pub record Uploaded (l : ℕ) (e : Event) (y : Standing) (xs : List Approval) (u : Upload) (r : Result) : Type 0 where
  pub uploads : Uploads r.state r.lent.journal (when_given l (given_in r) e y xs u)
  pub sends_next : (b : List ℕ) → e ≡ send_next_upload_event → given_in r ≡ history.sent b
      → SendsNext r.state.settings y.batch (next_item xs u.progress) xs b
  pub may_leave : (b : List ℕ) → e ≡ send_next_upload_event → given_in r ≡ history.sent b → (i : ℕ) → next_item xs u.progress ≡ at i
      → MayLeaveAt l i u.progress

module _ (l : ℕ) (y : Standing) (xs : List Approval) (u : Upload) where
  -- a call that sends no upload
  quiet_uploaded : (e : Event) (r : Result) → given_in r ≡ history.quiet → Uploads r.state r.lent.journal (when_given l (given_in r) e y xs u)
      → Uploaded l e y xs u r
  quiet_uploaded e r q h =
      record {
        uploads = h;
        sends_next = λ b p g. let z : ◌≡◌ {A = ℕ} 0 1 = cc in absurd (omega arith);
        may_leave = λ b p g. let z : ◌≡◌ {A = ℕ} 0 1 = cc in absurd (omega arith);
      }

  refused_uploaded : (e : Event) (n : ℕ) (s : State) (lent : Lent) → Uploads s lent.journal u → Uploaded l e y xs u (refused n s lent)
  refused_uploaded e n s lent h =
      record {
        uploads = h;
        sends_next = λ b p g. let z : ◌≡◌ {A = ℕ} 0 1 = cc in absurd (omega arith);
        may_leave = λ b p g. let z : ◌≡◌ {A = ℕ} 0 1 = cc in absurd (omega arith);
      }

  judged_uploaded : (e : Event) (n : ℕ) (s : State) (lent : Lent) (done : Result) → Uploads s lent.journal u
      → (n ≡ 0 → Uploaded l e y xs u done) → Uploaded l e y xs u (judged n s lent done)
  unfolding judged
  judged_uploaded e n s lent done h f = go (eqb n 0) refl
    where
      go : (b : Bool) → eqb n 0 ≡ b → Uploaded l e y xs u (cond b done (refused n s lent))
      go true q = f (eqb-true n 0 q)
      go false q = refused_uploaded e n s lent h

  sent_other : (e : Event) (r : Result) → (e ≡ send_next_upload_event → ⊥) → Uploads r.state r.lent.journal (when_given l (given_in r) e y xs u)
      → Uploaded l e y xs u r
  sent_other e r n h = record { uploads = h; sends_next = λ b p g. absurd (n p); may_leave = λ b p g. absurd (n p) }

  -- the calls that send something else
  send_uploaded : (p : Phase) (s : State) (lent : Lent) → Uploads s lent.journal u → Uploaded l send_reversal_event y xs u (send_from p s lent)
  send_uploaded Resting s lent h = quiet_uploaded send_reversal_event (quiet s lent) refl h
  send_uploaded (Waiting w) s lent h = quiet_uploaded send_reversal_event (quiet s lent) refl h
  send_uploaded (Pending v) s lent h = sent_other send_reversal_event (send_from (Pending v) s lent) (λ p. let z : ◌≡◌ {A = ℕ} 0 1 = cc in omega arith) (record { marks = h.marks; item_is = tt })
  send_uploaded Settling s lent h = quiet_uploaded send_reversal_event (quiet s lent) refl h
  send_uploaded Uploading s lent h = quiet_uploaded send_reversal_event (quiet s lent) refl h

  -- the next item, or the end
  module _ (t : State) (lent : Lent) (a : Account) (tied : Tied l (in_phase Uploading t) a) (d : Stands (in_phase Uploading t) lent.journal y)
      (booked : Booked t lent.journal xs) (exact : EachExact xs) (h : Uploads (in_phase Uploading t) lent.journal u)
      (f : Fit (in_phase Uploading t) lent) where
    abbrev es : List Entry
    es = entries_of t.entries lent.journal

    next-is : (x : Option ℕ) → next_due (due Uploading) es ≡ x → next_item xs u.progress ≡ place_of x
    next-is x e = next_alike es xs u.progress booked h.marks ∙ ap place_of e

    same_sent : (b c : List ℕ) → history.sent b ≡ history.sent c → b ≡ c
    same_sent b c e = cc

    -- a silent one that is not awaited has been sent again fewer than L times
    resent-few : (i : ℕ) → i < length es → (entry_at es i).mark ≡ 1 → (entry_at es i).resends < l
    unfolding keeps_resends keeps_silent
    resent-few i k one =
        let x = entry_at es i in
        let a = every-at (λ i e. keeps_resends t.settings.sendings e) 0 es f.order.journal.resends i k in
        let c = every-at (λ n e. keeps_silent t.settings.sendings (is_at None n) e) 0 es f.order.journal.silent i k in
        let most = leb-true x.resends t.settings.sendings ((and-eq-true_iff (leb x.resends t.settings.sendings) _).0 a).0 in
        let other : x.resends ≡ t.settings.sendings → ⊥ = λ z. true≢false (sym (rw (one, eq-eqb x.resends t.settings.sendings z) at c)) in
        let same = tied.kept.sendings_set in
        omega arith

    item_uploaded : (i : ℕ) → next_due (due Uploading) es ≡ Some i → Uploaded l send_next_upload_event y xs u (sends_next (Some i) (in_phase Uploading t) lent)
    item_uploaded i e =
        let x = entry_at es i in
        let k = (next-at es i e).below in
        let g = in_form_lem x (every-at (λ i e. in_form e) 0 es f.order.journal.form i k) in
        let r = item-reads t.settings t.batch lent.message x f.message_room (settings-held l (in_phase Uploading t) lent a tied f)
        (entry-held t.entries i lent.journal g) in
        let b = handed_out (message_bytes (item_message t.settings t.batch x)) lent.message in
        record {
          uploads = rw (next-is (Some i) e) (record { marks = resent-marks t.entries i lent.journal u.progress h.marks; item_is = refl });
          sends_next =
              λ c p q.
              rw (next-is (Some i) e, ← same_sent b c q)
              (copied-place (λ v. Reads 0x0320 (upload_items t.settings y.batch v) (read_message b)) i es xs booked exact k g.digits_most
              (λ v later w z. rw (items_same t.settings t.batch y.batch x v later d.members.1 w z) at r));
          may_leave =
              λ c p q m z.
              let same : i ≡ m = let w : at i ≡ at m = sym (next-is (Some i) e) ∙ z in cc in
              subst (λ (n : ℕ). MayLeaveAt l n u.progress) same (may_leave-at l i es u.progress h.marks (resent-few i k));
        }

    end_uploaded : next_due (due Uploading) es ≡ None → Uploaded l send_next_upload_event y xs u (sends_next None (in_phase Uploading t) lent)
    end_uploaded e =
        let trace : Trace = record { 0 = taken es t.next.0 } in
        let most = (taken_range es t.next.0 f.order.state.next_least f.order.state.next_most).1 in
        let r = end_reads t.settings t.batch y.batch lent.message trace f.message_room (settings-held l (in_phase Uploading t) lent a tied f) most
        d.members.1 in
        let b = handed_out (message_bytes (end_message t.settings t.batch trace)) lent.message in
        record {
          uploads = rw (next-is None e) (record { marks = h.marks; item_is = tt });
          sends_next = λ c p q. rw (next-is None e, ← same_sent b c q) r;
          may_leave = λ c p q m z. let w : none ≡ at m = sym (next-is None e) ∙ z in let v : ◌≡◌ {A = ℕ} 0 1 = cc in absurd (omega arith);
        }

    next_uploaded : (x : Option ℕ) → next_due (due Uploading) es ≡ x → Uploaded l send_next_upload_event y xs u (sends_next x (in_phase Uploading t) lent)
    next_uploaded (Some i) e = item_uploaded i e
    next_uploaded None e = end_uploaded e

upload_from_lem : (p : Phase) (l : ℕ) (t : State) (lent : Lent) (a : Account) (y : Standing) (xs : List Approval) (u : Upload) → Tied l (in_phase p t) a
    → Stands (in_phase p t) lent.journal y → Booked t lent.journal xs → EachExact xs → Uploads (in_phase p t) lent.journal u → Fit (in_phase p t) lent
    → Uploaded l send_next_upload_event y xs u (upload_from p (in_phase p t) lent)
upload_from_lem Resting l t lent a y xs u tied d b k h f = quiet_uploaded l y xs u send_next_upload_event (quiet (in_phase Resting t) lent) refl h
upload_from_lem (Waiting w) l t lent a y xs u tied d b k h f = quiet_uploaded l y xs u send_next_upload_event (quiet (in_phase (Waiting w) t) lent) refl h
upload_from_lem (Pending v) l t lent a y xs u tied d b k h f = quiet_uploaded l y xs u send_next_upload_event (quiet (in_phase (Pending v) t) lent) refl h
upload_from_lem Settling l t lent a y xs u tied d b k h f = quiet_uploaded l y xs u send_next_upload_event (quiet (in_phase Settling t) lent) refl h
upload_from_lem Uploading l t lent a y xs u tied d b k h f =
    next_uploaded l y xs u t lent a tied d b k h f (next_due (due Uploading) (entries_of t.entries lent.journal)) refl

-- an answer
answered_in_lem : (b : List ℕ) (good : Bool) → (read_message b).outcome ≡ Read → (p : Phase) (s : State) (lent : Lent) (y : Standing) (u : Upload)
    → Fit (in_phase p s) lent → Stands (in_phase p s) lent.journal y → Uploads (in_phase p s) lent.journal u → (not (waits p) || s.chip.approved) ≡ false
    → answers_in p (entries_of s.entries lent.journal) (in_phase p s) (message_in b) ≡ true
    → Left (answered_in p good (message_in b) (in_phase p s) lent.journal) (cond y.awaited (when_heard good (message_in b) y u) u)
answered_in_lem b good r Resting s lent y u f d h w e = absurd (true≢false w)
answered_in_lem b good r (Waiting x) s lent y u f d h w e =
    rw (chosen d.phase_is.0.awaits_is _ _) (heard-uploads b good r (in_phase (Waiting x) s) lent y u x f d h refl e)
answered_in_lem b good r (Pending v) s lent y u f d h w e = absurd (true≢false w)
answered_in_lem b good r Settling s lent y u f d h w e = absurd (true≢false w)
answered_in_lem b good r Uploading s lent y u f d h w e = absurd (true≢false w)

read_uploaded : (o : ReadOutcome) (l : ℕ) (b : List ℕ) (good : Bool) → (read_message b).outcome ≡ o → (s : State) (lent : Lent) (y : Standing) (xs : List Approval)
    (u : Upload) → Fit s lent → Stands s lent.journal y → Uploads s lent.journal u
    → Uploaded l (answers b good) y xs u (read_in o good (message_in b) s lent)
read_uploaded Read l b good r s lent y xs u f d h =
    let rs = answer_rules (message_in b) s lent.journal in
    let done = quietly (heard good (message_in b) s lent.journal) lent in
    judged_uploaded l y xs u (answers b good) (first_broken rs) s lent done h
    (λ z.
    quiet_uploaded l y xs u (answers b good) done refl
    (heard_as (λ c. Left c (cond y.awaited (when_heard good (message_in b) y u) u)) good (message_in b) s lent.journal
    (λ e.
    let k = told-leaves (message_in b) s lent.journal e in
    rw (chosen (still s lent y f d e) _ _) (record { marks = rw k.entries_stay h.marks; item_is = rw k.phase_stays h.item_is }))
    (λ e. let p = plainly (message_in b) s lent.journal z e in answered_in_lem b good r s.phase s lent y u f d h p.0 p.1)))
read_uploaded (Refused n) l b good r s lent y xs u f d h = refused_uploaded l y xs u (answers b good) n s lent h

-- any call
module _ (l : ℕ) (s : State) (lent : Lent) (a : Account) (y : Standing) (xs : List Approval) (u : Upload) (tied : Tied l s a)
    (d : Stands s lent.journal y) (booked : Booked s lent.journal xs) (exact : EachExact xs) (h : Uploads s lent.journal u) where
  silence_uploads : Fit s lent → Left (unanswered s lent.journal) (when_silent l y u)
  silence_uploads f =
      silence_keeps (λ c. Left c (when_silent l y u)) (λ c k. record { marks = k.marks; item_is = k.item_is }) s lent f
      (silent_in_lem l y u s.phase s lent tied.kept.sendings_set f d h)

  pub call_uploaded : (e : Event) → Uploaded l e y xs u (call e s lent)
  unfolding sign_on start answer no_answer power_returned card_agrees card_declines send_reversal settle send_next_upload
  call_uploaded sign_on_event =
      judged_uploaded l y xs u sign_on_event _ s lent _ h
      (λ z. sent_other l y xs u sign_on_event _ (λ p. let q : ◌≡◌ {A = ℕ} 0 1 = cc in omega arith) (record { marks = h.marks; item_is = h.item_is }))
  call_uploaded (starts k b) =
      judged_uploaded l y xs u (starts k b) _ s lent _ h
      (λ z. sent_other l y xs u (starts k b) _ (λ p. let q : ◌≡◌ {A = ℕ} 0 1 = cc in omega arith) (record { marks = h.marks; item_is = tt }))
  call_uploaded (answers b good) =
      judged_uploaded l y xs u (answers b good) (first_broken (rules12 s lent)) s lent (read_in (read_message b).outcome good (message_in b) s lent) h
      (λ z. read_uploaded (read_message b).outcome l b good refl s lent y xs u (fit s lent z) d h)
  call_uploaded no_answer_event =
      let done = quietly (unanswered s lent.journal) lent in
      judged_uploaded l y xs u no_answer_event (first_broken (no_answer_rules s lent)) s lent done h
      (λ z.
      let k = silence_uploads (fit_first s lent _ _ refl z) in
      quiet_uploaded l y xs u no_answer_event done refl (record { marks = k.marks; item_is = k.item_is }))
  call_uploaded power_returned_event =
      let done = without_power (unanswered s lent.journal) lent in
      judged_uploaded l y xs u power_returned_event (first_broken (rules12 s lent)) s lent done h
      (λ z.
      let k = silence_uploads (fit s lent z) in
      quiet_uploaded l y xs u power_returned_event done refl (record { marks = k.marks; item_is = k.item_is }))
  call_uploaded card_agrees_event =
      let done = quietly (agreed_in s.phase s lent.journal) lent in
      let rs = card_rules s lent in
      judged_uploaded l y xs u card_agrees_event (first_broken rs) s lent done h
      (λ z.
      let f = fit_first s lent _ _ refl z in
      let e : s.chip.approved ≡ true = not-false _ (passed 14 rs refl z) in
      let k = agreed_in_lem s.phase s lent u f h e (consent_holds s.phase s.chip f.order.state.chip e).request in
      quiet_uploaded l y xs u card_agrees_event done refl (record { marks = k.marks; item_is = k.item_is }))
  call_uploaded card_declines_event =
      let done = quietly (silent_in s.phase s lent.journal) lent in
      let rs = card_rules s lent in
      judged_uploaded l y xs u card_declines_event (first_broken rs) s lent done h
      (λ z.
      let f = fit_first s lent _ _ refl z in
      let e : s.chip.approved ≡ true = not-false _ (passed 14 rs refl z) in
      let r = (consent_holds s.phase s.chip f.order.state.chip e).request in
      let k = rw (declined-same s.phase l s lent.journal y u d r) at (silent_in_lem l y u s.phase s lent tied.kept.sendings_set f d h) in
      quiet_uploaded l y xs u card_declines_event done refl (record { marks = k.marks; item_is = k.item_is }))
  call_uploaded send_reversal_event =
      judged_uploaded l y xs u send_reversal_event _ s lent (send_from s.phase s lent) h (λ z. send_uploaded l y xs u s.phase s lent h)
  call_uploaded settles =
      judged_uploaded l y xs u settles _ s lent _ h
      (λ z. sent_other l y xs u settles _ (λ p. let q : ◌≡◌ {A = ℕ} 0 1 = cc in omega arith) (record { marks = h.marks; item_is = tt }))
  call_uploaded send_next_upload_event =
      judged_uploaded l y xs u send_next_upload_event (first_broken (send_next_upload_rules s lent)) s lent (upload_from s.phase s lent) h
      (λ z. upload_from_lem s.phase l s lent a y xs u tied d booked exact h (fit_first s lent _ _ refl z))

-- the resends stay at most L
heard-few : (l : ℕ) (good : Bool) (m : Message) (y : Standing) (u : Upload) → EachFew l u.progress → EachFew l (when_heard good m y u).progress
unfolding when_heard
heard-few l good m y u h =
    go (closes_batch y.message m) (is_request y.message && (not (carries_chip y.message) && (approves_request y.message m && mac_good good m))) (is_item y.message)
  where
    go : (a b c : Bool) → EachFew l (cond a (record { progress = []; item = u.item })
        (cond b (record { progress = u.progress ++ (unsent ∷ []); item = u.item }) (cond c (changed is_answered u) u))).progress
    go true b c = tt
    go false true c = few-more l u.progress h
    go false false true = few-changed l is_answered (λ p k. tt) u.item u.progress h
    go false false false = h

silence_few : (l : ℕ) (y : Standing) (u : Upload) → EachFew l u.progress → EachFew l (when_silent l y u).progress
unfolding when_silent
silence_few l y u h = go (y.awaited && is_item y.message)
  where
    go : (b : Bool) → EachFew l (cond b (changed (falls_silent l) u) u).progress
    go true = few-changed l (falls_silent l) (silent-few l) u.item u.progress h
    go false = h

quiet-few : (l : ℕ) (e : Event) (y : Standing) (u : Upload) → EachFew l u.progress → EachFew l (when_quiet l e y u).progress
quiet-few l sign_on_event y u h = h
quiet-few l (starts d b) y u h = h
quiet-few l (answers b good) y u h = either y.awaited
  where
    either : (b' : Bool) → EachFew l (cond b' (when_heard good (message_in b) y u) u).progress
    either true = heard-few l good (message_in b) y u h
    either false = h
quiet-few l no_answer_event y u h = silence_few l y u h
quiet-few l power_returned_event y u h = silence_few l y u h
quiet-few l card_agrees_event y u h = few-more l u.progress h
quiet-few l card_declines_event y u h = h
quiet-few l send_reversal_event y u h = h
quiet-few l settles y u h = h
quiet-few l send_next_upload_event y u h = h

item-few : (l : ℕ) (x : Place) (u : Upload) → ((i : ℕ) → x ≡ at i → MayLeaveAt l i u.progress) → EachFew l u.progress
    → EachFew l (with_item x u).progress
item-few l none u f h = h
item-few l (at i) u f h = few-leaves l i u.progress (f i refl) h

sent-few : (l : ℕ) (e : Event) (xs : List Approval) (u : Upload)
    → (e ≡ send_next_upload_event → (i : ℕ) → next_item xs u.progress ≡ at i → MayLeaveAt l i u.progress) → EachFew l u.progress
    → EachFew l (when_sent e xs u).progress
sent-few l sign_on_event xs u f h = h
sent-few l (starts d b) xs u f h = h
sent-few l (answers b good) xs u f h = h
sent-few l no_answer_event xs u f h = h
sent-few l power_returned_event xs u f h = h
sent-few l card_agrees_event xs u f h = h
sent-few l card_declines_event xs u f h = h
sent-few l send_reversal_event xs u f h = h
sent-few l settles xs u f h = h
sent-few l send_next_upload_event xs u f h = item-few l (next_item xs u.progress) u (f refl) h

pub given-few : (l : ℕ) (g : Given) (e : Event) (y : Standing) (xs : List Approval) (u : Upload)
    → ((b : List ℕ) → e ≡ send_next_upload_event → g ≡ history.sent b → (i : ℕ) → next_item xs u.progress ≡ at i → MayLeaveAt l i u.progress)
    → EachFew l u.progress → EachFew l (when_given l g e y xs u).progress
given-few l (history.sent b) e y xs u f h = sent-few l e xs u (λ p. f b p refl) h
given-few l history.quiet e y xs u f h = quiet-few l e y u h
given-few l (history.refused n) e y xs u f h = h
