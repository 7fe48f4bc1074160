-- Bytes after the last entry are not changed, but for the entry that an approval writes.
use Rattle.std.specs.Prelude.{Some, None, Option}
use mathlib.Core.Path.{◌≡◌, refl, sym, subst}
use mathlib.Core.List.{List}
use mathlib.Core.Bool.{Bool, true, false, cond, not, ◌&&◌}
use Prim.Native.Nat.{ℕ, ◌+◌, ◌≤◌, ◌<◌}
use native.Mathlib.Omega.{arith}
use lib.Dec.{leb, eqb}
use lib.ListN.{length}
use borrow.Author.Tests.{le-leb, leb-true, eqb-true, not-false}
use Rattle.message.specs.declared.Message.{Message}
use Rattle.reading.specs.Reading.{read_message, ReadOutcome as Judgement, Read, Refused as Unread}
use Rattle.entry.specs.Entry.{entry_size}
use Rattle.entry.specs.Theorems.{Shaped}
use Rattle.entry.specs.declared.Entry.{Entry}
use Rattle.entry.proofs.Theorems.{length-encode}
use Rattle.journal.specs.Journal.{entries_of, entry_at, next_due, set_byte}
use Rattle.journal.proofs.Entries.{length-entries_le, length-put, length-set_byte}
use Rattle.journal.proofs.Searches.{next-at}
use Rattle.state.specs.declared.Awaited.{Awaited}
use Rattle.state.specs.declared.Awaited.TheVariants as awaited
use Rattle.state.specs.declared.Phase.{Phase}
use Rattle.state.specs.declared.Phase.TheVariants.{Resting, Waiting, Pending, Settling, Uploading}
use Rattle.state.specs.declared.Reason.TheVariants.{BadMac}
use Rattle.state.specs.declared.Request.{Request}
use Rattle.state.specs.declared.State.{State}
use Rattle.state.specs.declared.Count.TheVariants.{Declined}
use Rattle.state.specs.State.{has_chip, approved_by, approval_in, with_chip}
use Rattle.state.specs.Calls.{Lent, Result, refused, judged}
use Rattle.checks.specs.Checks.{first_broken}
use Rattle.checks.proofs.Choices.{first-none, passed}
use Rattle.rules.specs.Rules.{rules12, phase_kept, due}
use Rattle.state_rules.proofs.Holds.{ApprovalHolds, consent_holds}
use Rattle.rules.proofs.InOrder.{Fit, fit}
use Rattle.answer_match.specs.Match.{approves_request, good_mac}
use Rattle.approval.specs.Approval.{approval_of, approved_entry}
use Rattle.approval.proofs.Approval.{shaped}
use Rattle.effect_definitions.specs.StateEffects.{ended, pending_or_unanswered, silence_of}
use Rattle.effect_definitions.specs.JournalEffects.{Changed, changed, silent, silent_in, unanswered, heard, answered_in, original_voided, approved, granted, on_request, agreed, agreed_in, on_item, answered, resent}
use Rattle.effect_definitions.proofs.SignOn.{unanswered_as, heard_as}
use Rattle.call_definitions.specs.SignOn.{sign_on}
use Rattle.call_definitions.specs.Start.{start}
use Rattle.call_definitions.specs.Answer.{no_answer, without_power, power_returned, awaits_card, card_rules, card_agrees, card_declines, read_in, answer}
use Rattle.call_definitions.specs.SendReversal.{send_from, send_reversal}
use Rattle.call_definitions.specs.Settle.{settle}
use Rattle.call_definitions.specs.SendNextUpload.{sends_next, upload_from, send_next_upload}
use Rattle.call_definitions.specs.Events.{Event, call, sign_on_event, starts, answers, no_answer_event, power_returned_event, card_agrees_event, card_declines_event, send_reversal_event, settles, send_next_upload_event}
use Rattle.call_theorems.specs.JournalRest.{after, larger, UnusedNotChanged, approves_awaited, approves_in, is_approval, EntriesByApproval}
use Rattle.call_theorems.proofs.Items.{item-next}
use Rattle.call_theorems.proofs.Rest.{answer-shaped, put_after, later-after, set_after, voided-after, voided-length}
use Rattle.call_theorems.proofs.Unwritten.{Few, pending-few, failed-few, reversal-few, settlement_few, end_few, sign_on-few}

-- state and journal after a change that writes at most so many entries
record Kept (most : ℕ) (s : State) (j : List ℕ) (t : State) (k : List ℕ) : Type 0 where
  length_is : length k ≡ length j
  rest-is : after (larger s.entries t.entries) k ≡ after (larger s.entries t.entries) j
  grown : t.entries ≤ s.entries + most

abbrev KeptBy : ℕ → State → List ℕ → Changed → Type 0
KeptBy most s j c = Kept most s j c.state c.journal

abbrev KeptIn : ℕ → State → Lent → Result → Type 0
KeptIn most s lent r = Kept most s lent.journal r.state r.lent.journal

larger-least : (n k : ℕ) → n ≤ larger n k
larger-least n k = go (leb n k) refl
  where
    go : (b : Bool) → leb n k ≡ b → n ≤ cond b k n
    go true e = leb-true n k e
    go false e = omega arith

module _ (s : State) (j : List ℕ) where
  -- no entry is written, and the journal stays or a byte of an entry is changed
  same_kept : {t : State} (most : ℕ) → Few s t → Kept most s j t j
  same_kept most h = record { length_is = refl; rest-is = refl; grown = omega (arith, h.few) }

  stays_kept : (most : ℕ) → Kept most s j s j
  stays_kept most = same_kept most (record { few = omega arith })

  set-kept : {t : State} (most k at x : ℕ) → Few s t → k < s.entries → at < entry_size → Kept most s j t (set_byte k at x j)
  set-kept {t} most k at x h l b =
      record {
        length_is = length-set_byte k at x j;
        rest-is =
            later-after s.entries (larger s.entries t.entries) (set_byte k at x j) j (larger-least s.entries t.entries)
            (set_after s.entries k at x j l b);
        grown = omega (arith, h.few);
      }

  -- the awaited item is an entry
  item-below : (k : ℕ) → phase_kept s.settings s.entries (entries_of s.entries j) (Waiting (awaited.Item k)) ≡ true → k < s.entries
  item-below k h =
      let es = entries_of s.entries j in
      omega (arith, (next-at es k (item-next (next_due (due Uploading) es) k h)).below, length-entries_le s.entries j)

  -- silence
  silent-kept : (w : Awaited) → phase_kept s.settings s.entries (entries_of s.entries j) (Waiting w) ≡ true → KeptBy 0 s j (silent w s j)
  unfolding silent
  silent-kept (awaited.Request q) h = same_kept 0 (pending-few s (silence_of s) q)
  silent-kept (awaited.Reversal v) h = same_kept 0 (failed-few s v)
  silent-kept (awaited.Settlement x) h = same_kept 0 (record { few = omega arith })
  silent-kept (awaited.Item k) h = set-kept 0 k 2 _ (record { few = omega arith }) (item-below k h) (omega arith)
  silent-kept (awaited.End x) h = same_kept 0 (record { few = omega arith })

  silent_in_lem : (p : Phase) → phase_kept s.settings s.entries (entries_of s.entries j) p ≡ true → KeptBy 0 s j (silent_in p s j)
  silent_in_lem Resting h = stays_kept 0
  silent_in_lem (Waiting w) h = silent-kept w h
  silent_in_lem (Pending v) h = stays_kept 0
  silent_in_lem Settling h = stays_kept 0
  silent_in_lem Uploading h = stays_kept 0

  unanswered-kept : phase_kept s.settings s.entries (entries_of s.entries j) s.phase ≡ true → KeptBy 0 s j (unanswered s j)
  unanswered-kept h = unanswered_as (KeptBy 0 s j) s j (λ e. same_kept 0 (record { few = omega arith })) (λ e. silent_in_lem s.phase h)

  -- an answer
  approved-kept : (q : Request) (x : Entry) → Shaped x → KeptBy 1 s j (approved q x s j)
  unfolding approved
  approved-kept q x h =
      let n = s.entries in
      let k = original_voided q (entries_of n j) j in
      let w = length-encode x h in
      record {
        length_is = rw (length-put n x k w) (voided-length n q j (entries_of n j));
        rest-is = rw (le-leb n (n + 1) (omega arith), put_after n x k w) (later-after n (n + 1) k j (omega arith) (voided-after n q j));
        grown = omega arith;
      }

  granted-kept : (q : Request) (a : Message) → KeptBy (cond (not (has_chip s.chip)) 1 0) s j (granted a q s j)
  unfolding granted
  granted-kept q a = go (has_chip s.chip)
    where
      go : (b : Bool) → KeptBy (cond (not b) 1 0) s j
          (cond b (changed (with_chip (approved_by (approval_of a) s.chip) s) j) (approved q (approved_entry q (approval_of a)) s j))
      go true = same_kept 0 (record { few = omega arith })
      go false = approved-kept q (approved_entry q (approval_of a)) (answer-shaped q a)

  request_kept : (q : Request) (good : Bool) (a : Message)
      → KeptBy (cond (approves_request q.kind a && good_mac good a && not (has_chip s.chip)) 1 0) s j (on_request good a q s j)
  unfolding on_request
  request_kept q good a = go (approves_request q.kind a) (good_mac good a)
    where
      go : (x y : Bool) → KeptBy (cond (x && y && not (has_chip s.chip)) 1 0) s j
          (cond x (cond y (granted a q s j) (changed (pending_or_unanswered BadMac q s) j)) (changed (ended Declined s) j))
      go true true = granted-kept q a
      go true false = same_kept 0 (pending-few s BadMac q)
      go false y = same_kept 0 (record { few = omega arith })

  answered_kept : (w : Awaited) (good : Bool) (a : Message) → phase_kept s.settings s.entries (entries_of s.entries j) (Waiting w) ≡ true
      → KeptBy (cond (approves_awaited w good a && not (has_chip s.chip)) 1 0) s j (answered good a w s j)
  unfolding answered on_item
  answered_kept (awaited.Request q) good a h = request_kept q good a
  answered_kept (awaited.Reversal v) good a h = same_kept 0 (reversal-few s good a v)
  answered_kept (awaited.Settlement x) good a h = same_kept 0 (settlement_few s a)
  answered_kept (awaited.Item k) good a h = set-kept 0 k 2 _ (record { few = omega arith }) (item-below k h) (omega arith)
  answered_kept (awaited.End x) good a h = same_kept 0 (end_few s a)

  answered_in_lem : (p : Phase) (good : Bool) (a : Message) → phase_kept s.settings s.entries (entries_of s.entries j) p ≡ true
      → KeptBy (cond (approves_in p good a && not (has_chip s.chip)) 1 0) s j (answered_in p good a s j)
  answered_in_lem Resting good a h = stays_kept 0
  answered_in_lem (Waiting w) good a h = answered_kept w good a h
  answered_in_lem (Pending v) good a h = stays_kept 0
  answered_in_lem Settling good a h = stays_kept 0
  answered_in_lem Uploading good a h = stays_kept 0

  heard-kept : (good : Bool) (a : Message) → phase_kept s.settings s.entries (entries_of s.entries j) s.phase ≡ true
      → KeptBy (cond (approves_in s.phase good a && not (has_chip s.chip)) 1 0) s j (heard good a s j)
  heard-kept good a h =
      heard_as (KeptBy (cond (approves_in s.phase good a && not (has_chip s.chip)) 1 0) s j) good a s j
      (λ e. same_kept _ (sign_on-few s a)) (λ e. answered_in_lem s.phase good a h)

  -- the card's consent
  module _ (c : ApprovalHolds (approval_in s.chip)) where
    agreed-kept : (w : Awaited) → KeptBy 1 s j (agreed w s j)
    unfolding agreed
    agreed-kept (awaited.Request q) = approved-kept q (approved_entry q (approval_in s.chip)) (shaped q (approval_in s.chip) c)
    agreed-kept (awaited.Reversal v) = stays_kept 1
    agreed-kept (awaited.Settlement x) = stays_kept 1
    agreed-kept (awaited.Item k) = stays_kept 1
    agreed-kept (awaited.End x) = stays_kept 1

    agreed_in_lem : (p : Phase) → KeptBy 1 s j (agreed_in p s j)
    agreed_in_lem Resting = stays_kept 1
    agreed_in_lem (Waiting w) = agreed-kept w
    agreed_in_lem (Pending v) = stays_kept 1
    agreed_in_lem Settling = stays_kept 1
    agreed_in_lem Uploading = stays_kept 1

-- the calls
module _ (s : State) (lent : Lent) where
  still : {t : State} → Few s t → Kept 0 s lent.journal t lent.journal
  still h = same_kept s lent.journal 0 h

  judged-kept : (most n : ℕ) (done : Result) → (n ≡ 0 → KeptIn most s lent done) → KeptIn most s lent (judged n s lent done)
  unfolding judged
  judged-kept most n done h = go (eqb n 0) refl
    where
      go : (b : Bool) → eqb n 0 ≡ b → KeptIn most s lent (cond b done (refused n s lent))
      go true e = h (eqb-true n 0 e)
      go false e = stays_kept s lent.journal most

  read_kept : (o : Judgement) (good : Bool) (a : Message) → Fit s lent
      → KeptIn (cond (approves_in s.phase good a && not (has_chip s.chip)) 1 0) s lent (read_in o good a s lent)
  read_kept Read good a h = judged-kept _ _ _ (λ z. heard-kept s lent.journal good a h.order.phase_kept)
  read_kept (Unread n) good a h = stays_kept s lent.journal _

  send_kept : (p : Phase) → KeptIn 0 s lent (send_from p s lent)
  send_kept Resting = still (record { few = omega arith })
  send_kept (Waiting w) = still (record { few = omega arith })
  send_kept (Pending v) = still (record { few = omega arith })
  send_kept Settling = still (record { few = omega arith })
  send_kept Uploading = still (record { few = omega arith })

  resent-kept : {t : State} (k : ℕ) (x : Entry) → Few s t → k < s.entries → Kept 0 s lent.journal t (resent k x lent.journal)
  unfolding resent
  resent-kept {t} k x h l = go (eqb x.mark 0)
    where
      go : (b : Bool) → Kept 0 s lent.journal t (cond b lent.journal (set_byte k 3 (x.resends + 1) lent.journal))
      go true = still h
      go false = set-kept s lent.journal 0 k 3 (x.resends + 1) h l (omega arith)

  next-kept : (f : Option ℕ) → next_due (due Uploading) (entries_of s.entries lent.journal) ≡ f → KeptIn 0 s lent (sends_next f s lent)
  next-kept (Some k) e =
      let es = entries_of s.entries lent.journal in
      resent-kept k (entry_at es k) (record { few = omega arith }) (omega (arith, (next-at es k e).below, length-entries_le s.entries lent.journal))
  next-kept None e = still (record { few = omega arith })

  upload-kept : (p : Phase) → KeptIn 0 s lent (upload_from p s lent)
  upload-kept Resting = still (record { few = omega arith })
  upload-kept (Waiting w) = still (record { few = omega arith })
  upload-kept (Pending v) = still (record { few = omega arith })
  upload-kept Settling = still (record { few = omega arith })
  upload-kept Uploading = next-kept (next_due (due Uploading) (entries_of s.entries lent.journal)) refl

  silent-kept_in : first_broken (rules12 s lent) ≡ 0 → KeptBy 0 s lent.journal (silent_in s.phase s lent.journal)
  silent-kept_in z = silent_in_lem s lent.journal s.phase (fit s lent z).order.phase_kept

  unanswered-kept_in : first_broken (rules12 s lent) ≡ 0 → KeptBy 0 s lent.journal (unanswered s lent.journal)
  unanswered-kept_in z = unanswered-kept s lent.journal (fit s lent z).order.phase_kept

  agreed-kept_in : Fit s lent → awaits_card s ≡ true
      → KeptBy (cond (awaits_card s) 1 0) s lent.journal (agreed_in s.phase s lent.journal)
  agreed-kept_in h y =
      subst (λ (b : Bool). KeptBy (cond b 1 0) s lent.journal (agreed_in s.phase s lent.journal)) (sym y)
      (agreed_in_lem s lent.journal (consent_holds s.phase s.chip h.order.state.chip y).may.0 s.phase)

  call_kept : (e : Event) → KeptIn (cond (is_approval e s) 1 0) s lent (call e s lent)
  unfolding sign_on start answer no_answer power_returned card_agrees card_declines send_reversal settle send_next_upload
  call_kept sign_on_event = judged-kept 0 _ _ (λ z. still (record { few = omega arith }))
  call_kept (starts d b) = judged-kept 0 _ _ (λ z. still (record { few = omega arith }))
  call_kept (answers b good) = judged-kept _ _ _ (λ z. read_kept (read_message b).outcome good (read_message b).message (fit s lent z))
  call_kept no_answer_event = judged-kept 0 _ _ (λ z. unanswered-kept_in (first-none (rules12 s lent) _ refl z))
  call_kept power_returned_event =
      judged-kept 0 _ (without_power (unanswered s lent.journal) lent)
      (λ z. let k = unanswered-kept_in z in
      record { length_is = k.length_is; rest-is = k.rest-is; grown = k.grown })
  call_kept card_agrees_event =
      let rs = card_rules s lent in
      judged-kept _ _ _
      (λ z. agreed-kept_in (fit s lent (first-none (rules12 s lent) _ refl z)) (not-false (awaits_card s) (passed 14 rs refl z)))
  call_kept card_declines_event = judged-kept 0 _ _ (λ z. silent-kept_in (first-none (rules12 s lent) _ refl z))
  call_kept send_reversal_event = judged-kept 0 _ _ (λ z. send_kept s.phase)
  call_kept settles = judged-kept 0 _ _ (λ z. still (record { few = omega arith }))
  call_kept send_next_upload_event = judged-kept 0 _ _ (λ z. upload-kept s.phase)

pub unused_not_changed : UnusedNotChanged
unused_not_changed e s lent = let k = call_kept s lent e in record { length_is = k.length_is; rest-is = k.rest-is }

pub entries_by_approval : EntriesByApproval
entries_by_approval e s lent = (call_kept s lent e).grown
