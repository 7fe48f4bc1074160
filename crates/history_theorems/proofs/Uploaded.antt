-- The marks of the journal are the progress of the upload, after each call; what an upload sends is the next item.
use Rattle.std.specs.Prelude.{Some, None, Option}
use mathlib.Core.Path.{◌≡◌, refl, sym}
use mathlib.Core.List.{List, [], ◌∷◌, ◌++◌}
use mathlib.Core.Bool.{Bool, true, false, cond, not, ◌&&◌, ◌||◌, and-eq-true_iff, and-false, true≢false}
use Prim.Native.Nat.{ℕ, ◌≤◌}
use native.Mathlib.Omega.{arith}
use lib.Dec.{eqb, leb}
use borrow.Author.Tests.{eqb-true}
use Rattle.field.specs.Bitmap.{names}
use Rattle.message.specs.declared.Message.{Message}
use Rattle.reading.specs.Reading.{read_message, Read}
use Rattle.kinds.specs.Kinds.{is_never_reversed, takes_original}
use Rattle.entry.specs.declared.Entry.{Entry}
use Rattle.journal.specs.Journal.{entries_of, entry_at, original_for, is_at, next_due, with_mark}
use Rattle.journal.proofs.Entries.{set_mark, set-voided}
use Rattle.journal.proofs.Searches.{next-at}
use Rattle.state.specs.declared.Awaited.{Awaited}
use Rattle.state.specs.declared.Awaited.TheVariants as awaited
use Rattle.state.specs.declared.Count.TheVariants as count
use Rattle.state.specs.declared.Phase.{Phase}
use Rattle.state.specs.declared.Phase.TheVariants.{Resting, Waiting, Pending, Settling, Uploading}
use Rattle.state.specs.declared.Reason.TheVariants.{BadMac}
use Rattle.state.specs.declared.Request.{Request}
use Rattle.state.specs.declared.Reversal.{Reversal}
use Rattle.state.specs.declared.Approval.{Approval}
use Rattle.state.specs.declared.State.{State}
use Rattle.state.specs.State.{has_chip, as_sent, approved_by, approval_in, in_phase, with_chip, closed}
use Rattle.state_rules.specs.StateRules.{awaits_request, request_awaited}
use Rattle.state_rules.proofs.Holds.{MayApprove, consent_holds}
use Rattle.state.specs.Calls.{Lent}
use Rattle.rules.specs.Rules.{due}
use Rattle.rules.proofs.InOrder.{Fit}
use Rattle.answer_match.specs.Match as match
use Rattle.answer_match.specs.Match.{is_answer, matches_sent, indicator_sent, holds_named, approves, approves_request, good_mac, approval_holds, ends_reversal}
use Rattle.approval.specs.Approval.{approval_of, approved_entry}
use Rattle.effect_definitions.specs.StateEffects as effects
use Rattle.effect_definitions.specs.StateEffects.{pending_or_unanswered, silence_of, failed, on_reversal, on_settlement, on_end}
use Rattle.effect_definitions.specs.JournalEffects.{Changed, changed, marked, silent_mark, silent, silent_in, voided_at, original_voided, approved, granted, on_request, agreed, agreed_in, on_item, answered}
use Rattle.call_definitions.specs.Answer.{trace_sent}
use Rattle.history.specs.Words.{message_in, kind_in, carries_chip, is_request, is_end, closes_batch}
use Rattle.history.proofs.Sent.{Typed, reversal-typed, settlement_typed, item-typed, end_typed}
use Rattle.history.proofs.Matching.{request_alike, mac_alike, settlement_closes, end_closes, other_closes}
use Rattle.call_theorems.proofs.Approvals.{approval-read}
use Rattle.history.proofs.Approved.{approved-entries}
use Rattle.history_theorems.specs.Standing.{Standing}
use Rattle.history_theorems.specs.Judged.{is_upload}
use Rattle.history_theorems.specs.Uploads as uploads
use Rattle.history_theorems.specs.Uploads.{Progress, unsent, ended, falls_silent, is_answered, change_at, Upload, is_item, when_silent, when_heard}
use Rattle.history_theorems.proofs.Stands.{Stands}
use Rattle.history_theorems.proofs.Progress.{IsMarked, Marks, marks-changed, marks-voided, marks-more}

-- an awaited item is the one that the history says left last
abbrev ItemIn : Awaited → Upload → Type 0
ItemIn (awaited.Request q) u = Unit {0}
ItemIn (awaited.Reversal v) u = Unit {0}
ItemIn (awaited.Settlement t) u = Unit {0}
ItemIn (awaited.Item i) u = u.item ≡ i
ItemIn (awaited.End t) u = Unit {0}

abbrev pub ItemIs : Phase → Upload → Type 0
ItemIs Resting u = Unit {0}
ItemIs (Waiting w) u = ItemIn w u
ItemIs (Pending v) u = Unit {0}
ItemIs Settling u = Unit {0}
ItemIs Uploading u = Unit {0}

pub record Uploads (s : State) (j : List ℕ) (u : Upload) : Type 0 where
  pub marks : Marks (entries_of s.entries j) u.progress
  pub item_is : ItemIs s.phase u

abbrev Left : Changed → Upload → Type 0
Left c u = Uploads c.state c.journal u

-- a mark of an entry, and the progress with it
marked-uploads : (n i x : ℕ) (j : List ℕ) (f : Progress → Progress) (ps : List Progress) → Marks (entries_of n j) ps
    → ((p : Progress) → IsMarked (entry_at (entries_of n j) i) p → IsMarked (with_mark x (entry_at (entries_of n j) i)) (f p))
    → Marks (entries_of n (marked i x j)) (change_at i f ps)
marked-uploads n i x j f ps h k = rw (set_mark n i x j) (marks-changed (with_mark x) f i (entries_of n j) ps h k)

-- silence: 0 becomes 1; 1 stays 1 while the resends are below L, else it is given up
silent-marked : (l : ℕ) (e : Entry) (p : Progress) → IsMarked e p → e.mark ≤ 1 → IsMarked (with_mark (silent_mark l e) e) (falls_silent l p)
unfolding with_mark silent_mark
silent-marked l e unsent h m = rw h.0 (refl, h.1)
silent-marked l e (uploads.silent n) h m = rw (h.0, ← h.1) (go (leb l e.resends))
  where
    go : (b : Bool) → IsMarked (with_mark (cond b 4 1) e) (cond b ended (uploads.silent e.resends))
    go true = omega arith
    go false = (refl, refl)
silent-marked l e ended h m = absurd (omega arith)

-- an awaited item is not decided yet
item_mark : (es : List Entry) (i : ℕ) (f : Option ℕ) → next_due (due Uploading) es ≡ f → is_at f i ≡ true → (entry_at es i).mark ≤ 1
item_mark es i (Some k) e h = rw (eqb-true k i h) at (next-at es k e).mark_most
item_mark es i None e h = absurd (true≢false (sym h))

-- which messages are items
item-said : (m : Message) → Typed false false false false m → m.indicator ≡ 0x0320 → is_item m ≡ true
unfolding is_item is_upload
item-said m k e = rw (k.is_end, e)

request_other : (m : Message) → is_request m ≡ true → is_item m ≡ false
unfolding is_request is_item is_upload
request_other m e = go (eqb 0x0100 m.indicator) (eqb 0x0200 m.indicator) (eqb 0x0220 m.indicator) refl refl refl e
  where
    go : (a b c : Bool) → eqb 0x0100 m.indicator ≡ a → eqb 0x0200 m.indicator ≡ b → eqb 0x0220 m.indicator ≡ c
        → (a || (b || (c || false))) ≡ true → (eqb m.indicator 0x0320 && not (is_end m)) ≡ false
    go true b c p q r e = rw (← eqb-true 0x0100 m.indicator p)
    go false true c p q r e = rw (← eqb-true 0x0200 m.indicator q)
    go false false true p q r e = rw (← eqb-true 0x0220 m.indicator r)
    go false false false p q r e = absurd (true≢false (sym e))

typed_other : (m : Message) (i : ℕ) → m.indicator ≡ i → eqb i 0x0320 ≡ false → is_item m ≡ false
unfolding is_item is_upload
typed_other m i e n = rw (e, n)

end_other : (m : Message) → is_end m ≡ true → is_item m ≡ false
unfolding is_item
end_other m e = rw (e, and-false)

-- silence
module _ (l : ℕ) (y : Standing) (u : Upload) where
  not_item : is_item y.message ≡ false → when_silent l y u ≡ u
  unfolding when_silent
  not_item e = rw (e, and-false)

  not_awaited : y.awaited ≡ false → when_silent l y u ≡ u
  unfolding when_silent
  not_awaited e = rw e

  is_item_lem : y.awaited ≡ true → is_item y.message ≡ true → when_silent l y u ≡ uploads.changed (falls_silent l) u
  unfolding when_silent
  is_item_lem a e = rw (a, e)

  module _ (s : State) (lent : Lent) (same : s.settings.sendings ≡ l) where
    abbrev j : List ℕ
    j = lent.journal

    silent-uploads : (w : Awaited) → Fit (in_phase (Waiting w) s) lent → Stands (in_phase (Waiting w) s) j y → Uploads (in_phase (Waiting w) s) j u
        → Left (silent w s j) (when_silent l y u)
    unfolding silent pending_or_unanswered failed
    silent-uploads (awaited.Request q) f d h = rw (not_item (request_other y.message d.phase_is.1.typed.is_request)) (go (is_never_reversed q.kind))
      where
        go : (b : Bool) → Left (changed (cond b (effects.ended count.Unanswered s)
            (in_phase (Pending (record { request = q; reason = silence_of s; sendings = 0 })) (with_chip (as_sent s.chip) s))) j) u
        go true = record { marks = h.marks; item_is = tt }
        go false = record { marks = h.marks; item_is = tt }
    silent-uploads (awaited.Reversal v) f d h = rw (not_item (typed_other y.message 0x0400 d.phase_is.1.indicator refl)) (go (leb s.settings.sendings v.sendings))
      where
        go : (b : Bool) → Left (changed (cond b (effects.ended count.GivenUp s) (in_phase (Pending v) s)) j) u
        go true = record { marks = h.marks; item_is = tt }
        go false = record { marks = h.marks; item_is = tt }
    silent-uploads (awaited.Settlement t) f d h =
        rw (not_item (typed_other y.message 0x0500 d.phase_is.1.indicator refl)) (record { marks = h.marks; item_is = tt })
    silent-uploads (awaited.Item i) f d h =
        let said = d.phase_is.1 in
        let k = item-typed y.message said.indicator said.code_number in
        rw (is_item_lem d.phase_is.0.awaits_is (item-said y.message k said.indicator), h.item_is, same)
        (record {
          marks =
              marked-uploads s.entries i (silent_mark l (entry_at (entries_of s.entries j) i)) j (falls_silent l) u.progress h.marks
              (λ p m. silent-marked l (entry_at (entries_of s.entries j) i) p m (item_mark (entries_of s.entries j) i _ refl f.order.phase_kept));
          item_is = tt;
        })
    silent-uploads (awaited.End t) f d h =
        let said = d.phase_is.1 in
        rw (not_item (end_other y.message (end_typed y.message said.indicator said.code_number).is_end))
        (record { marks = h.marks; item_is = tt })

  pub silent_in_lem : (p : Phase) (s : State) (lent : Lent) → s.settings.sendings ≡ l → Fit (in_phase p s) lent → Stands (in_phase p s) lent.journal y
      → Uploads (in_phase p s) lent.journal u → Left (silent_in p (in_phase p s) lent.journal) (when_silent l y u)
  silent_in_lem Resting s lent e f d h = rw (not_awaited d.phase_is.awaits_is) h
  silent_in_lem (Waiting w) s lent e f d h = silent-uploads (in_phase (Waiting w) s) lent e w f d h
  silent_in_lem (Pending v) s lent e f d h = rw (not_awaited d.phase_is.awaits_is) h
  silent_in_lem Settling s lent e f d h = rw (not_awaited d.phase_is.awaits_is) h
  silent_in_lem Uploading s lent e f d h = rw (not_awaited d.phase_is.awaits_is) h

-- an approval: the entry of its original keeps its mark, and its own is not sent
voided-marks : (n : ℕ) (q : Request) (j : List ℕ) (ps : List Progress) → Marks (entries_of n j) ps → Marks (entries_of n (original_voided q (entries_of n j) j)) ps
unfolding original_voided
voided-marks n q j ps h = go (takes_original q.kind) (original_for q.kind q.original.0 (entries_of n j))
  where
    go : (b : Bool) (f : Option ℕ) → Marks (entries_of n (cond b (voided_at f j) j)) ps
    go true (Some i) = rw (set-voided n i 1 j) (marks-voided i (entries_of n j) ps h)
    go true None = h
    go false f = h

approved-unsent : (q : Request) (v : Approval) → IsMarked (approved_entry q v) unsent
unfolding approved_entry
approved-unsent q v = (refl, refl)

approved-uploads : (q : Request) (v : Approval) (s : State) (lent : Lent) (u : Upload) → Fit (in_phase (Waiting (awaited.Request q)) s) lent
    → MayApprove q v → Marks (entries_of s.entries lent.journal) u.progress
    → Left (approved q (approved_entry q v) s lent.journal) (record { progress = u.progress ++ (unsent ∷ []); item = u.item })
unfolding approved
approved-uploads q v s lent u f g h =
    let j = lent.journal in
    record {
      marks =
          rw (approved-entries q v s lent f g)
          (marks-more (approved_entry q v) (entries_of s.entries (original_voided q (entries_of s.entries j) j)) u.progress
          (voided-marks s.entries q j u.progress h) (approved-unsent q v));
      item_is = tt;
    }

-- the card's consent
agreed-awaited : (w : Awaited) (s : State) (lent : Lent) (u : Upload) → Fit (in_phase (Waiting w) s) lent → Uploads (in_phase (Waiting w) s) lent.journal u
    → s.chip.approved ≡ true → awaits_request w ≡ true
    → Left (agreed w s lent.journal) (record { progress = u.progress ++ (unsent ∷ []); item = u.item })
unfolding agreed
agreed-awaited (awaited.Request q) s lent u f h e r =
    approved-uploads q (approval_in s.chip) s lent u f (consent_holds (Waiting (awaited.Request q)) s.chip f.order.state.chip e).may h.marks
agreed-awaited (awaited.Reversal v) s lent u f h e r = absurd (true≢false (sym r))
agreed-awaited (awaited.Settlement t) s lent u f h e r = absurd (true≢false (sym r))
agreed-awaited (awaited.Item i) s lent u f h e r = absurd (true≢false (sym r))
agreed-awaited (awaited.End t) s lent u f h e r = absurd (true≢false (sym r))

pub agreed_in_lem : (p : Phase) (s : State) (lent : Lent) (u : Upload) → Fit (in_phase p s) lent → Uploads (in_phase p s) lent.journal u
    → s.chip.approved ≡ true → request_awaited p ≡ true
    → Left (agreed_in p (in_phase p s) lent.journal) (record { progress = u.progress ++ (unsent ∷ []); item = u.item })
agreed_in_lem Resting s lent u f h e r = absurd (true≢false (sym r))
agreed_in_lem (Waiting w) s lent u f h e r = agreed-awaited w (in_phase (Waiting w) s) lent u f h e r
agreed_in_lem (Pending v) s lent u f h e r = absurd (true≢false (sym r))
agreed_in_lem Settling s lent u f h e r = absurd (true≢false (sym r))
agreed_in_lem Uploading s lent u f h e r = absurd (true≢false (sym r))

-- a card that declines is no silent item
declined-awaited : (w : Awaited) (l : ℕ) (s : State) (j : List ℕ) (y : Standing) (u : Upload) → Stands (in_phase (Waiting w) s) j y → awaits_request w ≡ true
    → when_silent l y u ≡ u
declined-awaited (awaited.Request q) l s j y u d r = not_item l y u (request_other y.message d.phase_is.1.typed.is_request)
declined-awaited (awaited.Reversal v) l s j y u d r = absurd (true≢false (sym r))
declined-awaited (awaited.Settlement t) l s j y u d r = absurd (true≢false (sym r))
declined-awaited (awaited.Item i) l s j y u d r = absurd (true≢false (sym r))
declined-awaited (awaited.End t) l s j y u d r = absurd (true≢false (sym r))

pub declined-same : (p : Phase) (l : ℕ) (s : State) (j : List ℕ) (y : Standing) (u : Upload) → Stands (in_phase p s) j y → request_awaited p ≡ true
    → when_silent l y u ≡ u
declined-same Resting l s j y u d r = absurd (true≢false (sym r))
declined-same (Waiting w) l s j y u d r = declined-awaited w l s j y u d r
declined-same (Pending v) l s j y u d r = absurd (true≢false (sym r))
declined-same Settling l s j y u d r = absurd (true≢false (sym r))
declined-same Uploading l s j y u d r = absurd (true≢false (sym r))

-- an accepted answer
module _ (b : List ℕ) (good : Bool) (read : (read_message b).outcome ≡ Read) (s : State) (lent : Lent) (y : Standing) (u : Upload) where
  abbrev a : Message
  a = message_in b

  abbrev journal : List ℕ
  journal = lent.journal

  abbrev Heard : Changed → Type 0
  Heard c = Left c (when_heard good a y u)

  -- to what is neither a card request nor an item and closes nothing
  same-upload : closes_batch y.message a ≡ false → is_request y.message ≡ false → is_item y.message ≡ false → when_heard good a y u ≡ u
  unfolding when_heard
  same-upload c t i = rw (c, t, i)

  request-uploads : (q : Request) → Fit (in_phase (Waiting (awaited.Request q)) s) lent → Typed true false false false y.message
      → kind_in y.message ≡ q.kind → carries_chip y.message ≡ has_chip s.chip → s.phase ≡ Waiting (awaited.Request q) → approval_holds q.kind q.amount a ≡ true
      → Marks (entries_of s.entries journal) u.progress → Heard (on_request good a q s journal)
  unfolding on_request granted when_heard pending_or_unanswered
  request-uploads q f t n m phase k h =
      rw (other_closes t a, t.is_request, m, request_alike y.message n a, mac_alike good a, request_other y.message t.is_request)
      (go (approves_request q.kind a) (good_mac good a) (has_chip s.chip) (is_never_reversed q.kind) refl)
    where
      stays : ItemIs s.phase u
      stays = rw phase tt

      go : (x z c w : Bool) → approves_request q.kind a ≡ x → Left
          (cond x
          (cond z
          (cond c (changed (with_chip (approved_by (approval_of a) s.chip) s) journal) (approved q (approved_entry q (approval_of a)) s journal))
          (changed (cond w (effects.ended count.Unanswered s)
          (in_phase (Pending (record { request = q; reason = BadMac; sendings = 0 })) (with_chip (as_sent s.chip) s))) journal))
          (changed (effects.ended count.Declined s) journal))
          (cond (not c && (x && z)) (record { progress = u.progress ++ (unsent ∷ []); item = u.item }) u)
      go true true true w e = record { marks = h; item_is = stays }
      go true true false w e = approved-uploads q (approval_of a) s lent u f (approval-read b read q f.order.state.phase_form k e) h
      go true false true true e = record { marks = h; item_is = tt }
      go true false true false e = record { marks = h; item_is = tt }
      go true false false true e = record { marks = h; item_is = tt }
      go true false false false e = record { marks = h; item_is = tt }
      go false z true w e = record { marks = h; item_is = tt }
      go false z false w e = record { marks = h; item_is = tt }

  reversal-uploads : (v : Reversal) → Typed false true false false y.message → y.message.indicator ≡ 0x0400
      → Marks (entries_of s.entries journal) u.progress → Heard (changed (on_reversal good a v s) journal)
  unfolding on_reversal failed
  reversal-uploads v t i h =
      rw (same-upload (other_closes t a) t.is_request (typed_other y.message 0x0400 i refl))
      (go (ends_reversal good a) (leb s.settings.sendings v.sendings))
    where
      go : (x z : Bool)
          → Uploads (cond x (effects.ended count.Reversed s) (cond z (effects.ended count.GivenUp s) (in_phase (Pending v) s))) journal u
      go true z = record { marks = h; item_is = tt }
      go false true = record { marks = h; item_is = tt }
      go false false = record { marks = h; item_is = tt }

  closed-uploads : (x : Bool) → closes_batch y.message a ≡ x → is_request y.message ≡ false → is_item y.message ≡ false
      → Marks (entries_of s.entries journal) u.progress → Heard (changed (cond x (closed s) (in_phase Uploading s)) journal)
  unfolding when_heard
  closed-uploads true e t i h = rw e (record { marks = tt; item_is = tt })
  closed-uploads false e t i h = rw (e, t, i) (record { marks = h; item_is = tt })

  -- an item is accepted or rejected
  item-ended : (e : Entry) (p : Progress) (x : Bool) → IsMarked (with_mark (cond x 2 3) e) (is_answered p)
  unfolding with_mark
  item-ended e p true = omega arith
  item-ended e p false = omega arith

  item-uploads : (i : ℕ) → Typed false false false false y.message → y.message.indicator ≡ 0x0320 → u.item ≡ i
      → Marks (entries_of s.entries journal) u.progress → Heard (changed (in_phase Uploading s) (on_item a i journal))
  unfolding when_heard on_item
  item-uploads i t k e h =
      rw (other_closes t a, t.is_request, item-said y.message t k, e)
      (record {
        marks =
            marked-uploads s.entries i (cond (approves a) 2 3) journal is_answered u.progress h
            (λ p m. item-ended (entry_at (entries_of s.entries journal) i) p (approves a));
        item_is = tt;
      })

  pub heard-uploads : (w : Awaited) → Fit (in_phase (Waiting w) s) lent → Stands (in_phase (Waiting w) s) journal y → Uploads (in_phase (Waiting w) s) journal u
      → s.phase ≡ Waiting w → is_answer s.settings s.batch (trace_sent (entries_of s.entries journal) w) w a ≡ true → Heard (answered good a w s journal)
  unfolding answered is_answer on_settlement on_end
  heard-uploads (awaited.Request q) f d h p e =
      let t = (and-eq-true_iff (matches_sent s.settings s.batch (indicator_sent (awaited.Request q)) q.trace a)
      (holds_named (awaited.Request q) a)).0 e in
      let n = (and-eq-true_iff (names a.bitmap 39) (approval_holds q.kind q.amount a)).0 t.1 in
      request-uploads q f d.phase_is.1.typed d.details.says.kind_is d.details.carries p n.1 h.marks
  heard-uploads (awaited.Reversal v) f d h p e =
      let i = d.phase_is.1.indicator in reversal-uploads v (reversal-typed y.message i) i h.marks
  heard-uploads (awaited.Settlement t) f d h p e =
      let i = d.phase_is.1.indicator in
      let k = settlement_typed y.message i in
      closed-uploads (match.closes_batch a) (settlement_closes k a) k.is_request (typed_other y.message 0x0500 i refl) h.marks
  heard-uploads (awaited.Item i) f d h p e =
      let said = d.phase_is.1 in
      item-uploads i (item-typed y.message said.indicator said.code_number) said.indicator h.item_is h.marks
  heard-uploads (awaited.End t) f d h p e =
      let said = d.phase_is.1 in
      let k = end_typed y.message said.indicator said.code_number in
      closed-uploads (approves a) (end_closes k a) k.is_request (end_other y.message k.is_end) h.marks
