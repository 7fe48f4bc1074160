-- The call send next upload keeps rules 1 and 2.
use Rattle.std.specs.Prelude.{Some, None, Option}
use mathlib.Core.Path.{◌≡◌, refl, ◌∙◌}
use mathlib.Core.List.{List}
use mathlib.Core.Bool.{Bool, true, false, cond, not, ◌&&◌, ◌||◌, and-eq-true_iff, or-true}
use Prim.Native.Nat.{ℕ, ◌+◌, ◌≤◌}
use native.Mathlib.Omega.{arith}
use lib.Dec.{leb, eqb}
use borrow.Author.Tests.{eq-eqb, eqb-false, le-leb, leb-true}
use Rattle.numbers.specs.Limits.{last_number}
use Rattle.numbers.specs.Numbers.{following}
use Rattle.kinds.specs.Kinds.{is_due}
use Rattle.writing.specs.Writing.{message_bytes}
use Rattle.numbers.specs.declared.Trace.{Trace}
use Rattle.entry.specs.Form.{in_form, keeps_voided, keeps_unmarked, keeps_resends, keeps_silent, due_entry}
use Rattle.entry.specs.declared.Entry.{Entry}
use Rattle.journal.specs.Journal.{entries_of, entry_at, is_at, due_with, next_due, set_byte, with_resends, changed_at, taken}
use Rattle.journal.proofs.Entries.{set-resends, length-set_byte}
use Rattle.journal.proofs.Marks.{resends-form}
use Rattle.journal.proofs.Searches.{next-at, every-at, every-after, every-changed, every_implies, first-changed}
use Rattle.journal.proofs.Sums.{resends-totals, totals-changed}
use Rattle.journal.proofs.Traces.{resends-trace, distinct-changed}
use Rattle.traces.proofs.Free.{taken_range, following_range}
use Rattle.state.specs.declared.Awaited.TheVariants as awaited
use Rattle.state.specs.declared.Phase.{Phase}
use Rattle.state.specs.declared.Phase.TheVariants.{Resting, Waiting, Pending, Settling, Uploading}
use Rattle.state.specs.declared.State.{State}
use Rattle.state.specs.State.{in_phase}
use Rattle.state.specs.Calls.{Lent, with_journal}
use Rattle.checks.specs.Checks.{first_broken}
use Rattle.checks.proofs.Choices.{passed}
use Rattle.rules.specs.Rules.{due}
use Rattle.state_rules.proofs.Holds.{chip_stays, no_sign_on_lem}
use Rattle.rules.proofs.InOrder.{InOrder, Fit}
use Rattle.call_definitions.specs.SendNextUpload.{sends_next, upload_from, send_next_upload_rules, send_next_upload}
use Rattle.batch_messages.specs.BatchMessages.{item_message, end_message}
use Rattle.effect_definitions.specs.JournalEffects.{resent}
use Rattle.effect_definitions.specs.StateEffects.{ending}
use Rattle.numbers.proofs.Bounds.{within_yes}
use Rattle.call_definitions.proofs.Quietly.{idle}
use Rattle.call_theorems.proofs.Refusing.{Fits, judged-fits, sent-fits}
use Rattle.call_theorems.proofs.Phases.{moved, next_fit}

-- what is kept of an entry that is not awaited is kept of an awaited one
silent-awaited : (l : ℕ) (b : Bool) (e : Entry) → keeps_silent l false e ≡ true → keeps_silent l b e ≡ true
unfolding keeps_silent
silent-awaited l true e h = or-true (not (eqb e.mark 1 && eqb e.resends l))
silent-awaited l false e h = h

-- the awaited item may have been resent L times
silent_here : (l : ℕ) (e : Entry) → keeps_silent l true e ≡ true
unfolding keeps_silent
silent_here l e = or-true (not (eqb e.mark 1 && eqb e.resends l))

-- what rule 2 says of an entry with another number of resends
module _ (x : ℕ) (e : Entry) where
  resends-voided : keeps_voided (with_resends x e) ≡ keeps_voided e
  unfolding with_resends keeps_voided
  resends-voided = refl

  resends-unmarked : is_due e.kind ≡ true → keeps_unmarked due_entry true (with_resends x e) ≡ true
  unfolding with_resends keeps_unmarked
  resends-unmarked d = rw d

  resends-resends : (l : ℕ) → x ≤ l → e.mark ≡ 1 → keeps_resends l (with_resends x e) ≡ true
  unfolding with_resends keeps_resends
  resends-resends l h k = rw (le-leb x l h, k)

  resends-due : (mark : ℕ) → due_with due_entry mark (with_resends x e) ≡ due_with due_entry mark e
  unfolding with_resends due_with
  resends-due mark = refl

-- a resend does not change which entry is next
next-resent : (x i : ℕ) (es : List Entry) → next_due (due Uploading) (changed_at i (with_resends x) es) ≡ next_due (due Uploading) es
unfolding next_due
next-resent x i es =
    rw (
      first-changed (due_with due_entry 0) (with_resends x) (λ e. resends-due x e 0) i 0 es,
      first-changed (due_with due_entry 1) (with_resends x) (λ e. resends-due x e 1) i 0 es,
    )

-- a mark 1 that is not awaited has a resend left
resend_left : (l : ℕ) (e : Entry) → e.mark ≡ 1 → keeps_resends l e ≡ true → keeps_silent l false e ≡ true → e.resends + 1 ≤ l
unfolding keeps_resends keeps_silent
resend_left l e k r h =
    let a = (and-eq-true_iff (leb e.resends l) (not (eqb e.mark 0) || eqb e.resends 0)).0 r in
    go (eqb e.resends l) refl (leb-true e.resends l a.0) (rw k at h)
  where
    go : (b : Bool) → eqb e.resends l ≡ b → e.resends ≤ l → (not b || false) ≡ true → e.resends + 1 ≤ l
    go true q m h = let z : ◌≡◌ {A = ℕ} 0 1 = cc in absurd (omega arith)
    go false q m h = let n = eqb-false e.resends l q in omega arith

-- the next item leaves
module _ (s : State) (lent : Lent) (i : ℕ) (z : s.sign_on.0 ≡ 0) (h : Fit (in_phase Uploading s) lent) (n : next_due (due Uploading) (entries_of s.entries lent.journal) ≡ Some i) where
  -- the first time
  first_fit : Fit (in_phase (Waiting (awaited.Item i)) s) lent
  first_fit =
      let l = s.settings.sendings in
      moved (Waiting (awaited.Item i)) s.chip s.counts (in_phase Uploading s) lent h
      (record {
        sent_same = refl;
        approved_same = refl;
        phase_form = refl;
        chip = chip_stays Uploading (Waiting (awaited.Item i)) s.chip refl refl h.order.state.chip;
        journal =
            record {
              form = h.order.journal.form;
              apart = h.order.journal.apart;
              voided = h.order.journal.voided;
              debit_most = h.order.journal.debit_most;
              credit_most = h.order.journal.credit_most;
              unmarked = h.order.journal.unmarked;
              resends = h.order.journal.resends;
              silent =
                  every_implies (λ k e. keeps_silent l false e) (λ k e. keeps_silent l (is_at (Some i) k) e)
                  (λ k e. silent-awaited l (is_at (Some i) k) e) 0 (entries_of s.entries lent.journal) h.order.journal.silent;
            };
        balance = h.order.state.balance;
        phase_kept = rw n (eq-eqb i i refl);
        alone = z;
      })

  -- once more: byte 3 grows by one, at most to L
  resent-order : (entry_at (entries_of s.entries lent.journal) i).mark ≡ 1
      → InOrder (in_phase (Waiting (awaited.Item i)) s)
      (changed_at i (with_resends ((entry_at (entries_of s.entries lent.journal) i).resends + 1)) (entries_of s.entries lent.journal))
  resent-order k =
      let es = entries_of s.entries lent.journal in
      let e = entry_at es i in
      let x = e.resends + 1 in
      let o = h.order in
      let l = s.settings.sendings in
      let r = next-at es i n in
      let t = totals-changed (with_resends x) (resends-totals x) i es in
      let left = resend_left l e k (every-at (λ k e. keeps_resends l e) 0 es o.journal.resends i r.below)
      (every-at (λ k e. keeps_silent l false e) 0 es o.journal.silent i r.below) in
      record {
        state =
            record {
              settings = o.state.settings;
              batch_least = o.state.batch_least;
              batch_most = o.state.batch_most;
              next_least = o.state.next_least;
              next_most = o.state.next_most;
              sent_most = o.state.sent_most;
              phase_form = refl;
              chip = chip_stays Uploading (Waiting (awaited.Item i)) s.chip refl refl o.state.chip;
              sign_on = no_sign_on_lem (Waiting (awaited.Item i)) s.sign_on z;
              few = o.state.few;
              balance = o.state.balance;
              approvals = o.state.approvals;
              totals = rw t o.state.totals;
            };
        journal =
            record {
              form = every-changed (λ k e. in_form e) (with_resends x) (λ k e. resends-form x e) i 0 es ∙ o.journal.form;
              apart = distinct-changed (with_resends x) (resends-trace x) i es ∙ o.journal.apart;
              voided = every-changed (λ k e. keeps_voided e) (with_resends x) (λ k e. resends-voided x e) i 0 es ∙ o.journal.voided;
              debit_most = rw t o.journal.debit_most;
              credit_most = rw t o.journal.credit_most;
              unmarked =
                  every-after (λ k e. keeps_unmarked due_entry true e) (λ k e. keeps_unmarked due_entry true e) (with_resends x) 0 i es o.journal.unmarked (λ k b d p. p)
                  (λ b. resends-unmarked x e r.due);
              resends =
                  every-after (λ k e. keeps_resends l e) (λ k e. keeps_resends l e) (with_resends x) 0 i es o.journal.resends (λ k b d p. p)
                  (λ b. resends-resends x e l left k);
              silent =
                  every-after (λ k e. keeps_silent l false e) (λ k e. keeps_silent l (is_at (Some i) k) e) (with_resends x) 0 i es o.journal.silent
                  (λ k b d. silent-awaited l (is_at (Some i) (0 + k)) (entry_at es k))
                  (λ b. rw (eq-eqb i (0 + i) (omega arith)) (silent_here l (with_resends x e)));
            };
        phase_kept = rw (next-resent x i es, n) (eq-eqb i i refl);
      }

  again_fit : (entry_at (entries_of s.entries lent.journal) i).mark ≡ 1
      → Fit (in_phase (Waiting (awaited.Item i)) s) (with_journal (set_byte i 3 ((entry_at (entries_of s.entries lent.journal) i).resends + 1) lent.journal) lent)
  again_fit k =
      let x = (entry_at (entries_of s.entries lent.journal) i).resends + 1 in
      record {
        message_room = h.message_room;
        journal_room = rw (length-set_byte i 3 x lent.journal) h.journal_room;
        order = rw (set-resends s.entries i x lent.journal) (resent-order k);
      }

  item_fit : Fit (in_phase (Waiting (awaited.Item i)) s) (with_journal (resent i (entry_at (entries_of s.entries lent.journal) i) lent.journal) lent)
  unfolding resent
  item_fit =
      let es = entries_of s.entries lent.journal in
      go (eqb (entry_at es i).mark 0) refl (next-at es i n).mark_most
    where
      go : (b : Bool) → eqb (entry_at (entries_of s.entries lent.journal) i).mark 0 ≡ b → (entry_at (entries_of s.entries lent.journal) i).mark ≤ 1
          → Fit (in_phase (Waiting (awaited.Item i)) s)
          (with_journal (cond b lent.journal (set_byte i 3 ((entry_at (entries_of s.entries lent.journal) i).resends + 1) lent.journal)) lent)
      go true e k = first_fit
      go false e k = let z = eqb-false (entry_at (entries_of s.entries lent.journal) i).mark 0 e in again_fit (omega arith)

-- the end leaves: no due entry is 0 or 1
end_fit : (s : State) (lent : Lent) (x : Trace) → 1 ≤ x.0 → x.0 ≤ last_number → s.sign_on.0 ≡ 0 → Fit (in_phase Uploading s) lent
    → next_due (due Uploading) (entries_of s.entries lent.journal) ≡ None → Fit (ending s x) lent
end_fit s lent x a b z h n =
    let r = following_range x.0 in
    next_fit (in_phase (Waiting (awaited.End x)) s) lent (record { 0 = following x.0 }) r.0 r.1
    (moved (Waiting (awaited.End x)) s.chip s.counts (in_phase Uploading s) lent h
    (record {
      sent_same = refl;
      approved_same = refl;
      phase_form = within_yes 1 x.0 last_number a b;
      chip = chip_stays Uploading (Waiting (awaited.End x)) s.chip refl refl h.order.state.chip;
      journal = h.order.journal;
      balance = h.order.state.balance;
      phase_kept = rw n;
      alone = z;
    }))

next_fits : (s : State) (lent : Lent) → s.sign_on.0 ≡ 0 → Fit (in_phase Uploading s) lent → (f : Option ℕ) → next_due (due Uploading) (entries_of s.entries lent.journal) ≡ f
    → Fits (sends_next f (in_phase Uploading s) lent)
next_fits s lent z h (Some i) n =
    sent-fits (message_bytes (item_message s.settings s.batch (entry_at (entries_of s.entries lent.journal) i))) _ (with_journal _ lent)
    (item_fit s lent i z h n)
next_fits s lent z h None n =
    let es = entries_of s.entries lent.journal in
    let x : Trace = record { 0 = taken es s.next.0 } in
    let t = taken_range es s.next.0 h.order.state.next_least h.order.state.next_most in
    sent-fits (message_bytes (end_message s.settings s.batch x)) (ending s x) lent (end_fit s lent x t.0 t.1 z h n)

upload_from_lem : (p : Phase) (s : State) (lent : Lent) → s.sign_on.0 ≡ 0 → Fit (in_phase p s) lent → Fits (upload_from p (in_phase p s) lent)
upload_from_lem Resting s lent z h = h
upload_from_lem (Waiting a) s lent z h = h
upload_from_lem (Pending v) s lent z h = h
upload_from_lem Settling s lent z h = h
upload_from_lem Uploading s lent z h = next_fits s lent z h (next_due (due Uploading) (entries_of s.entries lent.journal)) refl

pub upload-fits : (s : State) (lent : Lent) → Fit s lent → Fits (send_next_upload s lent)
unfolding send_next_upload
upload-fits s lent h =
    let rs = send_next_upload_rules s lent in
    judged-fits (first_broken rs) s lent (upload_from s.phase s lent) h
    (λ z. upload_from_lem s.phase s lent (idle s (passed 11 rs refl z)).1 h)
