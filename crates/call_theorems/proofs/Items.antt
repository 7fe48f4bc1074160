-- Laws of a terminal in order whose awaited upload item is marked.
use Rattle.std.specs.Prelude.{Some, None, Option}
use mathlib.Core.Path.{◌≡◌, refl, sym, ◌∙◌}
use mathlib.Core.List.{List}
use mathlib.Core.Bool.{Bool, true, false, cond, not, ◌&&◌, ◌||◌, and-eq-true_iff, true≢false}
use Prim.Native.Nat.{ℕ, ◌+◌, ◌≤◌}
use native.Mathlib.Omega.{arith}
use lib.Dec.{leb, eqb}
use borrow.Author.Tests.{ne_eqb, eqb-true, leb-false}
use Rattle.kinds.specs.Kinds.{is_due}
use Rattle.entry.specs.Form.{in_form, keeps_voided, keeps_unmarked, keeps_resends, keeps_silent, due_entry}
use Rattle.entry.specs.declared.Entry.{Entry}
use Rattle.journal.specs.Journal.{entries_of, entry_at, is_at, next_due, with_mark, changed_at}
use Rattle.journal.proofs.Entries.{set_mark, length-set_byte}
use Rattle.journal.proofs.Marks.{mark_form}
use Rattle.journal.proofs.Searches.{next-at, every-at, every-after, every-changed}
use Rattle.journal.proofs.Sums.{mark_totals, totals-changed}
use Rattle.journal.proofs.Traces.{mark_trace, distinct-changed}
use Rattle.state.specs.declared.Awaited.TheVariants as awaited
use Rattle.state.specs.declared.Phase.TheVariants.{Waiting, Uploading}
use Rattle.state.specs.declared.State.{State}
use Rattle.state.specs.State.{in_phase}
use Rattle.state.specs.Calls.{Lent, with_journal}
use Rattle.rules.specs.Rules.{due}
use Rattle.state_rules.proofs.Holds.{chip_stays, no_sign_on_lem, none_over_wait}
use Rattle.rules.proofs.InOrder.{InOrder, Fit}
use Rattle.effect_definitions.specs.JournalEffects.{silent_mark, marked, on_item}
use Rattle.answer_match.specs.Match.{approves}
use Rattle.message.specs.declared.Message.{Message}

-- what rule 2 says of an entry with another mark
module _ (x : ℕ) (e : Entry) where
  mark_voided : keeps_voided (with_mark x e) ≡ keeps_voided e
  unfolding with_mark keeps_voided
  mark_voided = refl

  mark_unmarked : is_due e.kind ≡ true → keeps_unmarked due_entry true (with_mark x e) ≡ true
  unfolding with_mark keeps_unmarked
  mark_unmarked d = rw d

  mark_resends : (l : ℕ) → 1 ≤ x → keeps_resends l e ≡ true → keeps_resends l (with_mark x e) ≡ true
  unfolding with_mark keeps_resends
  mark_resends l h k =
      let a = (and-eq-true_iff (leb e.resends l) (not (eqb e.mark 0) || eqb e.resends 0)).0 k in
      rw (a.0, ne_eqb x 0 (λ z. omega arith))

  mark_silent : (l : ℕ) → (x ≡ 1 → e.resends ≡ l → ⊥) → keeps_silent l false (with_mark x e) ≡ true
  unfolding with_mark keeps_silent
  mark_silent l h = go (eqb x 1) (eqb e.resends l) refl refl
    where
      go : (a b : Bool) → eqb x 1 ≡ a → eqb e.resends l ≡ b → (not (a && b) || false) ≡ true
      go true true p q = absurd (h (eqb-true x 1 p) (eqb-true e.resends l q))
      go true false p q = refl
      go false b p q = refl

-- the awaited item is the next
pub item-next : (f : Option ℕ) (i : ℕ) → is_at f i ≡ true → f ≡ Some i
item-next (Some k) i h = rw (eqb-true k i h)
item-next None i h = absurd (true≢false (sym h))

-- an entry that is not awaited any more
not_item : (l i k : ℕ) (e : Entry) → (k ≡ i → ⊥) → keeps_silent l (is_at (Some i) k) e ≡ true → keeps_silent l false e ≡ true
not_item l i k e n h = rw (ne_eqb i k (λ q. n (sym q))) at h

pub marked-order : (s : State) (es : List Entry) (i x : ℕ) → InOrder (in_phase (Waiting (awaited.Item i)) s) es → 1 ≤ x → x ≤ 4
    → (x ≡ 1 → (entry_at es i).resends ≡ s.settings.sendings → ⊥)
    → InOrder (in_phase Uploading s) (changed_at i (with_mark x) es)
marked-order s es i x h a b c =
    let l = s.settings.sendings in
    let n = next-at es i (item-next (next_due (due Uploading) es) i h.phase_kept) in
    let t = totals-changed (with_mark x) (mark_totals x) i es in
    record {
      state =
          record {
            settings = h.state.settings;
            batch_least = h.state.batch_least;
            batch_most = h.state.batch_most;
            next_least = h.state.next_least;
            next_most = h.state.next_most;
            sent_most = h.state.sent_most;
            phase_form = refl;
            chip = chip_stays (Waiting (awaited.Item i)) Uploading s.chip refl refl h.state.chip;
            sign_on = no_sign_on_lem Uploading s.sign_on (none_over_wait (Waiting (awaited.Item i)) s.sign_on refl h.state.sign_on);
            few = h.state.few;
            balance = h.state.balance;
            approvals = h.state.approvals;
            totals = rw t h.state.totals;
          };
      journal =
          record {
            form =
                every-after (λ m e. in_form e) (λ m e. in_form e) (with_mark x) 0 i es h.journal.form (λ m k o p. p)
                (λ k. mark_form x (entry_at es i) b (every-at (λ m e. in_form e) 0 es h.journal.form i k));
            apart = distinct-changed (with_mark x) (mark_trace x) i es ∙ h.journal.apart;
            voided = every-changed (λ m e. keeps_voided e) (with_mark x) (λ m e. mark_voided x e) i 0 es ∙ h.journal.voided;
            debit_most = rw t h.journal.debit_most;
            credit_most = rw t h.journal.credit_most;
            unmarked =
                every-after (λ m e. keeps_unmarked due_entry true e) (λ m e. keeps_unmarked due_entry true e) (with_mark x) 0 i es h.journal.unmarked (λ m k o p. p)
                (λ k. mark_unmarked x (entry_at es i) n.due);
            resends =
                every-after (λ m e. keeps_resends l e) (λ m e. keeps_resends l e) (with_mark x) 0 i es h.journal.resends (λ m k o p. p)
                (λ k. mark_resends x (entry_at es i) l a (every-at (λ m e. keeps_resends l e) 0 es h.journal.resends i k));
            silent =
                every-after (λ m e. keeps_silent l (is_at (Some i) m) e) (λ m e. keeps_silent l false e) (with_mark x) 0 i es h.journal.silent
                (λ m k o. not_item l i (0 + m) (entry_at es m) (λ q. o (omega arith))) (λ k. mark_silent x (entry_at es i) l c);
          };
      phase_kept = refl;
    }

-- silence: a mark 1 that is left has a resend left
silent-bounds : (l : ℕ) (e : Entry) → (1 ≤ silent_mark l e) × (silent_mark l e ≤ 4)
unfolding silent_mark
silent-bounds l e = go (eqb e.mark 0) (leb l e.resends)
  where
    go : (a b : Bool) → (1 ≤ cond a 1 (cond b 4 1)) × (cond a 1 (cond b 4 1) ≤ 4)
    go true b = (omega arith, omega arith)
    go false true = (omega arith, omega arith)
    go false false = (omega arith, omega arith)

silent-left : (l : ℕ) (e : Entry) → 1 ≤ l → keeps_resends l e ≡ true → silent_mark l e ≡ 1 → e.resends ≡ l → ⊥
unfolding silent_mark keeps_resends
silent-left l e h k =
    go (eqb e.mark 0) (leb l e.resends) refl
    ((and-eq-true_iff (leb e.resends l) (not (eqb e.mark 0) || eqb e.resends 0)).0 k).1
  where
    go : (a b : Bool) → leb l e.resends ≡ b → (not a || eqb e.resends 0) ≡ true
        → ◌≡◌ {A = ℕ} (cond a 1 (cond b 4 1)) 1 → e.resends ≡ l → ⊥
    go true b p r q z = omega (arith, eqb-true e.resends 0 r)
    go false true p r q z = omega arith
    go false false p r q z = omega (arith, leb-false l e.resends p)

-- an item's byte 2, set in the journal
module _ (s : State) (lent : Lent) (i : ℕ) (h : Fit (in_phase (Waiting (awaited.Item i)) s) lent) where
  marked_fit : (x : ℕ) → 1 ≤ x → x ≤ 4 → (x ≡ 1 → (entry_at (entries_of s.entries lent.journal) i).resends ≡ s.settings.sendings → ⊥)
      → Fit (in_phase Uploading s) (with_journal (marked i x lent.journal) lent)
  marked_fit x a b c =
      record {
        message_room = h.message_room;
        journal_room = rw (length-set_byte i 2 x lent.journal) h.journal_room;
        order = rw (set_mark s.entries i x lent.journal) (marked-order s (entries_of s.entries lent.journal) i x h.order a b c);
      }

  pub silent-item :
      Fit (in_phase Uploading s) (with_journal (marked i (silent_mark s.settings.sendings (entry_at (entries_of s.entries lent.journal) i)) lent.journal) lent)
  silent-item =
      let l = s.settings.sendings in
      let es = entries_of s.entries lent.journal in
      let n = next-at es i (item-next (next_due (due Uploading) es) i h.order.phase_kept) in
      let b = silent-bounds l (entry_at es i) in
      marked_fit (silent_mark l (entry_at es i)) b.0 b.1
      (silent-left l (entry_at es i) h.order.state.settings.sendings_least
      (every-at (λ m e. keeps_resends l e) 0 es h.order.journal.resends i n.below))

  pub answered-item : (a : Message) → Fit (in_phase Uploading s) (with_journal (on_item a i lent.journal) lent)
  unfolding on_item
  answered-item a = go (approves a)
    where
      go : (b : Bool) → Fit (in_phase Uploading s) (with_journal (marked i (cond b 2 3) lent.journal) lent)
      go true = marked_fit 2 (omega arith) (omega arith) (λ e. absurd (omega arith))
      go false = marked_fit 3 (omega arith) (omega arith) (λ e. absurd (omega arith))
