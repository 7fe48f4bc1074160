-- A good approval: the entry that is written leaves the terminal in order.
use mathlib.Core.Path.{◌≡◌, refl, ◌∙◌}
use mathlib.Core.List.{List, [], ◌∷◌, ◌++◌}
use mathlib.Core.Bool.{true, false, not, ◌&&◌, and-eq-true_iff}
use Prim.Native.Nat.{ℕ, ◌+◌, ◌*◌, ◌≤◌, ◌<◌}
use native.Mathlib.Numerals.{add-one}
use native.Mathlib.Omega.{arith}
use lib.Dec.{ltb}
use lib.ListN.{length}
use borrow.Author.Tests.{ltb-true, not-true}
use Rattle.numbers.specs.Limits.{largest_total}
use Rattle.entry.specs.Entry.{entry_size}
use Rattle.entry.specs.Theorems.{Shaped}
use Rattle.entry.specs.declared.Entry.{Entry}
use Rattle.entry.proofs.Theorems.{length-encode}
use Rattle.kinds.specs.Totals.{booked}
use Rattle.journal.specs.Journal.{entries_of, totals_of, absent, put_entry}
use Rattle.journal.proofs.Sums.{totals-last}
use Rattle.journal.proofs.Entries.{put_appends, length-put}
use Rattle.state.specs.declared.Approval.{Approval}
use Rattle.state.specs.declared.Request.{Request}
use Rattle.state.specs.declared.Awaited.TheVariants as awaited
use Rattle.state.specs.declared.Phase.TheVariants.{Resting, Waiting}
use Rattle.state.specs.declared.State.{State}
use Rattle.state.specs.State.{in_phase}
use Rattle.state.specs.Calls.{Lent, with_journal}
use Rattle.rules.specs.Rules.{original_unvoided, request_kept}
use Rattle.state_rules.specs.StateRules.{request_in_form, past}
use Rattle.state_rules.proofs.Holds.{request-holds, MayApprove, no_chip_lem, no_sign_on_lem, none_over_wait}
use Rattle.state_rules.proofs.Tests.{past_less}
use Rattle.rules.proofs.InOrder.{InOrder, Fit}
use Rattle.approval.specs.Approval.{approved_entry}
use Rattle.approval.proofs.Approval.{shaped, in_form_lem}
use Rattle.effect_definitions.specs.JournalEffects.{original_voided, approved}
use Rattle.effect_definitions.specs.StateEffects.{one_more}
use Rattle.call_theorems.proofs.Growing.{Plain, KeepsPlain, original-kept, IsNew, plain-last, sums-last}

-- what a journal has left for an awaited request
pub record Left (limit n : ℕ) (es : List Entry) (q : Request) : Type 0 where
  pub place : n < limit
  pub sum : past q.kind q.amount (totals_of es) ≡ false
  pub original : original_unvoided q.kind q.original.0 es ≡ true
  pub free : absent q.trace.0 es ≡ true

pub left : (limit n : ℕ) (es : List Entry) (q : Request) → request_kept limit n es q ≡ true → Left limit n es q
unfolding request_kept
left limit n es q h =
    let o = original_unvoided q.kind q.original.0 es in
    let p = not (past q.kind q.amount (totals_of es)) in
    let a = (and-eq-true_iff (ltb n limit && p && o) (absent q.trace.0 es)).0 h in
    let b = (and-eq-true_iff (ltb n limit && p) o).0 a.0 in
    let c = (and-eq-true_iff (ltb n limit) p).0 b.0 in
    record { place = ltb-true n limit c.0; sum = not-true _ c.1; original = b.1; free = a.1 }

-- the entries of a terminal that awaits a request are outside the upload
plain : (q : Request) (s : State) (es : List Entry) → InOrder (in_phase (Waiting (awaited.Request q)) s) es
    → Plain s.settings.sendings es
plain q s es h =
    record {
      form = h.journal.form;
      voided = h.journal.voided;
      unmarked = h.journal.unmarked;
      resends = h.journal.resends;
      silent = h.journal.silent;
      apart = h.journal.apart;
    }

-- one entry more, in order
more-order : (q : Request) (s : State) (es fs : List Entry) → InOrder (in_phase (Waiting (awaited.Request q)) s) es
    → s.entries < s.settings.limit → Plain s.settings.sendings fs
    → (totals_of fs).debit ≤ largest_total → (totals_of fs).credit ≤ largest_total
    → (kind amount : ℕ) → booked kind amount s.totals ≡ totals_of fs → InOrder (one_more kind amount s) fs
more-order q s es fs h l p d c kind amount t =
    record {
      state =
          record {
            settings = h.state.settings;
            batch_least = h.state.batch_least;
            batch_most = h.state.batch_most;
            next_least = h.state.next_least;
            next_most = h.state.next_most;
            sent_most = h.state.sent_most;
            phase_form = refl;
            chip = no_chip_lem Resting;
            sign_on = no_sign_on_lem Resting s.sign_on (none_over_wait (Waiting (awaited.Request q)) s.sign_on refl h.state.sign_on);
            few = omega arith;
            balance = omega (arith, h.state.balance);
            approvals = omega (arith, h.state.approvals);
            totals = t;
          };
      journal =
          record {
            form = p.form;
            apart = p.apart;
            voided = p.voided;
            debit_most = d;
            credit_most = c;
            unmarked = p.unmarked;
            resends = p.resends;
            silent = p.silent;
          };
      phase_kept = refl;
    }

-- the entry of an approval has the request's values, and no more than its amount
record IsOf (q : Request) (e : Entry) : Type 0 where
  shaped : Shaped e
  new : IsNew e
  kind : e.kind ≡ q.kind
  amount : e.amount ≤ q.amount
  trace : e.trace ≡ q.trace

entry_of : (q : Request) (a : Approval) → request_in_form q ≡ true → MayApprove q a → IsOf q (approved_entry q a)
unfolding approved_entry
entry_of q a f h =
    let w = request-holds q f in
    record {
      shaped = shaped q a h.0;
      new =
          record {
            in_form =
                in_form_lem q a w.kind_listed w.trace_least w.trace_most (h.1.least w.amount_least)
                (omega (arith, h.1.most, w.amount_most)) w.card_least w.card_most h.0;
            unvoided = refl;
            unmarked = refl;
            unsent = refl;
          };
      kind = refl;
      amount = h.1.most;
      trace = refl;
    }

written_fit : (q : Request) (e : Entry) (s : State) (lent : Lent) (k : List ℕ) → Fit (in_phase (Waiting (awaited.Request q)) s) lent → IsOf q e
    → KeepsPlain s.entries s.settings.sendings lent.journal k → Fit (one_more e.kind e.amount s) (with_journal (put_entry s.entries e k) lent)
written_fit q e s lent k h o v =
    let n = s.entries in
    let w = left s.settings.limit n (entries_of n lent.journal) q h.order.phase_kept in
    let es = entries_of n k in
    let f : absent e.trace.0 es ≡ true = rw o.trace (v.absent_same q.trace.0 ∙ w.free) in
    let p : past e.kind e.amount (totals_of es) ≡ false =
    rw (o.kind, v.totals) (past_less q.kind e.amount q.amount _ o.amount w.sum) in
    let t = sums-last es e (rw v.totals h.order.journal.debit_most) (rw v.totals h.order.journal.credit_most) p in
    let r : entry_size * n + entry_size ≤ length k = rw v.room (omega (arith, h.journal_room, w.place)) in
    let y : entries_of (n + 1) (put_entry n e k) ≡ es ++ (e ∷ []) =
    rw (add-one n) (put_appends n e k o.shaped o.new.in_form r) in
    record {
      message_room = h.message_room;
      journal_room = rw (length-put n e k (length-encode e o.shaped), v.room) h.journal_room;
      order =
          rw y
          (more-order q s (entries_of n lent.journal) (es ++ (e ∷ [])) h.order w.place
          (plain-last s.settings.sendings es e v.plain o.new f) t.0 t.1 e.kind e.amount
          (rw (h.order.state.totals, totals-last es e, v.totals)));
    }

pub approved_fit : (q : Request) (a : Approval) (s : State) (lent : Lent) → Fit (in_phase (Waiting (awaited.Request q)) s) lent → MayApprove q a
    → Fit (approved q (approved_entry q a) s lent.journal).state (with_journal (approved q (approved_entry q a) s lent.journal).journal lent)
unfolding approved
approved_fit q a s lent h w =
    written_fit q (approved_entry q a) s lent (original_voided q (entries_of s.entries lent.journal) lent.journal) h
    (entry_of q a h.order.state.phase_form w)
    (original-kept s.entries s.settings.sendings q lent.journal (plain q s (entries_of s.entries lent.journal) h.order))
