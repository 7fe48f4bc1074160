-- The call start keeps rules 1 and 2.
use Rattle.std.specs.Prelude.{Some, None, Option}
use mathlib.Core.Path.{◌≡◌, refl, sym, subst}
use mathlib.Core.List.{List}
use mathlib.Core.Bool.{Bool, true, false, cond, not, ◌&&◌, ◌||◌, and-eq-true_iff, true≢false}
use Prim.Native.Nat.{ℕ, ◌-◌, ◌≤◌, ◌<◌}
use native.Mathlib.Omega.{arith}
use lib.Dec.{leb, eqb}
use borrow.Author.Tests.{not-false, eqb-true, leb-false, lt-ltb}
use Rattle.numbers.specs.Limits.{largest_amount, last_number, most_requests}
use Rattle.numbers.specs.Numbers.{within}
use Rattle.digits.proofs.Packed.{number-below}
use Rattle.writing.specs.Writing.{message_bytes}
use Rattle.kinds.specs.Kinds.{is_kind, takes_original, original_kind, sends_chip}
use Rattle.entry.specs.Form.{in_form}
use Rattle.entry.specs.declared.Entry.{Entry}
use Rattle.entry.proofs.Form.{in_form_lem}
use Rattle.numbers.proofs.Bounds.{within-bounds, within_yes}
use Rattle.journal.specs.Journal.{entries_of, entry_at, every, has_trace, is_original, totals_of, absent, taken, nowhere}
use Rattle.journal.proofs.Entries.{length-entries_le}
use Rattle.journal.proofs.Searches.{first_at}
use Rattle.traces.proofs.Free.{taken_free, taken_range, following_range}
use Rattle.state.specs.declared.Awaited.TheVariants as awaited
use Rattle.state.specs.declared.Chip.{Chip}
use Rattle.state.specs.declared.Request.{Request}
use Rattle.state.specs.declared.Phase.{Phase}
use Rattle.state.specs.declared.Phase.TheVariants.{Resting, Waiting, Pending, Settling, Uploading}
use Rattle.state.specs.declared.State.{State}
use Rattle.state.specs.State.{no_chip, chip_of, in_phase, waits, pends, closes}
use Rattle.state.specs.Calls.{Lent}
use Rattle.checks.specs.Checks.{first_broken}
use Rattle.checks.proofs.Choices.{passed}
use Rattle.rules.specs.Rules.{unvoided_at, original_unvoided, request_kept}
use Rattle.state_rules.specs.StateRules.{is_card, request_in_form, past}
use Rattle.rules.proofs.InOrder.{Fit}
use Rattle.state_rules.proofs.Holds.{RequestHolds, card-holds, request_back, ChipHolds, no_chip_lem, no_sign_on_lem}
use Rattle.outgoing.specs.Outgoing.{request_message}
use Rattle.call_definitions.proofs.Refusals.{unbroken}
use Rattle.call_definitions.proofs.Held.{found_for, entry-in_form}
use Rattle.call_definitions.specs.Start.{original_of, entry_of, named_by, start_rules, start}
use Rattle.desk.specs.DeskRules.{sends_field55, chip_from, chip_rules, desk_in_form, request_of}
use Rattle.desk.proofs.Chips.{chip-passed, chip_bytes_lem}
use Rattle.effect_definitions.specs.StateEffects.{requested}
use Rattle.desk.specs.declared.Desk.{Desk}
use Rattle.call_definitions.proofs.Quietly.{idle}
use Rattle.call_theorems.proofs.Refusing.{Fits, judged-fits, sent-fits}

-- a request leaves a resting terminal
requested_fit : (c : Chip) (q : Request) (s : State) (lent : Lent) → s.sign_on.0 ≡ 0 → Fit (in_phase Resting s) lent → request_in_form q ≡ true
    → ChipHolds (Waiting (awaited.Request q)) c
    → request_kept s.settings.limit s.entries (entries_of s.entries lent.journal) q ≡ true → s.counts.sent < most_requests
    → Fit (requested s c q) lent
requested_fit c q s lent z f r y k l =
    let h = f.order.state in
    let n = following_range q.trace.0 in
    record {
      message_room = f.message_room;
      journal_room = f.journal_room;
      order =
          record {
            state =
                record {
                  settings = h.settings;
                  batch_least = h.batch_least;
                  batch_most = h.batch_most;
                  next_least = n.0;
                  next_most = n.1;
                  sent_most = omega arith;
                  phase_form = r;
                  chip = y;
                  sign_on = no_sign_on_lem (Waiting (awaited.Request q)) s.sign_on z;
                  few = h.few;
                  balance = omega (arith, h.balance);
                  approvals = h.approvals;
                  totals = h.totals;
                };
            journal = f.order.journal;
            phase_kept = k;
          };
    }

-- the chip of a request passes 23 and goes with its kind
started-chip : (d : Desk) (b : List ℕ) (e : Entry) (n : ℕ) → first_broken (chip_rules d b) ≡ 0
    → ChipHolds (Waiting (awaited.Request (request_of d e n))) (chip_from d b)
started-chip d b e n h = go (sends_field55 d) refl
  where
    go : (t : Bool) → sends_field55 d ≡ t → ChipHolds (Waiting (awaited.Request (request_of d e n))) (cond t (chip_of b) no_chip)
    go true t =
        record {
          sent = λ y. rw (((and-eq-true_iff d.chip (sends_chip d.kind)).0 t).1, chip_bytes_lem b) (chip-passed d b h t);
          awaited = λ y. absurd (true≢false (sym y));
        }
    go false t = no_chip_lem (Waiting (awaited.Request (request_of d e n)))

-- rules 11, 12 and 13 leave one phase
resting : (p : Phase) → waits p ≡ false → pends p ≡ false → closes p ≡ false → p ≡ Resting
resting Resting a b c = refl
resting (Waiting w) a b c = absurd (true≢false a)
resting (Pending v) a b c = absurd (true≢false b)
resting Settling a b c = absurd (true≢false c)
resting Uploading a b c = absurd (true≢false c)

-- the entry of a void's original: in form, unvoided, and first of its kind and trace
record IsOriginal (d : Desk) (es : List Entry) (e : Entry) : Type 0 where
  is_form : in_form e ≡ true
  trace : e.trace.0 ≡ d.original.0
  left : unvoided_at (original_of d es) es ≡ true

original-trace : (k x : ℕ) (e : Entry) → is_original k x e ≡ true → e.trace.0 ≡ x
unfolding is_original has_trace
original-trace k x e h = eqb-true e.trace.0 x ((and-eq-true_iff (eqb e.kind k) (eqb e.trace.0 x)).0 h).1

original-found : (d : Desk) (es : List Entry) → every (λ i e. in_form e) 0 es ≡ true → (f : Option ℕ) → original_of d es ≡ f
    → nowhere f ≡ false → not (eqb (entry_of f es).voided 0) ≡ false → IsOriginal d es (entry_of f es)
original-found d es h None q n v = absurd (true≢false n)
original-found d es h (Some i) q n v =
    let o = is_original (original_kind d.kind) d.original.0 in
    let f = first_at o 0 es i (found_for d es (Some i) q n) in
    let z : i - 0 ≡ i = omega arith in
    record {
      is_form = entry-in_form d es h (Some i) q n;
      trace = original-trace (original_kind d.kind) d.original.0 (entry_at es i) (rw z at f.holds);
      left = rw q (not-false _ v);
    }

-- what the desk gives is judged: its kind, and its card where the kind takes no original
desk_holds : (d : Desk) → desk_in_form d ≡ true → (is_kind d.kind ≡ true) × ((takes_original d.kind || is_card d.card) ≡ true)
unfolding desk_in_form
desk_holds d h = let t = simp and-eq-true_iff at h in (t.0.0.0.0, t.0.0.0.1)

module _ (d : Desk) (es : List Entry) (e : Entry) (n : ℕ) (least : 1 ≤ n) (most : n ≤ last_number) (kind : is_kind d.kind ≡ true) where
  -- a void has its original's card and amount
  void_holds : takes_original d.kind ≡ true → IsOriginal d es e → RequestHolds (request_of d e n)
  void_holds t o =
      let f = in_form_lem e o.is_form in
      let x = o.trace in
      rw t
      (record {
        kind_listed = kind;
        amount_least = f.amount_least;
        amount_most = f.amount_most;
        card_least = f.digits_least;
        card_most = f.digits_most;
        card_below = number-below e.digits e.card;
        trace_least = least;
        trace_most = most;
        original_form = rw t (within_yes 1 d.original.0 last_number (omega arith) (omega arith));
      })

  -- another kind has the desk's
  desk_request-holds : takes_original d.kind ≡ false → is_card d.card ≡ true → within 1 d.amount largest_amount ≡ true
      → RequestHolds (request_of d e n)
  desk_request-holds t c a =
      let k = card-holds d.card c in
      let w = within-bounds 1 d.amount largest_amount a in
      rw t
      (record {
        kind_listed = kind;
        amount_least = w.0;
        amount_most = w.1;
        card_least = k.least;
        card_most = k.most;
        card_below = k.below;
        trace_least = least;
        trace_most = most;
        original_form = rw t;
      })

  request_of-holds : (takes_original d.kind || is_card d.card) ≡ true
      → (not (takes_original d.kind) && not (within 1 d.amount largest_amount)) ≡ false
      → (takes_original d.kind ≡ true → IsOriginal d es e) → RequestHolds (request_of d e n)
  request_of-holds c a o = go (takes_original d.kind) refl c a
    where
      go : (b : Bool) → takes_original d.kind ≡ b → (b || is_card d.card) ≡ true
          → (not b && not (within 1 d.amount largest_amount)) ≡ false → RequestHolds (request_of d e n)
      go true t c a = void_holds t (o t)
      go false t c a = desk_request-holds t c (not-false _ a)

-- an original is left for a void
original_is-left : (d : Desk) (es : List Entry) (e : Entry) (n : ℕ) → (takes_original d.kind ≡ true → IsOriginal d es e)
    → original_unvoided d.kind (request_of d e n).original.0 es ≡ true
unfolding original_unvoided original_of
original_is-left d es e n o = go (takes_original d.kind) refl
  where
    go : (b : Bool) → takes_original d.kind ≡ b → original_unvoided d.kind (request_of d e n).original.0 es ≡ true
    go true t = rw t (rw t at (o t).left)
    go false t = rw t

kept : (limit n : ℕ) (es : List Entry) (q : Request) → n < limit → past q.kind q.amount (totals_of es) ≡ false
    → original_unvoided q.kind q.original.0 es ≡ true → absent q.trace.0 es ≡ true → request_kept limit n es q ≡ true
unfolding request_kept
kept limit n es q l p o a = rw (lt-ltb n limit l, p, o, a)

or-false : (a b : Bool) → (a || b) ≡ false → (a ≡ false) × (b ≡ false)
or-false true b e = absurd (true≢false e)
or-false false b e = (refl, e)

-- where the first test holds, the second fails
and-false : (a b : Bool) → (a && b) ≡ false → a ≡ true → b ≡ false
and-false a b h e = rw e at h

started-fits : (d : Desk) (b : List ℕ) (s : State) (lent : Lent) (f : Option ℕ) → Fit s lent → original_of d (entries_of s.entries lent.journal) ≡ f
    → first_broken (start_rules d b s (entries_of s.entries lent.journal) (entry_of f (entries_of s.entries lent.journal)) lent) ≡ 0
    → Fit (requested s (chip_from d b) (request_of d (entry_of f (entries_of s.entries lent.journal)) (taken (entries_of s.entries lent.journal) s.next.0))) lent
started-fits d b s lent f h q z =
    let es = entries_of s.entries lent.journal in
    let e = entry_of f es in
    let n = taken es s.next.0 in
    let rs = start_rules d b s es e lent in
    let i = idle s (passed 11 rs refl z) in
    let g = resting s.phase i.0 (passed 12 rs refl z) (passed 13 rs refl z) in
    let desk = desk_holds d (not-false (desk_in_form d) (passed 16 rs refl z)) in
    let full = or-false (leb s.settings.limit s.entries) (leb most_requests s.counts.sent) (passed 18 rs refl z) in
    let o : takes_original d.kind ≡ true → IsOriginal d es e =
    λ t. original-found d es h.order.journal.form f q
    (rw q at (and-false (takes_original d.kind) (nowhere (original_of d es)) (passed 19 rs refl z) t))
    (and-false (takes_original d.kind) (not (eqb e.voided 0)) (passed 20 rs refl z) t) in
    let range = taken_range es s.next.0 h.order.state.next_least h.order.state.next_most in
    let free = taken_free es s.next.0 h.order.state.next_least h.order.state.next_most
    (omega (arith, length-entries_le s.entries lent.journal, h.order.state.few, h.order.state.settings.limit_most)) in
    requested_fit (chip_from d b) (request_of d e n) s lent i.1 (subst (λ (p : Phase). Fit (in_phase p s) lent) g h)
    (request_back (request_of d e n)
    (request_of-holds d es e n range.0 range.1 desk.0 desk.1 (passed 15 rs refl z) o))
    (started-chip d b e n (unbroken d b s e lent z).chip)
    (kept s.settings.limit s.entries es (request_of d e n) (leb-false _ _ full.0) (passed 21 rs refl z)
    (original_is-left d es e n o) free)
    (leb-false _ _ full.1)

pub start_fits : (d : Desk) (b : List ℕ) (s : State) (lent : Lent) → Fit s lent → Fits (start d b s lent)
unfolding start
start_fits d b s lent h =
    let es = entries_of s.entries lent.journal in
    let e = entry_of (original_of d es) es in
    let q = request_of d e (taken es s.next.0) in
    judged-fits (first_broken (start_rules d b s es e lent)) s lent _ h
    (λ z. sent-fits (message_bytes (request_message s.settings s.batch (chip_from d b) q (named_by d s.batch e))) (requested s (chip_from d b) q) lent
    (started-fits d b s lent (original_of d es) h refl z))
