-- Each new message takes the first trace after the last one taken that no approved request of the batch has.
use Rattle.std.specs.Prelude.{Some, None, Option}
use mathlib.Core.Path.{◌≡◌, refl, sym, ap, ◌∙◌}
use mathlib.Core.List.{List, [], ◌∷◌, ◌++◌}
use mathlib.Core.Bool.{Bool, true, false, cond, not, ◌&&◌, ◌||◌, true≢false}
use Prim.Native.Nat.{ℕ, zero, suc, ◌<◌}
use native.Mathlib.Omega.{arith}
use lib.Dec.{eqb}
use lib.ListN.{length, drop}
use borrow.Author.Tests.{eqb-true, eqb-false}
use Rattle.numbers.specs.Numbers.{following}
use Rattle.entry.specs.declared.Entry.{Entry}
use Rattle.numbers.specs.declared.Trace.{Trace}
use Rattle.journal.specs.Journal.{entries_of, next_due, has_trace, absent, taken, taken_from}
use Rattle.journal.proofs.Entries.{length-entries_le}
use Rattle.journal.proofs.Traces.{absent_more}
use Rattle.traces.proofs.Absent.{absent_none}
use Rattle.traces.proofs.Free.{taken_free, taken_range}
use Rattle.state.specs.declared.Phase.{Phase}
use Rattle.state.specs.declared.Phase.TheVariants.{Resting, Waiting, Pending, Settling, Uploading}
use Rattle.state.specs.declared.State.{State}
use Rattle.state.specs.State.{in_phase}
use Rattle.state.specs.Calls.{Lent, Result, judged, refused, quiet}
use Rattle.checks.specs.Checks.{Rule, first_broken}
use Rattle.rules.specs.Rules.{rules12, due}
use Rattle.rules.proofs.InOrder.{Fit}
use Rattle.desk.specs.declared.Desk.{Desk}
use Rattle.call_definitions.specs.Start.{start}
use Rattle.call_definitions.specs.SignOn.{sign_on_rules, sign_on_now, sign_on}
use Rattle.call_definitions.specs.Settle.{settle_rules, settle_now, settle}
use Rattle.call_definitions.specs.SendNextUpload.{send_next_upload_rules, sends_next, upload_from, send_next_upload}
use Rattle.call_definitions.specs.Events.{Event, sign_on_event, starts, answers, no_answer_event, power_returned_event, card_agrees_event, card_declines_event, send_reversal_event, settles, send_next_upload_event, call}
use Rattle.call_definitions.specs.Shapes.{EventShaped}
use Rattle.history.specs.Words.{message_in, is_reversal}
use Rattle.history.specs.History as history
use Rattle.history.specs.History.{Account}
use Rattle.history.proofs.Settles.{settings-held}
use Rattle.history.proofs.Sent.{reversal-typed, item-typed}
use Rattle.history.proofs.Tied.{Tied}
use Rattle.history_theorems.specs.Standing.{Standing, trace_in, is_new, next}
use Rattle.history_theorems.specs.Approvals.{Approval, AreEntries}
use Rattle.history_theorems.specs.Judged.{Gives, JudgedBy}
use Rattle.history_theorems.specs.Traces.{is_used, after, IsTaken}
use Rattle.history_theorems.proofs.Stands.{Stands}
use Rattle.history_theorems.proofs.Said.{given_in, Said, judged_as}
use Rattle.history_theorems.proofs.Sends.{settlement_trace, sign_on_sent, management_trace, item_goes, end_goes}
use Rattle.history_theorems.proofs.Starts.{rest, done, named_back}
use Rattle.history_theorems.proofs.Booked.{Booked}

-- the search for a free trace: what it passes over stands in the journal
record Walk (es : List Entry) (x t : ℕ) : Type 0 where
  steps : ℕ
  reached : t ≡ after steps x
  used : (k : ℕ) → k < steps → absent (after k x) es ≡ false

after_next : (k x : ℕ) → after k (next x) ≡ after (suc k) x
after_next zero x = refl
after_next (suc k) x = ap next (after_next k x)

following-is : (x : ℕ) → following x ≡ next x
unfolding following next
following-is x = refl

walk : (n : ℕ) (es : List Entry) (x : ℕ) → Walk es x (taken_from n es x)
walk zero es x = record { steps = 0; reached = refl; used = λ k l. absurd (omega arith) }
walk (suc n) es x = go (absent x es) refl (walk n es (following x))
  where
    go : (b : Bool) → absent x es ≡ b → Walk es (following x) (taken_from n es (following x))
        → Walk es x (cond b x (taken_from n es (following x)))
    go true e w = record { steps = 0; reached = refl; used = λ k l. absurd (omega arith) }
    go false e w =
        record { steps = suc w.steps; reached = w.reached ∙ ap (after w.steps) (following-is x) ∙ after_next w.steps x; used = passed }
      where
        passed : (k : ℕ) → k < suc w.steps → absent (after k x) es ≡ false
        passed zero l = e
        passed (suc k) l = rw (following-is x, after_next k x) at (w.used k (omega arith))

-- no entry has a trace exactly where no approved request has it
neither : (a b : Bool) → (not a && not b) ≡ not (a || b)
neither true b = refl
neither false b = refl

used_alike : (t : ℕ) (es : List Entry) (xs : List Approval) → AreEntries es xs → absent t es ≡ not (is_used t xs)
unfolding has_trace
used_alike t [] [] h = absent_none t
used_alike t [] (x ∷ xs) h = absurd h
used_alike t (e ∷ es) [] h = absurd h
used_alike t (e ∷ es) (x ∷ xs) h =
    absent_more t e es ∙ rw (used_alike t es xs h.1, h.0.trace_is) (neither (eqb (trace_in x.request) t) (is_used t xs))

not-false : (b : Bool) → not b ≡ false → b ≡ true
not-false true e = refl
not-false false e = absurd (true≢false e)

not-true : (b : Bool) → not b ≡ true → b ≡ false
not-true true e = absurd (true≢false (sym e))
not-true false e = refl

-- the trace that a terminal takes
module _ (s : State) (lent : Lent) (y : Standing) (xs : List Approval) (f : Fit s lent) (d : Stands s lent.journal y)
    (h : Booked s lent.journal xs) where
  abbrev es : List Entry
  es = entries_of s.entries lent.journal

  takes : IsTaken xs y.taken (taken es s.next.0)
  unfolding taken
  takes =
      let w = walk (length es) es s.next.0 in
      let few = length-entries_le s.entries lent.journal in
      let limit = f.order.state.few in
      let most = f.order.state.settings.limit_most in
      let free = taken_free es s.next.0 f.order.state.next_least f.order.state.next_most (omega arith) in
      record {
        skipped = w.steps;
        reached = w.reached ∙ ap (after w.steps) d.members.3 ∙ after_next w.steps y.taken;
        used =
            λ k l.
            not-false _
            (sym (used_alike (after (suc k) y.taken) es xs h)
            ∙ (rw (d.members.3, after_next k y.taken) at (w.used k l)));
        free = not-true _ (sym (used_alike (taken_from (length es) es s.next.0) es xs h) ∙ free);
      }

-- what is said of a call's result
abbrev pub Traced : Standing → List Approval → Result → Type 0
Traced y xs r =
    (b : List ℕ) → given_in r ≡ history.sent b → is_new (message_in b) ≡ true → IsTaken xs y.taken (trace_in (message_in b))

module _ (y : Standing) (xs : List Approval) where
  -- nothing is sent
  unsent : (r : Result) (k : ℕ) → given_in r ≡ history.refused k → Traced y xs r
  unsent r k e b g n = let z : ◌≡◌ {A = ℕ} 0 1 = cc in absurd (omega arith)

  quiet-traced : (r : Result) → given_in r ≡ history.quiet → Traced y xs r
  quiet-traced r e b g n = let z : ◌≡◌ {A = ℕ} 0 1 = cc in absurd (omega arith)

  -- a message that takes no trace, or this one
  reuses : (r : Result) (b : List ℕ) → given_in r ≡ history.sent b → is_new (message_in b) ≡ false → Traced y xs r
  reuses r b e n c g k = let z : b ≡ c = cc in absurd (true≢false (sym k ∙ rw z at n))

  takes-trace : (r : Result) (b : List ℕ) (t : ℕ) → given_in r ≡ history.sent b → trace_in (message_in b) ≡ t → IsTaken xs y.taken t → Traced y xs r
  takes-trace r b t e q w c g n = let z : b ≡ c = cc in rw (sym (ap (λ (x : List ℕ). trace_in (message_in x)) z) ∙ q) w

  -- a call that gives a quiet change where it is not refused
  judged-quiet : (e : Event) (n : ℕ) (r : Result) → Said e y n r → (Gives e y (given_in r) → given_in r ≡ history.quiet) → Traced y xs r
  judged-quiet e n r d f b g k =
      let one : given_in r ≡ history.refused 1 → ⊥ = λ q. let z : ◌≡◌ {A = ℕ} 0 1 = cc in omega arith in
      let two : given_in r ≡ history.refused 2 → ⊥ = λ q. let z : ◌≡◌ {A = ℕ} 0 1 = cc in omega arith in
      go (d.is_judged one two) (eqb n 0) refl
    where
      go : JudgedBy n e y (given_in r) → (t : Bool) → eqb n 0 ≡ t → IsTaken xs y.taken (trace_in (message_in b))
      go j true q = quiet-traced r (f (j.gives (eqb-true n 0 q))) b g k
      go j false q = unsent r n (j.refuses (eqb-false n 0 q)) b g k

  -- rules 1 and 2, then these
  judged-traced : (s : State) (lent : Lent) (qs : List Rule) (result : Result)
      → (first_broken qs ≡ 0 → first_broken (rules12 s lent ++ qs) ≡ 0 → Fit s lent → Traced y xs result)
      → Traced y xs (judged (first_broken (rules12 s lent ++ qs)) s lent result)
  judged-traced s lent qs result f =
      judged_as (Traced y xs) s lent qs result (unsent (refused 1 s lent) 1 refl) (unsent (refused 2 s lent) 2 refl)
      (λ fits z. unsent (refused (first_broken qs) s lent) (first_broken qs) refl) f

reversal_old : (b : List ℕ) → is_reversal (message_in b) ≡ true → is_new (message_in b) ≡ false
unfolding is_reversal is_new
reversal_old b e =
    let k = reversal-typed (message_in b) (eqb-true (message_in b).indicator 0x0400 e) in
    rw (k.is_request, k.is_settlement, k.is_end, k.is_sign_on)

-- the calls that send
module _ (l : ℕ) (s : State) (lent : Lent) (a : Account) (y : Standing) (xs : List Approval) (tied : Tied l s a)
    (d : Stands s lent.journal y) (h : Booked s lent.journal xs) where
  sign_on-traced : Traced y xs (sign_on s lent)
  unfolding sign_on first_broken
  sign_on-traced =
      let es = entries_of s.entries lent.journal in
      let trace : Trace = record { 0 = taken es s.next.0 } in
      judged-traced y xs s lent (drop 2 (sign_on_rules s lent)) (sign_on_now s trace lent)
      (λ z e f.
      takes-trace y xs (sign_on_now s trace lent) _ trace.0 refl
      (management_trace s.settings s.batch trace _ 0x0800 3
      (sign_on_sent s.settings s.batch lent.message trace (settings-held l s lent a tied f) f.message_room)
      (taken_range es s.next.0 f.order.state.next_least f.order.state.next_most).1) (takes s lent y xs f d h))

  reversal-traced : (n : ℕ) (r : Result) → Said send_reversal_event y n r → Traced y xs r
  reversal-traced n r k b g q =
      let one : given_in r ≡ history.refused 1 → ⊥ = λ u. let z : ◌≡◌ {A = ℕ} 0 1 = cc in omega arith in
      let two : given_in r ≡ history.refused 2 → ⊥ = λ u. let z : ◌≡◌ {A = ℕ} 0 1 = cc in omega arith in
      go (k.is_judged one two) (eqb n 0) refl
    where
      go : JudgedBy n send_reversal_event y (given_in r) → (t : Bool) → eqb n 0 ≡ t → IsTaken xs y.taken (trace_in (message_in b))
      go j true e = let w = rw g at (j.gives (eqb-true n 0 e)) in absurd (true≢false (sym q ∙ reversal_old b w.type_is))
      go j false e = unsent y xs r n (j.refuses (eqb-false n 0 e)) b g q

  start-traced : (k : Desk) (chip : List ℕ) → length k.authorisation ≡ 6 → length k.reference ≡ 12 → Traced y xs (start k chip s lent)
  unfolding start
  start-traced k chip u v =
      judged-traced y xs s lent (rest l s lent a y tied d k chip u v) (done l s lent a y tied d k chip u v)
      (λ z e f.
      takes-trace y xs (done l s lent a y tied d k chip u v) _ (taken (entries_of s.entries lent.journal) s.next.0) refl
      (named_back l s lent a y tied d k chip u v e f).trace_is (takes s lent y xs f d h))

  settle-traced : Traced y xs (settle s lent)
  unfolding settle first_broken
  settle-traced =
      let es = entries_of s.entries lent.journal in
      let trace : Trace = record { 0 = taken es s.next.0 } in
      judged-traced y xs s lent (drop 2 (settle_rules s lent)) (settle_now s trace lent)
      (λ z e f.
      takes-trace y xs (settle_now s trace lent) _ trace.0 refl
      (settlement_trace s.settings s.batch lent.message trace s.totals (settings-held l s lent a tied f) f.message_room
      (taken_range es s.next.0 f.order.state.next_least f.order.state.next_most).1) (takes s lent y xs f d h))

item-traced : (l : ℕ) (t : State) (lent : Lent) (a : Account) (y : Standing) (xs : List Approval) (i : ℕ) → Tied l (in_phase Uploading t) a
    → Stands (in_phase Uploading t) lent.journal y → Fit (in_phase Uploading t) lent
    → next_due (due Uploading) (entries_of t.entries lent.journal) ≡ Some i → Traced y xs (sends_next (Some i) (in_phase Uploading t) lent)
unfolding is_new
item-traced l t lent a y xs i tied d f e =
    let said = (item_goes l t lent a y 0 refl i tied d f e).stands.phase_is.1 in
    let k = item-typed _ said.indicator said.code_number in
    reuses y xs (sends_next (Some i) (in_phase Uploading t) lent) _ refl (rw (k.is_request, k.is_settlement, k.is_end, k.is_sign_on))

next-traced : (x : Option ℕ) (l : ℕ) (t : State) (lent : Lent) (a : Account) (y : Standing) (xs : List Approval)
    → next_due (due Uploading) (entries_of t.entries lent.journal) ≡ x → Tied l (in_phase Uploading t) a
    → Stands (in_phase Uploading t) lent.journal y → Booked t lent.journal xs → Fit (in_phase Uploading t) lent
    → Traced y xs (sends_next x (in_phase Uploading t) lent)
next-traced (Some i) l t lent a y xs e tied d h f = item-traced l t lent a y xs i tied d f e
next-traced None l t lent a y xs e tied d h f =
    takes-trace y xs (sends_next None (in_phase Uploading t) lent) _ (taken (entries_of t.entries lent.journal) t.next.0) refl
    (end_goes l t lent a y 0 refl tied d f).stands.details (takes (in_phase Uploading t) lent y xs f d h)

upload_from_lem : (p : Phase) (l : ℕ) (t : State) (lent : Lent) (a : Account) (y : Standing) (xs : List Approval) → Tied l (in_phase p t) a
    → Stands (in_phase p t) lent.journal y → Booked t lent.journal xs → Fit (in_phase p t) lent → Traced y xs (upload_from p (in_phase p t) lent)
upload_from_lem Resting l t lent a y xs tied d h f = quiet-traced y xs (quiet (in_phase Resting t) lent) refl
upload_from_lem (Waiting w) l t lent a y xs tied d h f = quiet-traced y xs (quiet (in_phase (Waiting w) t) lent) refl
upload_from_lem (Pending v) l t lent a y xs tied d h f = quiet-traced y xs (quiet (in_phase (Pending v) t) lent) refl
upload_from_lem Settling l t lent a y xs tied d h f = quiet-traced y xs (quiet (in_phase Settling t) lent) refl
upload_from_lem Uploading l t lent a y xs tied d h f =
    next-traced (next_due (due Uploading) (entries_of t.entries lent.journal)) l t lent a y xs refl tied d h f

upload-traced : (l : ℕ) (s : State) (lent : Lent) (a : Account) (y : Standing) (xs : List Approval) → Tied l s a
    → Stands s lent.journal y → Booked s lent.journal xs → Traced y xs (send_next_upload s lent)
unfolding send_next_upload first_broken
upload-traced l s lent a y xs tied d h =
    judged-traced y xs s lent (drop 2 (send_next_upload_rules s lent)) (upload_from s.phase s lent)
    (λ z e f. upload_from_lem s.phase l s lent a y xs tied d h f)

-- any call
pub call-traced : (e : Event) (l : ℕ) (s : State) (lent : Lent) (a : Account) (y : Standing) (xs : List Approval) → EventShaped e
    → Tied l s a → Stands s lent.journal y → Booked s lent.journal xs
    → (n : ℕ) → Said e y n (call e s lent) → Traced y xs (call e s lent)
call-traced sign_on_event l s lent a y xs w t d h n k = sign_on-traced l s lent a y xs t d h
call-traced (starts u b) l s lent a y xs w t d h n k = start-traced l s lent a y xs t d h u b w.0 w.1
call-traced (answers b good) l s lent a y xs w t d h n k = judged-quiet y xs (answers b good) _ _ k (λ g. g)
call-traced no_answer_event l s lent a y xs w t d h n k = judged-quiet y xs no_answer_event _ _ k (λ g. g)
call-traced power_returned_event l s lent a y xs w t d h n k = judged-quiet y xs power_returned_event _ _ k (λ g. g)
call-traced card_agrees_event l s lent a y xs w t d h n k = judged-quiet y xs card_agrees_event _ _ k (λ g. g)
call-traced card_declines_event l s lent a y xs w t d h n k = judged-quiet y xs card_declines_event _ _ k (λ g. g)
call-traced send_reversal_event l s lent a y xs w t d h n k = reversal-traced l s lent a y xs t d h _ _ k
call-traced settles l s lent a y xs w t d h n k = settle-traced l s lent a y xs t d h
call-traced send_next_upload_event l s lent a y xs w t d h n k = upload-traced l s lent a y xs t d h
