-- What settle and sign on send reads back to the words of the history.
use mathlib.Core.Path.{◌≡◌, refl, sym, ap, subst, ◌∙◌}
use mathlib.Core.List.{List}
use mathlib.Core.Bool.{Bool, true, false, cond}
use Prim.Native.Nat.{ℕ, ◌≤◌}
use native.Mathlib.Omega.{arith}
use lib.Dec.{eqb}
use lib.ListN.{length}
use borrow.Author.Tests.{eqb-true}
use Rattle.message.specs.Build.{Item}
use Rattle.message.specs.Message.{largest}
use Rattle.reading.specs.Reading.{read_message}
use Rattle.writing.specs.Writing.{message_bytes}
use Rattle.numbers.specs.Limits.{last_number}
use Rattle.numbers.specs.declared.Batch.{Batch}
use Rattle.numbers.specs.declared.Trace.{Trace}
use Rattle.kinds.specs.declared.Totals.{Totals}
use Rattle.entry.specs.declared.Entry.{Entry}
use Rattle.journal.specs.Journal.{entries_of, taken}
use Rattle.state.specs.declared.Settings.{Settings}
use Rattle.state.specs.declared.State.{State}
use Rattle.state.specs.Calls.{Lent, Result, judged, refused}
use Rattle.checks.specs.Checks.{first_broken}
use Rattle.rules.proofs.InOrder.{Fit}
use Rattle.traces.proofs.Free.{taken_range}
use Rattle.outgoing.specs.Held.{SettingsHeld}
use Rattle.outgoing_theorems.specs.Theorems.{Reads}
use Rattle.batch_messages.specs.BatchMessages.{settlement_fields, settlement_message, sign_on_message}
use Rattle.batch_messages.proofs.Held.{settlement_held, settlement_listed}
use Rattle.call_definitions.specs.SignOn.{sign_on_rules, sign_on_now, sign_on}
use Rattle.call_definitions.specs.Settle.{settle_rules, settle_now, settle}
use Rattle.call_definitions.specs.Events.{Event, sign_on_event, settles, call}
use Rattle.history.specs.Words.{message_in}
use Rattle.history.specs.History as history
use Rattle.history.specs.History.{Request, Account}
use Rattle.history.proofs.Books.{request_sums}
use Rattle.history.proofs.Said.{handed_out, sent-reads}
use Rattle.history.proofs.Settles.{settings-held}
use Rattle.call_definitions.proofs.Quietly.{fit_first}
use Rattle.history.proofs.Tied.{Tied}
use Rattle.history_theorems.specs.Standing.{Standing, trace_in}
use Rattle.history_theorems.specs.Fields.{settlement_items, sign_on_items}
use Rattle.history_theorems.proofs.Stands.{Stands}
use Rattle.history_theorems.proofs.Said.{given_in}
use Rattle.history_theorems.proofs.Sends.{trace-read, sign_on_sent, management_reads}

-- the totals are those of the batch's approved requests, and the trace is the one that it took
settlement_reads : (x : Settings) (batch : Batch) (n : ℕ) (m : List ℕ) (trace : Trace) (t : Totals) (rs : List Request) → largest ≤ length m → SettingsHeld x
    → trace.0 ≤ last_number → batch.0 ≡ n → t ≡ request_sums rs
    → (let b = handed_out (message_bytes (settlement_message x batch trace t)) m in
    Reads 0x0500 (settlement_items x n (trace_in (message_in b)) rs) (read_message b))
unfolding settlement_message
settlement_reads x batch n m trace t rs room held most p e =
    let b = handed_out (message_bytes (settlement_message x batch trace t)) m in
    let r = sent-reads 0x0500 (settlement_fields x batch trace t) m settlement_listed (settlement_held x batch held trace t) room in
    let took = trace-read b 0x0500 (settlement_fields x batch trace t) trace r refl refl most in
    subst (λ (xs : List Item). Reads 0x0500 xs (read_message b))
    (ap (settlement_fields x batch trace) e ∙ ap (λ (k : ℕ). settlement_items x k trace.0 rs) p ∙ ap (λ (k : ℕ). settlement_items x n k rs) (sym took)) r

-- what is sent is what a call sends that its rules let pass
judged-sends : (s : State) (lent : Lent) (n : ℕ) (done : Result) (b : List ℕ) (P : List ℕ → Type 0) → (n ≡ 0 → given_in done ≡ history.sent b → P b)
    → given_in (judged n s lent done) ≡ history.sent b → P b
unfolding judged
judged-sends s lent n done b P f = go (eqb n 0) refl
  where
    go : (t : Bool) → eqb n 0 ≡ t → given_in (cond t done (refused n s lent)) ≡ history.sent b → P b
    go true q g = f (eqb-true n 0 q) g
    go false q g = let z : ◌≡◌ {A = ℕ} 0 1 = cc in absurd (omega arith)

module _ (l : ℕ) (s : State) (lent : Lent) (a : Account) (y : Standing) (tied : Tied l s a) (d : Stands s lent.journal y) where
  -- what settle sends where it gives these bytes
  abbrev ReadsSettled : List ℕ → Type 0
  ReadsSettled b = Reads 0x0500 (settlement_items s.settings y.batch (trace_in (message_in b)) a.requests) (read_message b)

  abbrev es : List Entry
  es = entries_of s.entries lent.journal

  abbrev trace : Trace
  trace = record { 0 = taken es s.next.0 }

  settled-reads : Fit s lent → (b : List ℕ) → given_in (settle_now s trace lent) ≡ history.sent b → ReadsSettled b
  settled-reads f b g =
      let r = settlement_reads s.settings s.batch y.batch lent.message trace s.totals a.requests f.message_room
      (settings-held l s lent a tied f) (taken_range es s.next.0 f.order.state.next_least f.order.state.next_most).1 d.members.1
      tied.kept.books.summed in
      let c = handed_out (message_bytes (settlement_message s.settings s.batch trace s.totals)) lent.message in
      let same : c ≡ b = cc in
      rw same at r

  settle-reads : (b : List ℕ) → given_in (settle s lent) ≡ history.sent b → ReadsSettled b
  unfolding settle
  settle-reads b g =
      judged-sends s lent (first_broken (settle_rules s lent)) (settle_now s trace lent) b ReadsSettled (λ z. settled-reads (fit_first s lent _ _ refl z) b) g

  -- by the event, with the settings under another name
  pub call_settled : (e : Event) (x : Settings) → s.settings ≡ x → (b : List ℕ) → e ≡ settles → given_in (call e s lent) ≡ history.sent b
      → Reads 0x0500 (settlement_items x y.batch (trace_in (message_in b)) a.requests) (read_message b)
  call_settled e x same b p g = rw same at (settle-reads b (rw p at g))

  -- what sign on sends where it gives these bytes
  abbrev ReadsSignOn : List ℕ → Type 0
  ReadsSignOn b = Reads 0x0800 (sign_on_items s.settings y.batch (trace_in (message_in b))) (read_message b)

  sign_on-reads : Fit s lent → (b : List ℕ) → given_in (sign_on_now s trace lent) ≡ history.sent b → ReadsSignOn b
  sign_on-reads f b g =
      let r = management_reads s.settings s.batch trace _ 0x0800 3
      (sign_on_sent s.settings s.batch lent.message trace (settings-held l s lent a tied f) f.message_room)
      (taken_range es s.next.0 f.order.state.next_least f.order.state.next_most).1 y.batch d.members.1 in
      let c = handed_out (message_bytes (sign_on_message s.settings s.batch trace)) lent.message in
      let same : c ≡ b = cc in
      rw same at r

  pub call-signed-on : (e : Event) (x : Settings) → s.settings ≡ x → (b : List ℕ) → e ≡ sign_on_event → given_in (call e s lent) ≡ history.sent b
      → Reads 0x0800 (sign_on_items x y.batch (trace_in (message_in b))) (read_message b)
  unfolding sign_on
  call-signed-on e x same b p g =
      rw same at
      (judged-sends s lent (first_broken (sign_on_rules s lent)) (sign_on_now s trace lent) b ReadsSignOn (λ z. sign_on-reads (fit_first s lent _ _ refl z) b)
      (rw p at g))
