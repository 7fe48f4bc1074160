-- Sign on, send reversal, settle and send next upload keep the invariant, and give what the history says.
use Rattle.std.specs.Prelude.{Some, Option, None}
use mathlib.Core.Path.{◌≡◌, refl, sym, ap, ◌∙◌}
use mathlib.Core.List.{List, [], ◌∷◌, ◌++◌}
use mathlib.Core.Bool.{Bool, true, false, cond, not, true≢false}
use Prim.Native.Nat.{ℕ, ◌+◌, ◌≤◌, ◌<◌}
use native.Mathlib.Omega.{arith}
use lib.Dec.{eqb}
use lib.ListN.{length, drop}
use Rattle.numbers.specs.declared.Batch.{Batch}
use Rattle.numbers.specs.Limits.{last_number}
use Rattle.numbers.specs.Numbers.{following}
use Rattle.numbers.specs.declared.Trace.{Trace}
use Rattle.digits.specs.Numbers.{digits_of}
use Rattle.digits.proofs.Numbers.{digits_of_digits}
use Rattle.field.specs.Bitmap.{names}
use Rattle.message.specs.Build.{Item, has, digits, bytes, find}
use Rattle.message.specs.Message.{Field, largest, field_of}
use Rattle.message.specs.declared.Message.{Message}
use Rattle.reading.specs.Reading.{read_message, Reading}
use Rattle.writing.specs.Writing.{message_bytes}
use Rattle.entry.specs.Form.{in_form}
use Rattle.entry.specs.declared.Entry.{Entry}
use Rattle.entry.proofs.Form.{in_form_lem}
use Rattle.journal.specs.Journal.{entries_of, entry_at, next_due, set_byte, taken, with_resends}
use Rattle.journal.proofs.Entries.{set-resends}
use Rattle.journal.proofs.Searches.{changed-same, every-at, next-at}
use Rattle.state.specs.declared.Chip.{Chip}
use Rattle.state.specs.declared.Phase.{Phase}
use Rattle.state.specs.declared.Phase.TheVariants.{Resting, Waiting, Pending, Settling, Uploading}
use Rattle.state.specs.declared.Reversal.{Reversal}
use Rattle.state.specs.declared.Settings.{Settings}
use Rattle.state.specs.declared.State.{State}
use Rattle.state.specs.State as state
use Rattle.state.specs.State.{chip_bytes, has_chip, in_phase, took, waits, is_waiting, pends}
use Rattle.state.specs.Calls.{Lent, Result}
use Rattle.checks.specs.Checks.{first_broken}
use Rattle.rules.specs.Rules.{due}
use Rattle.rules.proofs.InOrder.{Fit}
use Rattle.state_rules.proofs.Holds.{reversal-holds}
use Rattle.kinds.specs.declared.Totals.{Totals}
use Rattle.traces.proofs.Free.{taken_range}
use Rattle.outgoing.specs.Held.{CardHeld, SettingsHeld}
use Rattle.outgoing.specs.Outgoing as outgoing
use Rattle.outgoing.specs.Outgoing.{reason_code, reversal_fields, reversal_message}
use Rattle.outgoing.proofs.Leaving.{by_chip, reversal-held, reversal-listed}
use Rattle.outgoing_theorems.specs.Theorems.{Reads}
use Rattle.batch_messages.specs.BatchMessages.{settlement_fields, settlement_message, item_message, management_fields, end_message, sign_on_message}
use Rattle.batch_messages.proofs.Held.{settlement_held, settlement_listed, end_held, upload-listed, sign_on-held, sign_on-listed}
use Rattle.effect_definitions.specs.StateEffects.{asks_sign_on, again}
use Rattle.effect_definitions.specs.JournalEffects.{resent}
use Rattle.call_definitions.specs.SignOn.{sign_on_rules, sign_on_now, sign_on}
use Rattle.call_definitions.specs.SendReversal.{send_reversal_rules, send_from, send_reversal}
use Rattle.call_definitions.specs.Settle.{settle_rules, settle_now, settle}
use Rattle.call_definitions.specs.SendNextUpload.{send_next_upload_rules, sends_next, upload_from, send_next_upload}
use Rattle.call_definitions.specs.Events.{sign_on_event, send_reversal_event, settles, send_next_upload_event}
use Rattle.call_definitions.proofs.Quietly.{idle}
use Rattle.history.specs.Words.{message_in, carries_chip, is_request, is_settlement}
use Rattle.history.specs.History.{Account}
use Rattle.history.proofs.Said.{handed_out, sent-reads, number_read}
use Rattle.history.proofs.Sent.{Typed, reversal-typed, settlement_typed, item-typed, end_typed, sign_on-typed, reversal-says, settlement_settles, item-says, end_says, sign_on-says}
use Rattle.history.proofs.Tied.{Tied}
use Rattle.history.proofs.Starts.{card-held}
use Rattle.history.proofs.Settles.{settings-held, sayable, entry-held}
use Rattle.history_theorems.specs.Standing.{Stage, running, settling, uploading, Standing, trace_in, is_new, next, when_sent, when_asked, SignOn}
use Rattle.history_theorems.specs.Judged.{card_fields, chip_field, NamesJust, EachOf, reversal_pending, uploads, awaits, when_idle, number_of, is_upload}
use Rattle.history_theorems.specs.Fields.{management_items}
use Rattle.history_theorems.proofs.Stands as stands
use Rattle.history_theorems.proofs.Stands.{At, Members, card-read, Stands, unapproved, idle_unapproved, uploaded, still_phase, still_details, pending-is}
use Rattle.history_theorems.proofs.Signs.{Signs, awaits_both}
use Rattle.history_theorems.proofs.Said.{Said, goes, judged-said, same_number}
use Rattle.history_theorems.proofs.Quiet.{flip, never}

-- 10 and 11, then these
pub idle_number : (on waits : Bool) (w : SignOn) (y : Standing) (k n : ℕ) → on ≡ y.signed → waits ≡ awaits w y → (waits ≡ false → k ≡ n)
    → cond (not on) 10 (cond waits 11 k) ≡ when_idle w y n
unfolding when_idle
idle_number on true w y k n e f g = rw (← e, ← f)
idle_number on false w y k n e f g = rw (← e, ← f, g refl)

-- where they pass
pub record Passed (waits : Bool) (k : ℕ) : Type 0 where
  pub waits_not : waits ≡ false
  pub rest : k ≡ 0

pub idle_passed : (on waits : Bool) (k : ℕ) → cond (not on) 10 (cond waits 11 k) ≡ 0 → Passed waits k
idle_passed true true k e = absurd (omega arith)
idle_passed true false k e = record { waits_not = refl; rest = e }
idle_passed false waits k e = absurd (omega arith)

-- a rule that is not broken
kept : (b : Bool) (x : ℕ) → (x ≡ 0 → ⊥) → cond b x 0 ≡ 0 → b ≡ false
kept true x f e = absurd (f e)
kept false x f e = refl

-- a message that is sent is awaited, at its stage
pub sent_at : (m : Message) (y : Standing) (stage : Stage) → cond (is_settlement m) settling y.stage ≡ stage → At true stage (when_sent m y)
sent_at m y stage e = record { awaits_is = refl; stage_is = e }

upload_type : (m : Message) → m.indicator ≡ 0x0320 → is_upload m ≡ true
unfolding is_upload
upload_type m e = rw e

-- field 60 has the number of the batch
pub numbered : (s : State) (y : Standing) {x : Option ℕ} → x ≡ Some s.batch.0 → Members s y → x ≡ Some y.batch
numbered s y e h = e ∙ ap Some h.1

-- what reuses a trace is not counted and takes none
pub sent-members : (s : State) (m : Message) (y : Standing) (end : Bool) → Typed false end false false m → s.chip.approved ≡ false → Members s y
    → Members s (when_sent m y)
unfolding is_new
sent-members s m y end k u h = (h.0, h.1, rw k.is_request h.2, rw (k.is_request, k.is_settlement, k.is_end, k.is_sign_on) h.3, u)

-- a new message that is no card request takes its trace
new-members : (s : State) (m : Message) (y : Standing) (trace : Trace) → is_request m ≡ false → is_new m ≡ true → trace_in m ≡ trace.0 → s.chip.approved ≡ false
    → Members s y → Members (took trace s) (when_sent m y)
unfolding next following
new-members s m y trace e n t u h = (h.0, h.1, rw e h.2, rw (n, t), u)

-- so does a sign-on
asked-members : (s : State) (m : Message) (y : Standing) (trace : Trace) → trace_in m ≡ trace.0 → Members s y → Members (asks_sign_on s trace) (when_asked m y)
unfolding next following
asked-members s m y trace t h = (h.0, h.1, h.2, rw t, h.4)

-- a resend changes neither trace nor kind of the entry
module _ (n i : ℕ) (j : List ℕ) (below : i < length (entries_of n j)) where
  abbrev entry : Entry
  entry = entry_at (entries_of n j) i

  resent-entry : ((entry_at (entries_of n (resent i entry j)) i).trace ≡ entry.trace) × ((entry_at (entries_of n (resent i entry j)) i).kind ≡ entry.kind)
  unfolding resent with_resends
  resent-entry = go (eqb entry.mark 0)
    where
      go : (b : Bool)
          → ((entry_at (entries_of n (cond b j (set_byte i 3 (entry.resends + 1) j))) i).trace ≡ entry.trace)
          × ((entry_at (entries_of n (cond b j (set_byte i 3 (entry.resends + 1) j))) i).kind ≡ entry.kind)
      go true = (refl, refl)
      go false =
          let e = ap (λ (es : List Entry). entry_at es i) (set-resends n i (entry.resends + 1) j)
          ∙ changed-same (with_resends (entry.resends + 1)) i (entries_of n j) below in
          (ap (λ (x : Entry). x.trace) e, ap (λ (x : Entry). x.kind) e)

-- a settlement and the upload's end are new messages, with their traces
settlement_new : (m : Message) → Typed false false true false m → is_new m ≡ true
unfolding is_new
settlement_new m k = rw (k.is_request, k.is_settlement)

end_new : (m : Message) → Typed false false false true m → is_new m ≡ true
unfolding is_new
end_new m k = rw (k.is_request, k.is_settlement, k.is_end)

-- the trace that a message reads back to
pub trace-read : (b : List ℕ) (i : ℕ) (xs : List Item) (trace : Trace) → Reads i xs (read_message b) → has xs 11 ≡ true
    → find xs 11 ≡ (digits 11 (digits_of 6 trace.0)).field → trace.0 ≤ last_number → trace_in (message_in b) ≡ trace.0
unfolding trace_in
trace-read b i xs trace r h f l =
    rw (number_read b i xs r 11 (digits_of 6 trace.0) (omega arith) (omega arith) h f (digits_of_digits 6 trace.0) 0 6 trace.0 (omega arith) refl
    (omega arith) (omega arith))

module _ (x : Settings) (batch : Batch) (m : List ℕ) (trace : Trace) where
  pub settlement_trace : (t : Totals) → SettingsHeld x → largest ≤ length m → trace.0 ≤ last_number
      → trace_in (message_in (handed_out (message_bytes (settlement_message x batch trace t)) m)) ≡ trace.0
  unfolding settlement_message
  settlement_trace t h room l =
      let xs = settlement_fields x batch trace t in
      trace-read _ 0x0500 xs trace (sent-reads 0x0500 xs m settlement_listed (settlement_held x batch h trace t) room) refl refl l

  pub sign_on_sent : SettingsHeld x → largest ≤ length m
      → Reads 0x0800 (management_fields 3 x batch trace) (read_message (handed_out (message_bytes (sign_on_message x batch trace)) m))
  unfolding sign_on_message
  sign_on_sent h room = sent-reads 0x0800 (management_fields 3 x batch trace) m sign_on-listed (sign_on-held x batch h trace) room

  pub end_sent : SettingsHeld x → largest ≤ length m
      → Reads 0x0320 (management_fields 202 x batch trace) (read_message (handed_out (message_bytes (end_message x batch trace)) m))
  unfolding end_message
  end_sent h room = sent-reads 0x0320 (management_fields 202 x batch trace) m upload-listed (end_held x batch h trace) room

-- a sign-on and the upload's end, in the words of the history
module _ (x : Settings) (batch : Batch) (trace : Trace) (b : List ℕ) (i code : ℕ) (r : Reads i (management_fields code x batch trace) (read_message b))
    (most : trace.0 ≤ last_number) where
  pub management_trace : trace_in (message_in b) ≡ trace.0
  management_trace = trace-read b i (management_fields code x batch trace) trace r refl refl most

  pub management_reads : (n : ℕ) → batch.0 ≡ n → Reads i (management_items code x n (trace_in (message_in b))) (read_message b)
  management_reads n e = rw (management_trace, ← e) r

-- a reversal reads back to its fields
reversal-reads : (x : Settings) (batch : Batch) (m : List ℕ) (c : Chip) (v : Reversal) → CardHeld x c v.request → largest ≤ length m
    → Reads 0x0400 (reversal_fields x batch c v) (read_message (handed_out (message_bytes (reversal_message x batch c v)) m))
unfolding reversal_message
reversal-reads x batch m c v h r = sent-reads 0x0400 (reversal_fields x batch c v) m reversal-listed (reversal-held x batch c v h) r

-- its reason
reason-said : (x : Settings) (batch : Batch) (c : Chip) (v : Reversal) (r : Reading) → Reads 0x0400 (reversal_fields x batch c v) r
    → field_of r.message 39 ≡ (bytes 39 (reason_code v.reason)).field
reason-said x batch c v r h =
    by_chip
    (λ ys. Reads 0x0400 ((outgoing.plain_fields x batch c v.request ++ ys) ++ (bytes 39 (reason_code v.reason) ∷ [])) r
    → field_of r.message 39 ≡ (bytes 39 (reason_code v.reason)).field)
    c (λ e h. h.fields 39 refl) (λ e h. h.fields 39 refl) h

-- the fields that it names: those of its request, with a chip 55, and 39
reversal-names : (x : Settings) (batch : Batch) (c : Chip) (v : Reversal) (request m : Message) → carries_chip request ≡ has_chip c
    → ((n : ℕ) → 0 < n → n ≤ 64 → names m.bitmap n ≡ has (reversal_fields x batch c v) n)
    → NamesJust (card_fields ++ (chip_field request ++ (39 ∷ []))) m
reversal-names x batch c v request m e r = rw e (go (has_chip c) r)
  where
    go : (b : Bool)
        → ((n : ℕ) → 0 < n → n ≤ 64
        → names m.bitmap n
        ≡ has ((outgoing.plain_fields x batch c v.request ++ cond b (bytes 55 (chip_bytes c) ∷ []) []) ++ (bytes 39 (reason_code v.reason) ∷ [])) n)
        → NamesJust (card_fields ++ (cond b (55 ∷ []) [] ++ (39 ∷ []))) m
    go true r = r
    go false r = r

-- two messages that hold the same
each_same : (ns : List ℕ) (m r : Message) (f : ℕ → Field) → EachOf (λ n. field_of m n ≡ f n) ns → EachOf (λ n. field_of r n ≡ f n) ns
    → EachOf (λ n. field_of m n ≡ field_of r n) ns
each_same [] m r f a b = tt
each_same (n ∷ ns) m r f a b = (a.0 ∙ sym b.0, each_same ns m r f a.1 b.1)

-- what is sent, by the phase
module _ (l : ℕ) (t : State) (lent : Lent) (a : Account) (y : Standing) (n : ℕ) (none : n ≡ 0) where
  reversal_goes : (p : Phase) → Tied l (in_phase p t) a → Stands (in_phase p t) lent.journal y → Fit (in_phase p t) lent → not (pends p) ≡ false
      → Said send_reversal_event y n (send_from p (in_phase p t) lent)
  reversal_goes Resting tied h f w = absurd (true≢false w)
  reversal_goes (Waiting x) tied h f w = absurd (true≢false w)
  reversal_goes (Pending v) tied h f w =
      let b = handed_out (message_bytes (reversal_message t.settings t.batch t.chip (again v))) lent.message in
      let held = card-held l t lent a v tied f in
      let said = reversal-says t.settings t.batch lent.message f.message_room f.order.state.batch_most t.chip (again v) held
      (reversal-holds v f.order.state.phase_form) in
      let k = reversal-typed (message_in b) said.indicator in
      let r = reversal-reads t.settings t.batch lent.message t.chip (again v) held f.message_room in
      let card = card-read t.settings t.batch t.chip v.request 0x0400 (bytes 39 (reason_code v.reason) ∷ []) _ refl r in
      goes send_reversal_event y n (send_from (Pending v) (in_phase (Pending v) t) lent) none
      (record {
        members = sent-members t (message_in b) y true k (unapproved (Pending v) t.chip f.order.state.chip refl) h.members;
        phase_is = (sent_at (message_in b) y running (rw k.is_settlement h.phase_is.stage_is), said);
        details = rw k.is_request h.details;
      })
      (record {
        type_is = k.is_reversal;
        named = reversal-names t.settings t.batch t.chip (again v) y.request (message_in b) h.details.0.carries r.named;
        same =
            each_same card_fields (message_in b) y.request (find (outgoing.plain_fields t.settings t.batch t.chip v.request))
            card.plain h.details.0.plain;
        chip_same = λ q. let k = sym h.details.0.carries ∙ q in card.chip k ∙ sym (h.details.0.chip k);
        reason_is = ap (λ (f : Field). f.bytes) (reason-said t.settings t.batch t.chip (again v) _ r) ∙ h.details.1;
        batch_is = numbered t y said.batch_number h.members;
      })
  reversal_goes Settling tied h f w = absurd (true≢false w)
  reversal_goes Uploading tied h f w = absurd (true≢false w)

  pub item_goes : (i : ℕ) → Tied l (in_phase Uploading t) a → Stands (in_phase Uploading t) lent.journal y → Fit (in_phase Uploading t) lent
      → next_due (due Uploading) (entries_of t.entries lent.journal) ≡ Some i → Said send_next_upload_event y n (sends_next (Some i) (in_phase Uploading t) lent)
  item_goes i tied h f e =
      let es = entries_of t.entries lent.journal in
      let x = entry_at es i in
      let g = in_form_lem x (every-at (λ i e. in_form e) 0 es f.order.journal.form i (next-at es i e).below) in
      let b = handed_out (message_bytes (item_message t.settings t.batch x)) lent.message in
      let said = item-says t.settings t.batch lent.message f.message_room f.order.state.batch_most x
      (settings-held l (in_phase Uploading t) lent a tied f) (entry-held t.entries i lent.journal g) g.kind_listed in
      let k = item-typed (message_in b) said.indicator said.code_number in
      let r = resent-entry t.entries i lent.journal (next-at es i e).below in
      goes send_next_upload_event y n (sends_next (Some i) (in_phase Uploading t) lent) none
      (record {
        members = sent-members t (message_in b) y false k (unapproved Uploading t.chip f.order.state.chip refl) h.members;
        phase_is = (sent_at (message_in b) y uploading (rw k.is_settlement h.phase_is.stage_is), rw (r.0, r.1) said);
        details = tt;
      })
      (upload_type (message_in b) said.indicator, numbered t y said.batch_number h.members)

  pub end_goes : Tied l (in_phase Uploading t) a → Stands (in_phase Uploading t) lent.journal y → Fit (in_phase Uploading t) lent
      → Said send_next_upload_event y n (sends_next None (in_phase Uploading t) lent)
  end_goes tied h f =
      let trace : Trace = record { 0 = taken (entries_of t.entries lent.journal) t.next.0 } in
      let b = handed_out (message_bytes (end_message t.settings t.batch trace)) lent.message in
      let said = end_says t.settings t.batch lent.message f.message_room f.order.state.batch_most trace
      (settings-held l (in_phase Uploading t) lent a tied f) in
      let k = end_typed (message_in b) said.indicator said.code_number in
      let number = management_trace t.settings t.batch trace b 0x0320 202
      (end_sent t.settings t.batch lent.message trace (settings-held l (in_phase Uploading t) lent a tied f) f.message_room)
      (taken_range (entries_of t.entries lent.journal) t.next.0 f.order.state.next_least f.order.state.next_most).1 in
      goes send_next_upload_event y n (sends_next None (in_phase Uploading t) lent) none
      (record {
        members = new-members t (message_in b) y trace k.is_request (end_new (message_in b) k) number (unapproved Uploading t.chip f.order.state.chip refl) h.members;
        phase_is = (sent_at (message_in b) y uploading (rw k.is_settlement h.phase_is.stage_is), said);
        details = number;
      })
      (upload_type (message_in b) said.indicator, numbered t y said.batch_number h.members)

  next_goes : (x : Option ℕ) → next_due (due Uploading) (entries_of t.entries lent.journal) ≡ x → Tied l (in_phase Uploading t) a
      → Stands (in_phase Uploading t) lent.journal y → Fit (in_phase Uploading t) lent → Said send_next_upload_event y n (sends_next x (in_phase Uploading t) lent)
  next_goes (Some i) e tied h f = item_goes i tied h f e
  next_goes None e tied h f = end_goes tied h f

  upload_goes : (p : Phase) → Tied l (in_phase p t) a → Stands (in_phase p t) lent.journal y → Fit (in_phase p t) lent → not (state.uploads p) ≡ false
      → Said send_next_upload_event y n (upload_from p (in_phase p t) lent)
  upload_goes Resting tied h f w = absurd (true≢false w)
  upload_goes (Waiting x) tied h f w = absurd (true≢false w)
  upload_goes (Pending v) tied h f w = absurd (true≢false w)
  upload_goes Settling tied h f w = absurd (true≢false w)
  upload_goes Uploading tied h f w = next_goes (next_due (due Uploading) (entries_of t.entries lent.journal)) refl tied h f

-- each call: its number is the history's, and what passes is sent
module _ (l : ℕ) (s : State) (lent : Lent) (a : Account) (y : Standing) (w : SignOn) (tied : Tied l s a) (h : Stands s lent.journal y)
    (g : Signs s w) where
  abbrev reverses : Bool
  reverses = reversal_pending a.requests

  abbrev entries : List Entry
  entries = entries_of s.entries lent.journal

  awaits_here : waits s.phase ≡ y.awaited
  awaits_here = stands.awaits s.settings s.batch entries y s.phase h.phase_is

  awaits_now : is_waiting s ≡ awaits w y
  awaits_now = awaits_both s w y awaits_here g

  pends_here : pends s.phase ≡ reverses
  pends_here = pending-is l s.settings s.batch s.chip a s.phase tied.shape

  -- sign on: the phase stays
  abbrev asking : Trace
  asking = record { 0 = taken entries s.next.0 }

  sign_on_goes : is_waiting s ≡ false → number_of sign_on_event w y reverses ≡ 0 → Fit s lent
      → Said sign_on_event y (number_of sign_on_event w y reverses) (sign_on_now s asking lent)
  sign_on_goes v z f =
      let b = handed_out (message_bytes (sign_on_message s.settings s.batch asking)) lent.message in
      let held = settings-held l s lent a tied f in
      let said = sign_on-says s.settings s.batch lent.message f.message_room f.order.state.batch_most asking held in
      let number = management_trace s.settings s.batch asking b 0x0800 3 (sign_on_sent s.settings s.batch lent.message asking held f.message_room)
      (taken_range entries s.next.0 f.order.state.next_least f.order.state.next_most).1 in
      goes sign_on_event y (number_of sign_on_event w y reverses) (sign_on_now s asking lent) z
      (record {
        members = asked-members s (message_in b) y asking number h.members;
        phase_is = still_phase s.settings s.batch s.batch entries y (when_asked (message_in b) y) refl refl s.phase (idle s v).0 h.phase_is;
        details = still_details s.settings s.batch s.chip y (when_asked (message_in b) y) refl refl s.phase (idle s v).0 h.details;
      })
      ((sign_on-typed (message_in b) said.indicator).is_sign_on, numbered s y said.batch_number h.members)

  pub sign_on-said : Said sign_on_event y (number_of sign_on_event w y reverses) (sign_on s lent)
  unfolding sign_on first_broken
  sign_on-said =
      let number : ◌≡◌ {A = ℕ} (cond (is_waiting s) 11 0) (cond (awaits w y) 11 0) = rw awaits_now in
      judged-said sign_on_event y (number_of sign_on_event w y reverses) s lent h (drop 2 (sign_on_rules s lent)) (sign_on_now s asking lent)
      (same_number sign_on_event y (number_of sign_on_event w y reverses) _ number)
      (λ z u f. sign_on_goes (kept (is_waiting s) 11 (never (omega arith)) z) (sym number ∙ z) f)

  -- send reversal
  reversal-number : cond (not s.signed_on) 10 (cond (is_waiting s) 11 (cond (not (pends s.phase)) 14 0)) ≡ number_of send_reversal_event w y reverses
  reversal-number =
      idle_number s.signed_on (is_waiting s) w y _ (cond reverses 0 14) h.members.0 awaits_now
      (λ v. rw pends_here (flip reverses 14 0))

  pub reversal-said : Said send_reversal_event y (number_of send_reversal_event w y reverses) (send_reversal s lent)
  unfolding send_reversal first_broken
  reversal-said =
      let n = number_of send_reversal_event w y reverses in
      judged-said send_reversal_event y n s lent h (drop 2 (send_reversal_rules s lent)) (send_from s.phase s lent)
      (same_number send_reversal_event y n _ reversal-number)
      (λ z u f.
      let p = idle_passed s.signed_on (is_waiting s) (cond (not (pends s.phase)) 14 0) z in
      reversal_goes l s lent a y n (sym reversal-number ∙ z) s.phase tied h f (kept (not (pends s.phase)) 14 (never (omega arith)) p.rest))

  -- send next upload
  upload-number : cond (not s.signed_on) 10 (cond (is_waiting s) 11 (cond (not (state.uploads s.phase)) 14 0))
      ≡ number_of send_next_upload_event w y reverses
  upload-number =
      idle_number s.signed_on (is_waiting s) w y _ (cond (uploads y.stage) 0 14) h.members.0 awaits_now
      (λ v. rw (uploaded s.settings s.batch entries y s.phase (idle s v).0 h.phase_is) (flip (uploads y.stage) 14 0))

  pub upload-said : Said send_next_upload_event y (number_of send_next_upload_event w y reverses) (send_next_upload s lent)
  unfolding send_next_upload first_broken
  upload-said =
      let n = number_of send_next_upload_event w y reverses in
      judged-said send_next_upload_event y n s lent h (drop 2 (send_next_upload_rules s lent)) (upload_from s.phase s lent)
      (same_number send_next_upload_event y n _ upload-number)
      (λ z u f.
      let p = idle_passed s.signed_on (is_waiting s) (cond (not (state.uploads s.phase)) 14 0) z in
      upload_goes l s lent a y n (sym upload-number ∙ z) s.phase tied h f (kept (not (state.uploads s.phase)) 14 (never (omega arith)) p.rest))

  -- settle
  settle-number : cond (not s.signed_on) 10 (cond (is_waiting s) 11 (cond (pends s.phase) 12 (cond (state.uploads s.phase) 13 0)))
      ≡ number_of settles w y reverses
  settle-number =
      idle_number s.signed_on (is_waiting s) w y _ (cond reverses 12 (cond (uploads y.stage) 13 0)) h.members.0 awaits_now
      (λ v. rw (pends_here, uploaded s.settings s.batch entries y s.phase (idle s v).0 h.phase_is))

  abbrev settlement : Trace
  settlement = record { 0 = taken entries s.next.0 }

  abbrev settled : Result
  settled = settle_now s settlement lent

  settle_goes : number_of settles w y reverses ≡ 0 → Fit s lent → Said settles y (number_of settles w y reverses) settled
  unfolding when_idle
  settle_goes z f =
      let b = handed_out (message_bytes (settlement_message s.settings s.batch settlement s.totals)) lent.message in
      let held = settings-held l s lent a tied f in
      let v = (idle s (awaits_now ∙ (idle_passed y.signed (awaits w y) _ z).waits_not)).0 in
      let m = settlement_settles s.settings s.batch lent.message f.message_room f.order.state.batch_most settlement s.totals
      held (sayable s lent f) in
      let k = settlement_typed (message_in b) m.said.indicator in
      let number = settlement_trace s.settings s.batch lent.message settlement s.totals held f.message_room
      (taken_range entries s.next.0 f.order.state.next_least f.order.state.next_most).1 in
      goes settles y (number_of settles w y reverses) settled z
      (record {
        members = new-members s (message_in b) y settlement k.is_request (settlement_new (message_in b) k) number (idle_unapproved s.phase s.chip f.order.state.chip v) h.members;
        phase_is = (sent_at (message_in b) y settling (rw k.is_settlement), m.said);
        details = number;
      })
      (k.is_settlement, numbered s y m.said.batch_number h.members)

  pub settle-said : Said settles y (number_of settles w y reverses) (settle s lent)
  unfolding settle first_broken
  settle-said =
      judged-said settles y (number_of settles w y reverses) s lent h (drop 2 (settle_rules s lent)) settled
      (same_number settles y (number_of settles w y reverses) _ settle-number)
      (λ z u f. settle_goes (sym settle-number ∙ z) f)
