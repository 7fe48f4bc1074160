-- What start, send reversal, settle and send next upload let leave reads.
use Rattle.std.specs.Prelude.{Some}
use mathlib.Core.Path.{◌≡◌, refl}
use mathlib.Core.List.{List}
use mathlib.Core.Bool.{true, and-eq-true_iff}
use Prim.Native.Nat.{ℕ, ◌≤◌}
use lib.ListN.{length, drop}
use lib.Seq.{take_at}
use Rattle.field.specs.Table.{among, indicators}
use Rattle.message.specs.Message.{largest}
use Rattle.message.specs.Build.{Item, message_of}
use Rattle.reading.specs.Reading.{read_message, Read}
use Rattle.writing.specs.Writing.{message_bytes}
use Rattle.numbers.specs.declared.Trace.{Trace}
use Rattle.numbers.specs.declared.Batch.{Batch}
use Rattle.kinds.specs.Kinds.{indicator_of}
use Rattle.entry.specs.Form.{in_form}
use Rattle.entry.specs.Theorems.{Shaped}
use Rattle.entry.specs.declared.Entry.{Entry}
use Rattle.entry.proofs.Form.{in_form_lem}
use Rattle.journal.specs.Journal.{entries_of, entry_at, next_due}
use Rattle.kinds.specs.declared.Totals.{Totals}
use Rattle.journal.proofs.Entries.{entry-shaped}
use Rattle.journal.proofs.Searches.{every-at, next-at}
use Rattle.state.specs.declared.Chip.{Chip}
use Rattle.state.specs.declared.Request.{Request}
use Rattle.state.specs.declared.Reversal.{Reversal}
use Rattle.state.specs.declared.Settings.{Settings}
use Rattle.state.specs.declared.Phase.TheVariants.{Pending, Uploading}
use Rattle.state.specs.declared.State.{State}
use Rattle.state.specs.Calls.{Lent}
use Rattle.rules.specs.Rules.{due}
use Rattle.rules.proofs.InOrder.{Fit}
use Rattle.state_rules.proofs.Holds.{SettingsHold, reversal-holds}
use Rattle.compose.specs.Compose.{all_held}
use Rattle.outgoing.specs.Held.{SettingsHeld, CardHeld, OriginalHeld}
use Rattle.outgoing.specs.Outgoing.{request_fields, reversal_fields, request_message, reversal_message}
use Rattle.outgoing.specs.declared.Original.{Original}
use Rattle.outgoing.proofs.Leaving.{request-held, reversal-held, request-listed, reversal-listed, written_is}
use Rattle.outgoing_theorems.proofs.Theorems.{sent-reads_back}
use Rattle.call_definitions.proofs.Refusals.{Unbroken}
use Rattle.call_definitions.proofs.Held.{may_send}
use Rattle.call_definitions.specs.Start.{original_of, entry_of, named_by}
use Rattle.effect_definitions.specs.StateEffects.{again}
use Rattle.desk.specs.DeskRules.{chip_from, request_of}
use Rattle.desk.specs.declared.Desk.{Desk}
use Rattle.batch_messages.specs.BatchMessages.{settlement_fields, settlement_message, item_fields, item_message, end_fields, end_message, sign_on_fields, sign_on_message}
use Rattle.batch_messages.proofs.Held.{settlement_held, settlement_listed, EntryHeld, item-held, end_held, upload-listed, sign_on-held, sign_on-listed}
use Rattle.call_definitions.specs.Shapes.{SettingsShaped}

-- the bytes of a message of held fields read
bytes_read : (i : ℕ) (xs : List Item) (m : List ℕ) → among i indicators ≡ true → all_held xs ≡ true → largest ≤ length m
    → (read_message (message_bytes (message_of i xs))).outcome ≡ Read
bytes_read i xs m l h r =
    let bs = message_bytes (message_of i xs) in
    rw (written_is i xs m l h r, take_at bs (drop (length bs) m) (length bs) refl) at (sent-reads_back i xs m l h r).outcome

request-reads : (x : Settings) (batch : Batch) (c : Chip) (q : Request) (o : Original) (m : List ℕ) → CardHeld x c q → OriginalHeld q.kind o
    → largest ≤ length m → (read_message (message_bytes (request_message x batch c q o))).outcome ≡ Read
unfolding request_message
request-reads x batch c q o m h g r =
    bytes_read (indicator_of q.kind) (request_fields x batch c q o) m (request-listed q.kind) (request-held x batch c q o h g) r

reversal-reads : (x : Settings) (batch : Batch) (c : Chip) (v : Reversal) (m : List ℕ) → CardHeld x c v.request → largest ≤ length m
    → (read_message (message_bytes (reversal_message x batch c v))).outcome ≡ Read
unfolding reversal_message
reversal-reads x batch c v m h r = bytes_read 0x0400 (reversal_fields x batch c v) m reversal-listed (reversal-held x batch c v h) r

-- a request that no rule of start refuses reads
pub started-reads : (d : Desk) (b : List ℕ) (s : State) (lent : Lent) (n : ℕ) → Unbroken d b s (entries_of s.entries lent.journal) lent
    → SettingsShaped s.settings → length d.authorisation ≡ 6 → length d.reference ≡ 12
    → let e = entry_of (original_of d (entries_of s.entries lent.journal)) (entries_of s.entries lent.journal) in
    (read_message (message_bytes (request_message s.settings s.batch (chip_from d b) (request_of d e n) (named_by d s.batch e)))).outcome ≡ Read
started-reads d b s lent n u x a r =
    let w = may_send d b s lent x.terminal_length x.merchant_length r a n u in
    request-reads s.settings s.batch (chip_from d b) _ _ lent.message w.card w.original w.room

-- so does the reversal that pends, whose request is in form
pub pending-reads : (s : State) (lent : Lent) (v : Reversal) → Fit s lent → s.phase ≡ Pending v → SettingsShaped s.settings
    → (read_message (message_bytes (reversal_message s.settings s.batch s.chip (again v)))).outcome ≡ Read
pending-reads s lent v h p x =
    let y = h.order.state.settings in
    let w = reversal-holds v (rw p at h.order.state.phase_form) in
    reversal-reads s.settings s.batch s.chip (again v) lent.message
    (record {
      card_low = w.card_least;
      card_high = w.card_most;
      terminal_length = x.terminal_length;
      merchant_length = x.merchant_length;
      terminal_printable = y.terminal_printable;
      merchant_printable = y.merchant_printable;
      chip_form = λ c. let t = simp and-eq-true_iff at (h.order.state.chip.sent c) in t.1;
    })
    h.message_room

-- settings in order, and an entry in form
settings-held : (x : Settings) → SettingsShaped x → SettingsHold x → SettingsHeld x
settings-held x l h =
    record {
      terminal_length = l.terminal_length;
      merchant_length = l.merchant_length;
      terminal_printable = h.terminal_printable;
      merchant_printable = h.merchant_printable;
    }

entry-held : (e : Entry) → in_form e ≡ true → Shaped e → EntryHeld e
entry-held e h l =
    let f = in_form_lem e h in
    record {
      card_low = f.digits_least;
      card_high = f.digits_most;
      reference_length = l.reference_length;
      reference_printable = f.reference_printable;
      authorisation_length = l.authorisation_length;
      authorisation_printable = f.authorisation_printable;
    }

module _ (s : State) (lent : Lent) (h : Fit s lent) (x : SettingsShaped s.settings) where
  -- a settlement
  pub settlement_reads : (trace : Trace) (t : Totals)
      → (read_message (message_bytes (settlement_message s.settings s.batch trace t))).outcome ≡ Read
  unfolding settlement_message
  settlement_reads trace t =
      bytes_read 0x0500 (settlement_fields s.settings s.batch trace t) lent.message settlement_listed
      (settlement_held s.settings s.batch (settings-held s.settings x h.order.state.settings) trace t) h.message_room

  -- the next due entry
  pub item-reads : (i : ℕ) → next_due (due Uploading) (entries_of s.entries lent.journal) ≡ Some i
      → (read_message (message_bytes (item_message s.settings s.batch (entry_at (entries_of s.entries lent.journal) i)))).outcome ≡ Read
  unfolding item_message
  item-reads i q =
      let es = entries_of s.entries lent.journal in
      let e = entry_at es i in
      let form = every-at (λ i e. in_form e) 0 es h.order.journal.form i (next-at es i q).below in
      bytes_read 0x0320 (item_fields s.settings s.batch e) lent.message upload-listed
      (item-held s.settings s.batch (settings-held s.settings x h.order.state.settings) e
      (entry-held e form (entry-shaped s.entries i lent.journal))) h.message_room

  -- the upload's end
  pub sign_on-reads : (trace : Trace) → (read_message (message_bytes (sign_on_message s.settings s.batch trace))).outcome ≡ Read
  unfolding sign_on_message
  sign_on-reads trace =
      bytes_read 0x0800 (sign_on_fields s.settings s.batch trace) lent.message sign_on-listed
      (sign_on-held s.settings s.batch (settings-held s.settings x h.order.state.settings) trace) h.message_room

  pub end_reads : (trace : Trace) → (read_message (message_bytes (end_message s.settings s.batch trace))).outcome ≡ Read
  unfolding end_message
  end_reads trace =
      bytes_read 0x0320 (end_fields s.settings s.batch trace) lent.message upload-listed
      (end_held s.settings s.batch (settings-held s.settings x h.order.state.settings) trace) h.message_room
