-- Settle and send next upload keep the invariant, and what leaves is lawful.
use Rattle.std.specs.Prelude.{Some, None, Option}
use mathlib.Core.Path.{◌≡◌, refl, ap, ◌∙◌}
use mathlib.Core.List.{List}
use mathlib.Core.Bool.{Bool, true, false}
use Prim.Native.Nat.{ℕ}
use native.Mathlib.Omega.{arith}
use Rattle.message.specs.declared.Message.{Message}
use Rattle.writing.specs.Writing.{message_bytes}
use Rattle.numbers.specs.declared.Trace.{Trace}
use Rattle.numbers.specs.declared.Batch.{Batch}
use Rattle.entry.specs.Form.{in_form}
use Rattle.entry.proofs.Form.{InForm, in_form_lem}
use Rattle.journal.specs.Journal.{entries_of, entry_at, next_due, taken}
use Rattle.kinds.specs.declared.Totals.{Totals}
use Rattle.journal.proofs.Entries.{length-entries_le, entry-shaped}
use Rattle.journal.proofs.Searches.{every-at, next-at}
use Rattle.journal.proofs.Sums.{debits-few, credits-few}
use Rattle.state.specs.declared.Phase.{Phase}
use Rattle.state.specs.declared.Phase.TheVariants.{Resting, Waiting, Pending, Settling, Uploading}
use Rattle.state.specs.declared.Settings.{Settings}
use Rattle.state.specs.declared.State.{State}
use Rattle.state.specs.State.{in_phase}
use Rattle.state.specs.Calls.{Lent}
use Rattle.checks.specs.Checks.{first_broken}
use Rattle.checks.proofs.Choices.{passed}
use Rattle.rules.specs.Rules.{due}
use Rattle.rules.proofs.InOrder.{Fit}
use Rattle.call_definitions.specs.Settle.{settle_rules, settle}
use Rattle.batch_messages.specs.BatchMessages.{settlement_message, item_message, end_message}
use Rattle.effect_definitions.specs.StateEffects as effects
use Rattle.call_definitions.proofs.Quietly.{idle as resting}
use Rattle.call_definitions.specs.SendNextUpload.{sends_next, upload_from, send_next_upload_rules, send_next_upload}
use Rattle.call_definitions.specs.Shapes.{SettingsShaped}
use Rattle.call_definitions.specs.Events.{settles, send_next_upload_event}
use Rattle.history.specs.Words.{message_in}
use Rattle.history.specs.History.{sent, Request, Account, when_given}
use Rattle.history.specs.Demand.{Carries}
use Rattle.outgoing.specs.Held.{SettingsHeld}
use Rattle.batch_messages.proofs.Held.{EntryHeld}
use Rattle.history.proofs.Said.{handed_out, Says}
use Rattle.history.proofs.Sent.{Typed, settlement_typed, item-typed, end_typed, Settles, Sayable, settlement_settles, item-says, end_says}
use Rattle.history.proofs.Matching.{other_closes}
use Rattle.history.proofs.Requests.{AllDone, none-reversing, none_consenting}
use Rattle.history.proofs.Books.{request_sums}
use Rattle.history.proofs.Tied.{Tied}
use Rattle.history.proofs.After.{LawfulMessage, After, judged-after, no, sent_other, idle}
use Rattle.call_definitions.proofs.Quietly.{fit_first}

pub shaped-held : (s : State) (lent : Lent) → SettingsShaped s.settings → Fit s lent → SettingsHeld s.settings
shaped-held s lent h f =
    record {
      terminal_length = h.terminal_length;
      merchant_length = h.merchant_length;
      terminal_printable = f.order.state.settings.terminal_printable;
      merchant_printable = f.order.state.settings.merchant_printable;
    }

pub settings-held : (l : ℕ) (s : State) (lent : Lent) (a : Account) → Tied l s a → Fit s lent → SettingsHeld s.settings
settings-held l s lent a h f = shaped-held s lent h.kept.shaped f

-- field 48 has room for the totals of a terminal in order
pub sayable : (s : State) (lent : Lent) → Fit s lent → Sayable s.totals
sayable s lent f =
    let es = entries_of s.entries lent.journal in
    let n = length-entries_le s.entries lent.journal in
    let k = f.order.state.few in
    let x = f.order.state.settings.limit_most in
    rw f.order.state.totals
    (record {
      debit_most = f.order.journal.debit_most;
      credit_most = f.order.journal.credit_most;
      debits_most = omega (arith, debits-few es);
      credits_most = omega (arith, credits-few es);
    })

-- the totals are those of the batch's approved requests
carries : {x : Settings} {batch : Batch} {trace : Trace} {t : Totals} {m : Message} {rs : List Request} → Settles x batch trace t m
    → t ≡ request_sums rs → Carries m rs
carries w h =
    record {
      debit_amount = w.debit_amount ∙ ap (λ (t : Totals). Some t.debit) h;
      debit_count = w.debit_count ∙ ap (λ (t : Totals). Some t.debits) h;
      credit_amount = w.credit_amount ∙ ap (λ (t : Totals). Some t.credit) h;
      credit_count = w.credit_count ∙ ap (λ (t : Totals). Some t.credits) h;
    }

module _ (l : ℕ) (s : State) (a : Account) (h : Tied l s a) (done : AllDone l a.requests) (b : List ℕ) where
  -- a settlement leaves
  settlement_tied : (trace : Trace) → Says s.settings s.batch trace 0x0500 0 201 (message_in b)
      → Tied l (effects.settles s trace) (when_given l (sent b) settles a)
  settlement_tied trace said =
      rw (sent_other settles (message_in b) a.requests true false (settlement_typed (message_in b) said.indicator))
      (record { kept = h.kept; shape = record { done = done; said = said } })

  settlement_lawful : Typed false false true false (message_in b) → Carries (message_in b) a.requests → LawfulMessage (message_in b) a
  settlement_lawful t c =
      record {
        settlements = λ x. c;
        no_request = no t.is_request;
        no_settlement = λ x. none-reversing l a.requests done;
        reversals = no t.is_reversal;
        no_consent = no t.is_request;
        no_consent_settling = λ x. none_consenting l a.requests done;
        alone = λ x. none-reversing l a.requests done;
      }

  -- an upload's message leaves
  upload-lawful : (d : Bool) → Typed false false false d (message_in b) → LawfulMessage (message_in b) a
  upload-lawful d t =
      record {
        settlements = no t.is_settlement;
        no_request = no t.is_request;
        no_settlement = no t.is_settlement;
        reversals = no t.is_reversal;
        no_consent = no t.is_request;
        no_consent_settling = no t.is_settlement;
        alone = λ x. none-reversing l a.requests done;
      }

pub settle-after : (l : ℕ) (s : State) (lent : Lent) (a : Account) → Tied l s a → After l settles a (settle s lent)
unfolding settle
settle-after l s lent a h =
    let es = entries_of s.entries lent.journal in
    let t = s.totals in
    let rs = settle_rules s lent in
    let trace : Trace = record { 0 = taken es s.next.0 } in
    judged-after l settles a (first_broken rs) s lent _ h
    (λ z.
    let f = fit_first s lent _ _ refl z in
    let w = settlement_settles s.settings s.batch lent.message f.message_room f.order.state.batch_most trace t
    (settings-held l s lent a h f) (sayable s lent f) in
    let done = idle l s.settings s.batch s.chip a s.phase (resting s (passed 11 rs refl z)).0 (passed 12 rs refl z) h.shape in
    let b = handed_out (message_bytes (settlement_message s.settings s.batch trace t)) lent.message in
    record {
      tied = settlement_tied l s a h done b trace w.said;
      lawful =
          settlement_lawful l s a h done b (settlement_typed (message_in b) w.said.indicator)
          (carries w h.kept.books.summed);
    })

-- an entry of a journal in order may leave
pub entry-held : (n i : ℕ) (j : List ℕ) → InForm (entry_at (entries_of n j) i) → EntryHeld (entry_at (entries_of n j) i)
entry-held n i j f =
    let w = entry-shaped n i j in
    record {
      card_low = f.digits_least;
      card_high = f.digits_most;
      reference_length = w.reference_length;
      reference_printable = f.reference_printable;
      authorisation_length = w.authorisation_length;
      authorisation_printable = f.authorisation_printable;
    }

module _ (l : ℕ) (s : State) (lent : Lent) (a : Account) (h : Tied l (in_phase Uploading s) a) (f : Fit (in_phase Uploading s) lent) where
  held : SettingsHeld s.settings
  held = settings-held l (in_phase Uploading s) lent a h f

  item-after : (i : ℕ) → next_due (due Uploading) (entries_of s.entries lent.journal) ≡ Some i → After l send_next_upload_event a (sends_next (Some i) (in_phase Uploading s) lent)
  item-after i e =
      let es = entries_of s.entries lent.journal in
      let x = entry_at es i in
      let k = next-at es i e in
      let g = in_form_lem x (every-at (λ i e. in_form e) 0 es f.order.journal.form i k.below) in
      let said = item-says s.settings s.batch lent.message f.message_room f.order.state.batch_most x held (entry-held s.entries i lent.journal g)
      g.kind_listed in
      let b = handed_out (message_bytes (item_message s.settings s.batch x)) lent.message in
      let t = item-typed (message_in b) said.indicator said.code_number in
      record {
        tied =
            rw (sent_other send_next_upload_event (message_in b) a.requests false false t)
            (record {
              kept = h.kept;
              shape = record { done = h.shape; never_closes = other_closes t };
            });
        lawful = upload-lawful l (in_phase Uploading s) a h h.shape b false t;
      }

  end_after : After l send_next_upload_event a (sends_next None (in_phase Uploading s) lent)
  end_after =
      let trace : Trace = record { 0 = taken (entries_of s.entries lent.journal) s.next.0 } in
      let said = end_says s.settings s.batch lent.message f.message_room f.order.state.batch_most trace held in
      let b = handed_out (message_bytes (end_message s.settings s.batch trace)) lent.message in
      let t = end_typed (message_in b) said.indicator said.code_number in
      record {
        tied =
            rw (sent_other send_next_upload_event (message_in b) a.requests false true t)
            (record {
              kept = h.kept;
              shape = record { done = h.shape; said = said };
            });
        lawful = upload-lawful l (in_phase Uploading s) a h h.shape b true t;
      }

  next-after : (n : Option ℕ) → next_due (due Uploading) (entries_of s.entries lent.journal) ≡ n → After l send_next_upload_event a (sends_next n (in_phase Uploading s) lent)
  next-after (Some i) e = item-after i e
  next-after None e = end_after

upload_from_lem : (p : Phase) (l : ℕ) (s : State) (lent : Lent) (a : Account) → Tied l (in_phase p s) a → Fit (in_phase p s) lent
    → After l send_next_upload_event a (upload_from p (in_phase p s) lent)
upload_from_lem Resting l s lent a h f = record { tied = h; lawful = tt }
upload_from_lem (Waiting w) l s lent a h f = record { tied = h; lawful = tt }
upload_from_lem (Pending v) l s lent a h f = record { tied = h; lawful = tt }
upload_from_lem Settling l s lent a h f = record { tied = h; lawful = tt }
upload_from_lem Uploading l s lent a h f = next-after l s lent a h f (next_due (due Uploading) (entries_of s.entries lent.journal)) refl

pub upload-after : (l : ℕ) (s : State) (lent : Lent) (a : Account) → Tied l s a → After l send_next_upload_event a (send_next_upload s lent)
unfolding send_next_upload
upload-after l s lent a h =
    judged-after l send_next_upload_event a (first_broken (send_next_upload_rules s lent)) s lent (upload_from s.phase s lent) h
    (λ z. upload_from_lem s.phase l s lent a h (fit_first s lent _ _ refl z))
