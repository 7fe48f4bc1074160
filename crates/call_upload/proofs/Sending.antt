-- Laws of the rules of send next upload, and of the item or the end that leaves.
use Rattle.std.specs.Prelude.{Some, None, Option}
use mathlib.Core.Path.{◌≡◌, refl, sym, ap, ◌∙◌}
use mathlib.Core.List.{List, [], ◌∷◌}
use mathlib.Core.Bool.{true, false, not, ◌||◌, and-eq-true_iff}
use Prim.Native.Nat.{ℕ, ◌≤◌, ◌<◌}
use native.Mathlib.Omega.{arith}
use lib.Dec.{leb, eqb}
use lib.ListN.{length}
use borrow.Author.Tests.{leb-true}
use Rattle.message.specs.Build.{message_of}
use Rattle.message.specs.Message.{largest}
use Rattle.message.specs.declared.Message.{Message}
use Rattle.writing.specs.Writing.{write_message}
use Rattle.numbers.specs.declared.Trace.{Trace}
use Rattle.entry.specs.Form.{in_form, keeps_resends}
use Rattle.entry.specs.declared.Entry.{Entry}
use Rattle.entry.proofs.Form.{in_form_lem}
use Rattle.journal.specs.Journal.{entries_of, entry_at, next_due, taken}
use Rattle.journal.proofs.Entries.{entry-shaped}
use Rattle.journal.proofs.Searches.{every-at, next-at}
use Rattle.state.specs.declared.Awaited.TheVariants as awaited
use Rattle.state.specs.declared.Called.{Called}
use Rattle.state.specs.declared.Outcome.TheVariants.{Send}
use Rattle.state.specs.declared.Phase.{Phase}
use Rattle.state.specs.declared.Phase.TheVariants.{Resting, Waiting, Pending, Settling, Uploading}
use Rattle.state.specs.declared.State.{State}
use Rattle.state.specs.State.{in_phase, uploads, is_uploading}
use Rattle.checks.specs.Checks.{rule, first_broken}
use Rattle.checks.specs.Refusals.{number_of}
use Rattle.checks.specs.declared.Refusal.{Refusal}
use Rattle.state.specs.Calls.{Lent, with_journal, with_message, result_of, refused}
use Rattle.rules.proofs.Judged.{first_refuses}
use Rattle.checks.proofs.Choices.{last-broken, last-kept}
use Rattle.state.proofs.Judged.{refuses, goes}
use Rattle.rules.specs.Rules.{idle_rules, due}
use Rattle.rules.proofs.InOrder.{Fit}
use Rattle.rules.proofs.Idle.{idle_fit}
use Rattle.compose.specs.Compose.{all_held, with_all}
use Rattle.compose.proofs.Composed.{all_composed}
use Rattle.outgoing.specs.Outgoing.{length_of}
use Rattle.outgoing.proofs.Leaving.{written_is}
use Rattle.call_definitions.specs.SendNextUpload.{send_next_upload_rules, sends_item, sends_end, sends_next, upload_from, send_next_upload}
use Rattle.batch_messages.specs.BatchMessages.{item_fields, item_message, end_fields, end_message}
use Rattle.effect_definitions.specs.JournalEffects.{resent}
use Rattle.effect_definitions.specs.StateEffects.{ending}
use Rattle.batch_messages.proofs.Held.{EntryHeld, item-held, end_held, upload-listed}
use Rattle.outgoing.specs.Held.{SettingsHeld}

not_uploading : (p : Phase) → (p ≡ Uploading → ⊥) → uploads p ≡ false
not_uploading Resting h = refl
not_uploading (Waiting a) h = refl
not_uploading (Pending v) h = refl
not_uploading Settling h = refl
not_uploading Uploading h = absurd (h refl)

-- rules 1, 2, 10 and 11 refuse
pub turned_down : (s : State) (lent : Lent) (why : Refusal) → number_of why ≡ first_broken (idle_rules s lent)
    → refused (number_of why) s lent ≡ send_next_upload s lent
unfolding send_next_upload
turned_down s lent why e = first_refuses (idle_rules s lent) (rule 14 (not (is_uploading s)) ∷ []) why s lent (upload_from s.phase s lent) e

-- or pass
module _ (s : State) (lent : Lent) (z : 0 ≡ first_broken (idle_rules s lent)) where
  -- 14. No upload is under way.
  pub no_upload : (s.phase ≡ Uploading → ⊥) → refused 14 s lent ≡ send_next_upload s lent
  unfolding send_next_upload
  no_upload h =
      refuses 14 (first_broken (send_next_upload_rules s lent)) s lent (upload_from s.phase s lent)
      (last-broken (idle_rules s lent) 0 refl z refl 14 (not (is_uploading s)) (rw (not_uploading s.phase h))) (λ x. omega arith)

  pub goes_out : (r : Called) (after : Lent) → s.phase ≡ Uploading
      → result_of r after ≡ sends_next (next_due (due Uploading) (entries_of s.entries lent.journal)) s lent → result_of r after ≡ send_next_upload s lent
  unfolding send_next_upload
  goes_out r after f h =
      goes 0 (first_broken (send_next_upload_rules s lent)) s lent (result_of r after) (upload_from s.phase s lent)
      (last-kept (idle_rules s lent) 0 refl z refl 14 (not (is_uploading s)) (rw f)) refl
      (h ∙ sym (ap (λ (x : Phase). upload_from x s lent) f))

few-resends : (l : ℕ) (e : Entry) → keeps_resends l e ≡ true → e.resends ≤ l
unfolding keeps_resends
few-resends l e h = leb-true e.resends l ((and-eq-true_iff (leb e.resends l) (not (eqb e.mark 0) || eqb e.resends 0)).0 h).0

-- what rules 1 and 2 give
module _ (s : State) (lent : Lent) (z : first_broken (idle_rules s lent) ≡ 0) where
  fits : Fit s lent
  fits = idle_fit s lent z

  pub room : largest ≤ length lent.message
  room = fits.message_room

  module _ (lt : length s.settings.terminal ≡ 8) (lm : length s.settings.merchant ≡ 15) where
    settings-held : SettingsHeld s.settings
    settings-held =
        let o = fits.order.state.settings in
        record {
          terminal_length = lt;
          merchant_length = lm;
          terminal_printable = o.terminal_printable;
          merchant_printable = o.merchant_printable;
        }

    pub end_fields_lem : (trace : Trace) → all_held (end_fields s.settings s.batch trace) ≡ true
    end_fields_lem trace = end_held s.settings s.batch settings-held trace

    pub item_fields_lem : (p : Option ℕ) (i : ℕ) (e : Entry) → p ≡ next_due (due Uploading) (entries_of s.entries lent.journal) → p ≡ Some i
        → e ≡ entry_at (entries_of s.entries lent.journal) i → all_held (item_fields s.settings s.batch e) ≡ true
    item_fields_lem p i e f a q = rw q (item-held s.settings s.batch settings-held _ held)
      where
        held : EntryHeld (entry_at (entries_of s.entries lent.journal) i)
        held =
            let es = entries_of s.entries lent.journal in
            let x = next-at es i (sym f ∙ a) in
            let w = in_form_lem (entry_at es i) (every-at (λ i e. in_form e) 0 es fits.order.journal.form i x.below) in
            let h = entry-shaped s.entries i lent.journal in
            record {
              card_low = w.digits_least;
              card_high = w.digits_most;
              reference_length = h.reference_length;
              reference_printable = w.reference_printable;
              authorisation_length = h.authorisation_length;
              authorisation_printable = w.authorisation_printable;
            }

  pub resends_low : (p : Option ℕ) (i : ℕ) (e : Entry) → p ≡ next_due (due Uploading) (entries_of s.entries lent.journal) → p ≡ Some i
      → e ≡ entry_at (entries_of s.entries lent.journal) i → e.resends < 255
  resends_low p i e f a q =
      let es = entries_of s.entries lent.journal in
      let x = next-at es i (sym f ∙ a) in
      let w = few-resends s.settings.sendings (entry_at es i) (every-at (λ i e. keeps_resends s.settings.sendings e) 0 es fits.order.journal.resends i x.below) in
      let b = fits.order.state.settings.sendings_most in
      rw q (omega arith)

-- the message, its length and the bytes in the buffer are those of the item
pub item-left : (s t : State) (i : ℕ) (e : Entry) (lent : Lent) (d : List ℕ) (b : Message) (k : ℕ) (o : List ℕ)
    → all_held (item_fields s.settings s.batch e) ≡ true → largest ≤ length lent.message
    → b ≡ with_all (item_fields s.settings s.batch e) (message_of 0x0320 [])
    → k ≡ length_of (write_message b lent.message).outcome → o ≡ (write_message b lent.message).buffer
    → d ≡ resent i e lent.journal
    → t ≡ in_phase (Waiting (awaited.Item i)) s
    → result_of (record { outcome = Send k; state = t }) (with_message o (with_journal d lent)) ≡ sends_item i e s lent
unfolding item_message
item-left s t i e lent d b k o h r p q w g u =
    let fs = item_fields s.settings s.batch e in
    let is = p ∙ all_composed 0x0320 fs h in
    let wr = ap (λ (x : Message). write_message x lent.message) is ∙ written_is 0x0320 fs lent.message upload-listed h r in
    rw (q, w, g, u, wr)

-- and those of the end
pub end_left : (s t : State) (trace : Trace) (lent : Lent) (b : Message) (k : ℕ) (o : List ℕ)
    → all_held (end_fields s.settings s.batch trace) ≡ true → largest ≤ length lent.message
    → b ≡ with_all (end_fields s.settings s.batch trace) (message_of 0x0320 [])
    → k ≡ length_of (write_message b lent.message).outcome → o ≡ (write_message b lent.message).buffer
    → t ≡ ending s trace
    → result_of (record { outcome = Send k; state = t }) (with_message o lent) ≡ sends_end trace s lent
unfolding end_message
end_left s t trace lent b k o h r p q w u =
    let fs = end_fields s.settings s.batch trace in
    let is = p ∙ all_composed 0x0320 fs h in
    let wr = ap (λ (x : Message). write_message x lent.message) is ∙ written_is 0x0320 fs lent.message upload-listed h r in
    rw (q, w, u, wr)

-- the item or the end, as what is due says
pub item-next : (s : State) (lent after : Lent) (p : Option ℕ) (i : ℕ) (e : Entry) (r : Called)
    → p ≡ next_due (due Uploading) (entries_of s.entries lent.journal) → p ≡ Some i
    → e ≡ entry_at (entries_of s.entries lent.journal) i → result_of r after ≡ sends_item i e s lent
    → result_of r after ≡ sends_next (next_due (due Uploading) (entries_of s.entries lent.journal)) s lent
item-next s lent after p i e r f a q h =
    h ∙ ap (λ (x : Entry). sends_item i x s lent) q ∙ sym (ap (λ (x : Option ℕ). sends_next x s lent) (sym f ∙ a))

pub end_next : (s : State) (lent after : Lent) (p : Option ℕ) (trace : Trace) (r : Called)
    → p ≡ next_due (due Uploading) (entries_of s.entries lent.journal) → p ≡ None
    → trace ≡ record { 0 = taken (entries_of s.entries lent.journal) s.next.0 } → result_of r after ≡ sends_end trace s lent
    → result_of r after ≡ sends_next (next_due (due Uploading) (entries_of s.entries lent.journal)) s lent
end_next s lent after p trace r f a q h =
    h ∙ ap (λ (x : Trace). sends_end x s lent) q ∙ sym (ap (λ (x : Option ℕ). sends_next x s lent) (sym f ∙ a))
