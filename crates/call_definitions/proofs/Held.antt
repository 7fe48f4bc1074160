-- The fields of a request that no rule refuses are held: card and texts are the desk's, or those of an entry in form.
use Rattle.std.specs.Prelude.{Some, None, Option}
use mathlib.Core.Path.{◌≡◌, refl, sym, ap, ◌∙◌}
use mathlib.Core.List.{List}
use mathlib.Core.Bool.{Bool, true, false, cond, not, ◌||◌, true≢false, and-eq-true_iff}
use Prim.Native.Nat.{ℕ, ◌≤◌}
use native.Mathlib.Omega.{arith}
use lib.Dec.{eqb}
use lib.ListN.{length}
use Rattle.field.specs.Contents.{all_printable}
use Rattle.numbers.specs.declared.Batch.{Batch}
use Rattle.kinds.specs.Kinds.{takes_original, original_kind}
use Rattle.entry.specs.Form.{in_form}
use Rattle.entry.specs.Theorems.{Shaped}
use Rattle.entry.specs.declared.Entry.{Entry}
use Rattle.entry.proofs.Form.{InForm, in_form_lem}
use Rattle.journal.specs.Journal.{entries_of, every, is_original, original_for, nowhere}
use Rattle.journal.proofs.Entries.{entry-shaped}
use Rattle.journal.proofs.Searches.{every-at, first_at}
use Rattle.state.specs.declared.State.{State}
use Rattle.state.specs.Calls.{Lent}
use Rattle.state_rules.specs.StateRules.{is_card}
use Rattle.state_rules.proofs.Holds.{card-holds, room_for_one}
use Rattle.outgoing.specs.Held.{OriginalHeld}
use Rattle.desk.specs.declared.Desk.{Desk}
use Rattle.call_definitions.specs.Start.{original_of, entry_of, named_by}
use Rattle.desk.specs.DeskRules.{chip_from, desk_in_form, request_of}
use Rattle.desk.proofs.Chips.{chip_sent-form}
use Rattle.approval.specs.Cards.{card_of}
use Rattle.call_definitions.specs.Sending.{MaySend}
use Rattle.call_definitions.proofs.Refusals.{Unbroken}

-- what is found is found for a void, by kind and trace
pub found_for : (d : Desk) (es : List Entry) (f : Option ℕ) → original_of d es ≡ f → nowhere f ≡ false
    → original_for d.kind d.original.0 es ≡ f
unfolding original_of
found_for d es f e h = go (takes_original d.kind) e
  where
    go : (b : Bool) → cond b (original_for d.kind d.original.0 es) None ≡ f → original_for d.kind d.original.0 es ≡ f
    go true e = e
    go false e = absurd (true≢false (ap nowhere e ∙ h))

-- the entry that a void is for is one of the journal's
pub entry-in_form : (d : Desk) (es : List Entry) → every (λ i e. in_form e) 0 es ≡ true → (f : Option ℕ) → original_of d es ≡ f
    → nowhere f ≡ false → in_form (entry_of f es) ≡ true
entry-in_form d es a None q h = absurd (true≢false h)
entry-in_form d es a (Some i) q h =
    let o = first_at (is_original (original_kind d.kind) d.original.0) 0 es i (found_for d es (Some i) q h) in
    every-at (λ i e. in_form e) 0 es a i (omega (arith, o.below))

entry_of-shaped : (f : Option ℕ) (n : ℕ) (j : List ℕ) → Shaped (entry_of f (entries_of n j))
entry_of-shaped (Some i) n j = entry-shaped n i j
entry_of-shaped None n j =
    record { card_length = refl; date_length = refl; authorisation_length = refl; reference_length = refl; reserved_length = refl }

-- what the desk keyed, where the kind sends it
record Keyed (d : Desk) : Type 0 where
  pub card : takes_original d.kind ≡ false → is_card d.card ≡ true
  pub reference : eqb d.kind 25 ≡ true → all_printable d.reference ≡ true
  pub authorisation : (eqb d.kind 11 || eqb d.kind 20) ≡ true → all_printable d.authorisation ≡ true

or_right : (a b : Bool) → a ≡ false → (a || b) ≡ true → b ≡ true
or_right true b h e = absurd (true≢false h)
or_right false b h e = e

not_or : (a b : Bool) → a ≡ true → (not a || b) ≡ true → b ≡ true
not_or true b h e = e
not_or false b h e = absurd (true≢false (sym h))

keyed : (d : Desk) → desk_in_form d ≡ true → Keyed d
unfolding desk_in_form
keyed d h =
    let t = simp and-eq-true_iff at h in
    record {
      card = λ n. or_right (takes_original d.kind) (is_card d.card) n t.0.0.0.1;
      reference = λ k. not_or (eqb d.kind 25) (all_printable d.reference) k t.0.1;
      authorisation = λ k. not_or (eqb d.kind 11 || eqb d.kind 20) (all_printable d.authorisation) k t.1;
    }

-- card and texts, of the original or of the desk
module _ (d : Desk) (e : Entry) (k : Keyed d) (f : takes_original d.kind ≡ true → InForm e) where
  card_length : (13 ≤ (cond (takes_original d.kind) (card_of e) d.card).length) × ((cond (takes_original d.kind) (card_of e) d.card).length ≤ 19)
  card_length = go (takes_original d.kind) f k.card
    where
      go : (b : Bool) → (b ≡ true → InForm e) → (b ≡ false → is_card d.card ≡ true)
          → (13 ≤ (cond b (card_of e) d.card).length) × ((cond b (card_of e) d.card).length ≤ 19)
      go true f k = ((f refl).digits_least, (f refl).digits_most)
      go false f k = let h = card-holds d.card (k refl) in (h.least, h.most)

  texts_held : (batch : Batch) → Shaped e → length d.reference ≡ 12 → length d.authorisation ≡ 6 → OriginalHeld d.kind (named_by d batch e)
  texts_held batch w r a = go (takes_original d.kind) refl
    where
      go : (b : Bool) → takes_original d.kind ≡ b → OriginalHeld d.kind (named_by d batch e)
      go true t =
          record {
            reference_length = rw t w.reference_length;
            authorisation_length = rw t w.authorisation_length;
            reference_printable = λ s. rw t (f t).reference_printable;
            authorisation_printable = λ s. rw t (f t).authorisation_printable;
          }
      go false t =
          record {
            reference_length = rw t r;
            authorisation_length = rw t a;
            reference_printable = λ s. rw t (k.reference (or_right (takes_original d.kind) (eqb d.kind 25) t s));
            authorisation_printable = λ s. rw t (k.authorisation (or_right (takes_original d.kind) (eqb d.kind 11 || eqb d.kind 20) t s));
          }

-- a request that no rule refuses may send
module _ (d : Desk) (b : List ℕ) (s : State) (lent : Lent) (terminal : length s.settings.terminal ≡ 8) (merchant : length s.settings.merchant ≡ 15)
    (reference : length d.reference ≡ 12) (authorisation : length d.authorisation ≡ 6) where
  pub may_send : (trace : ℕ) → Unbroken d b s (entries_of s.entries lent.journal) lent
      → MaySend s (chip_from d b) (request_of d (entry_of (original_of d (entries_of s.entries lent.journal)) (entries_of s.entries lent.journal)) trace)
      (named_by d s.batch (entry_of (original_of d (entries_of s.entries lent.journal)) (entries_of s.entries lent.journal))) lent.message
  may_send trace u =
      let es = entries_of s.entries lent.journal in
      let e = entry_of (original_of d es) es in
      let k = keyed d u.keyed in
      let x = u.fits.order.state.settings in
      let f : takes_original d.kind ≡ true → InForm e = λ t. in_form_lem e (entry-in_form d es u.fits.order.journal.form (original_of d es) refl (u.found t)) in
      let l = card_length d e k f in
      record {
        card = record {
          card_low = l.0;
          card_high = l.1;
          terminal_length = terminal;
          merchant_length = merchant;
          terminal_printable = x.terminal_printable;
          merchant_printable = x.merchant_printable;
          chip_form = chip_sent-form d b u.chip;
        };
        original = texts_held d e k f s.batch (entry_of-shaped (original_of d es) s.entries lent.journal) reference authorisation;
        room = u.fits.message_room;
        counts = (room_for_one s u.fits.order.state).counts;
      }
