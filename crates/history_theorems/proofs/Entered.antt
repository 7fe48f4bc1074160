-- The entry of an approval, and the entries with it.
use mathlib.Core.Path.{◌≡◌, refl, sym, ap, ◌∙◌}
use mathlib.Core.List.{List, []}
use mathlib.Core.Bool.{Bool, true, false, cond}
use Prim.Native.Nat.{ℕ, ◌≤◌}
use native.Mathlib.Omega.{arith}
use lib.ListN.{length, take, replicate}
use borrow.Author.Tests.{eq-eqb}
use Rattle.digits.specs.Digits.{pack, bytes_for}
use Rattle.digits.specs.Numbers.{digits_of}
use Rattle.digits.proofs.Numbers.{length_digits_of}
use Rattle.digits.proofs.Packing.{length-pack}
use Rattle.field.specs.Bitmap.{names}
use Rattle.message.specs.Message.{Field, field_of}
use Rattle.message.specs.declared.Message.{Message}
use Rattle.reading.specs.Reading.{read_message, Read}
use Rattle.message_theorems.proofs.Readable.{date_length, reference_length, authorisation_length}
use Rattle.parts.specs.Parts.{copies}
use Rattle.kinds.specs.Kinds.{takes_original, original_kind}
use Rattle.entry.specs.declared.Entry.{Entry}
use Rattle.state.specs.declared.Request.{Request}
use Rattle.journal.specs.Journal.{is_original, has_trace}
use Rattle.approval.specs.Approval.{field_or, zero_filled, approval_of, approved_entry}
use Rattle.approval.proofs.Approval.{card-front, field_there}
use Rattle.state_rules.proofs.Holds.{AnsweredHolds}
use Rattle.history.specs.Words.{message_in, amount_in}
use Rattle.history_theorems.specs.Approvals.{Approval, voids, IsEntry}
use Rattle.history_theorems.proofs.Stands.{Names}

module _ (q : Request) (m : Message) (said : Names q m) where
  -- the entry that an answer gives it
  module _ (b : List ℕ) (read : (read_message b).outcome ≡ Read) (date : names (message_in b).bitmap 13 ≡ true)
      (reference : names (message_in b).bitmap 37 ≡ true) (short : q.card.length ≤ 19)
      (may : AnsweredHolds q.kind q.amount (approval_of (message_in b)).amount) where
    card-taken : take (length (field_of m 2).bytes) (zero_filled q.card) ≡ (field_of m 2).bytes
    card-taken =
        let ds = digits_of q.card.length q.card.number in
        let n : length (pack ds) ≡ bytes_for q.card.length = length-pack ds ∙ ap bytes_for (length_digits_of q.card.length q.card.number) in
        rw (said.card_is, n) (card-front q.card (omega arith))

    authorised : (t : Bool) → names (message_in b).bitmap 38 ≡ t
        → field_or 38 6 (replicate 6 0x20) (message_in b) ≡ cond t (field_of (message_in b) 38).bytes (replicate 6 0x20)
    unfolding field_or copies
    authorised true e = rw (e, eq-eqb 6 (length (field_of (message_in b) 38).bytes) (sym (authorisation_length b read e)))
    authorised false e = rw e

    pub entered : IsEntry (approved_entry q (approval_of (message_in b))) (record { request = m; answer = message_in b }) []
    unfolding approved_entry approval_of amount_in
    entered =
        record {
          kind_is = sym said.kind_is;
          trace_is = sym said.trace_is;
          amount_is = refl;
          amount_most = rw said.amount_is may.most;
          amount_whole = λ e. rw said.amount_is (may.whole (rw said.kind_is at e));
          digits_are = sym (ap (λ (f : Field). f.count) said.card_is ∙ length_digits_of q.card.length q.card.number);
          card_is = card-taken;
          date_is = field_there (message_in b) 13 2 (replicate 2 0) date (date_length b read date);
          authorisation_is = authorised (names (message_in b).bitmap 38) refl;
          reference_is = field_there (message_in b) 37 12 (replicate 12 0) reference (reference_length b read reference);
          voided_is = refl;
          repaid_is = tt;
        }

  -- which entries it voids
  pub voids-none : takes_original q.kind ≡ false → (r : Message) → voids m r ≡ false
  unfolding voids takes_original
  voids-none e r = rw (said.kind_is, e)

  pub voids_alike : takes_original q.kind ≡ true → (e : Entry) (x : Approval) (later : List Approval) → IsEntry e x later
      → voids m x.request ≡ is_original (original_kind q.kind) q.original.0 e
  unfolding voids takes_original is_original original_kind has_trace
  voids_alike t e x later h = rw (said.kind_is, said.original_is t, ← h.kind_is, ← h.trace_is, t)
