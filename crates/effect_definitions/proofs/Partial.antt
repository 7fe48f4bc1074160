-- The statements of specs/Partial.antt.
use mathlib.Core.Path.{◌≡◌, refl}
use mathlib.Core.List.{List, [], ◌∷◌}
use mathlib.Core.Bool.{true, false, or-true, and-eq-true_iff}
use Prim.Native.Nat.{ℕ}
use borrow.Author.Tests.{ne_eqb}
use Rattle.digits.specs.Lists.{same_bytes}
use Rattle.digits.proofs.Lists.{same_list}
use Rattle.field.specs.Bitmap.{names}
use Rattle.message.specs.Message.{field_of}
use Rattle.message.specs.declared.Message.{Message}
use Rattle.parts.specs.Parts.{matches}
use Rattle.kinds.specs.Kinds.{is_debit, is_never_reversed, takes_original}
use Rattle.kinds.specs.Totals.{booked}
use Rattle.answer_match.specs.Match.{approves, approves_request}
use Rattle.approval.specs.Approval.{approval_of, approved_entry}
use Rattle.state.specs.declared.Approval.{Approval}
use Rattle.state.specs.declared.Request.{Request}
use Rattle.state.specs.declared.State.{State}
use Rattle.effect_definitions.specs.StateEffects.{pending_or_unanswered}
use Rattle.effect_definitions.specs.JournalEffects.{original_voided, approved, granted, on_request, agreed}
use Rattle.effect_definitions.specs.Partial.{is_partial, answered_amount, EnteredFor, PartEntered, ConsentEnters, PartReversedWhole, PartDeclined}

-- 10 approves a sale, and is not 00
approves-sale : (a : Message) (q : Request) → q.kind ≡ 22 → is_partial a ≡ true → approves_request q.kind a ≡ true
unfolding is_partial approves_request
approves-sale a q k e = rw (k, e) (or-true (approves a))

codes_differ : same_bytes (0x31 ∷ 0x30 ∷ []) (0x30 ∷ 0x30 ∷ []) ≡ false
unfolding same_bytes
codes_differ = refl

not_whole : (a : Message) → is_partial a ≡ true → approves a ≡ false
unfolding is_partial matches
not_whole a e =
    let t = (and-eq-true_iff (names a.bitmap 39) (same_bytes (field_of a 39).bytes (0x31 ∷ 0x30 ∷ []))).0 e in
    rw (t.0, same_list _ _ t.1) codes_differ

declines_other : (a : Message) (q : Request) → (q.kind ≡ 22 → ⊥) → is_partial a ≡ true → approves_request q.kind a ≡ false
unfolding approves_request
declines_other a q k e = rw (not_whole a e, ne_eqb q.kind 22 k)

-- a sale that is approved for an amount
entered : (q : Request) (v : Approval) (s : State) (j : List ℕ) → q.kind ≡ 22 → EnteredFor v.amount q s j (approved q (approved_entry q v) s j)
unfolding approved approved_entry original_voided takes_original booked is_debit
entered q v s j k =
    record {
      entry = approved_entry q v;
      written = rw k;
      amount_is = refl;
      trace_is = refl;
      debit_is = rw k;
      approved_is = refl;
      phase_is = refl;
    }

pub part-entered : PartEntered
unfolding on_request granted answered_amount approval_of
part-entered good a q s j k e g n = rw (approves-sale a q k e, g, n) (entered q (approval_of a) s j k)

pub consent_enters : ConsentEnters
unfolding on_request granted agreed answered_amount approval_of approved
consent_enters good a q s j k e g c =
    rw (approves-sale a q k e, g, c) (entered q (approval_of a) s j k)

pub part-reversed-whole : PartReversedWhole
unfolding on_request pending_or_unanswered
part-reversed-whole good a q s j k e g =
    let n : is_never_reversed q.kind ≡ false = rw k in
    (rw (approves-sale a q k e, g, n), rw (approves-sale a q k e, g))

pub part-declined : PartDeclined
unfolding on_request
part-declined good a q s j k e = let n = declines_other a q k e in (rw n, (rw n, rw n))
