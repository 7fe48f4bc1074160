-- What an answer says that was read and approves: date, fields 37 and 38 are in form, and the amount is one that may be approved.
use Rattle.std.specs.Prelude.{Some, None, Option}
use mathlib.Core.Path.{◌≡◌, refl, ap, sym, ◌∙◌}
use mathlib.Core.List.{List}
use mathlib.Core.Bool.{Bool, true, false, cond, ◌&&◌, or-false, and-eq-true_iff, true≢false}
use Prim.Native.Nat.{ℕ, ◌≤◌}
use native.Mathlib.Omega.{arith}
use lib.Dec.{leb}
use borrow.Author.Tests.{leb-true}
use Rattle.digits.specs.Digits.{pack}
use Rattle.digits.specs.Lists.{same_bytes}
use Rattle.digits.specs.Numbers.{digits_of}
use Rattle.digits.specs.Packed.{numeral}
use Rattle.digits.proofs.Lists.{same_list}
use Rattle.digits.proofs.Numbers.{digits_of_digits}
use Rattle.field.specs.Bitmap.{names}
use Rattle.message.specs.Build.{digits}
use Rattle.message.specs.Message.{field_of}
use Rattle.message.specs.declared.Message.{Message}
use Rattle.message_theorems.proofs.Readable.{amount-count, date_packed, reference_printable, reference_length, authorisation_printable}
use Rattle.reading.specs.Reading.{read_message, Read}
use Rattle.parts.specs.Parts.{matches, part_of}
use Rattle.parts.specs.declared.Part.TheVariants.{Amount}
use Rattle.parts.proofs.Numbers.{number_at}
use Rattle.numbers.specs.Limits.{largest_amount}
use Rattle.kinds.specs.Kinds.{allows_partial}
use Rattle.state.specs.declared.Request.{Request}
use Rattle.state_rules.specs.StateRules.{request_in_form}
use Rattle.state_rules.proofs.Holds.{request-holds, ApprovalHolds, AnsweredHolds}
use Rattle.answer_match.specs.Match.{is_value_within, approves, approves_request, amount_holds, approval_holds}
use Rattle.approval.specs.Approval.{approval_of}
use Rattle.approval.proofs.Approval.{answer-holds}

-- a number within bounds
value-bounds : (most : ℕ) (x : Option ℕ) → is_value_within 1 most x ≡ true → (1 ≤ numeral x) × (numeral x ≤ most)
value-bounds most (Some x) e =
    let t = (and-eq-true_iff (leb 1 x) (leb x most)).0 e in
    (leb-true 1 x t.0, leb-true x most t.1)
value-bounds most None e = absurd (true≢false (sym e))

-- only 00 approves a request that may not be approved in part
whole_code : (kind : ℕ) (m : Message) → allows_partial kind ≡ false → approves_request kind m ≡ approves m
unfolding approves_request
whole_code kind m e = rw (e, or-false)

-- what approves a request holds 4, 13 and 37
pub record ApprovalNames (amount : ℕ) (m : Message) : Type 0 where
  pub amount_holds : amount_holds amount m ≡ true
  pub date : names m.bitmap 13 ≡ true
  pub reference : names m.bitmap 37 ≡ true

pub approval-names : (kind amount : ℕ) (m : Message) → approval_holds kind amount m ≡ true → approves_request kind m ≡ true
    → ApprovalNames amount m
unfolding approval_holds
approval-names kind amount m h e =
    let first : Bool = amount_holds amount m && names m.bitmap 13 in
    let t : (first && names m.bitmap 37) ≡ true = rw e at h in
    let a = (and-eq-true_iff first (names m.bitmap 37)).0 t in
    let f = (and-eq-true_iff (amount_holds amount m) (names m.bitmap 13)).0 a.0 in
    record { amount_holds = f.0; date = f.1; reference = a.1 }

module _ (b : List ℕ) (r : (read_message b).outcome ≡ Read) where
  abbrev m : Message
  m = (read_message b).message

  -- a field 4 that holds this amount says it
  amount-said : (amount : ℕ) → amount ≤ largest_amount → matches m 4 (pack (digits_of 12 amount)) ≡ true → numeral (part_of m Amount) ≡ amount
  unfolding matches
  amount-said amount l h =
      let ds : List ℕ = digits_of 12 amount in
      let t = (and-eq-true_iff (names m.bitmap 4) (same_bytes (field_of m 4).bytes (pack ds))).0 h in
      let held : field_of m 4 ≡ (digits 4 ds).field =
      rw (← amount-count b r t.0, ← same_list (field_of m 4).bytes (pack ds) t.1) in
      ap numeral (number_at m 4 ds t.0 held (digits_of_digits 12 amount) 0 12 amount (omega arith) refl (omega arith) (omega arith))

  answered_amount : (kind amount : ℕ) → amount ≤ largest_amount → amount_holds amount m ≡ true → approves_request kind m ≡ true
      → AnsweredHolds kind amount (numeral (part_of m Amount))
  unfolding amount_holds
  answered_amount kind amount l h e = go (approves m) refl h
    where
      go : (t : Bool) → approves m ≡ t
          → cond t (matches m 4 (pack (digits_of 12 amount))) (is_value_within 1 amount (part_of m Amount)) ≡ true
          → AnsweredHolds kind amount (numeral (part_of m Amount))
      go true c h =
          let q = amount-said amount l h in
          record { least = λ k. rw q k; most = omega (arith, q); whole = λ k. q }
      go false c h =
          let w = value-bounds amount (part_of m Amount) h in
          record { least = λ k. w.0; most = w.1; whole = λ k. absurd (true≢false (sym e ∙ whole_code kind m k ∙ c)) }

  pub approval-read : (q : Request) → request_in_form q ≡ true → approval_holds q.kind q.amount m ≡ true
      → approves_request q.kind m ≡ true → ApprovalHolds (approval_of m) × AnsweredHolds q.kind q.amount (approval_of m).amount
  unfolding approval_of
  approval-read q f h e =
      let t = approval-names q.kind q.amount m h e in
      let n = t.reference in (
        answer-holds m (date_packed b r) n (reference_length b r n) (reference_printable b r n) (authorisation_printable b r),
        answered_amount q.kind q.amount (request-holds q f).amount_most t.amount_holds e,
      )
