-- Laws of an entry's form.
use Rattle.std.specs.List.{list_all}
use Rattle.std.proofs.lemmas.List.Folds.{list_all_more}
use mathlib.Core.Path.{◌≡◌, refl, ◌∙◌}
use mathlib.Core.List.{List}
use mathlib.Core.Bool.{Bool, true, and-eq-true_iff}
use Prim.Native.Nat.{ℕ, zero, suc, ◌≤◌}
use native.Mathlib.Numerals.{add-one}
use native.Mathlib.Omega.{arith}
use lib.Dec.{eqb}
use lib.ListN.{length, get_or, take}
use lib.Seq.{take_all}
use Rattle.digits.specs.Lists.{all}
use borrow.Author.Tests.{leb-true}
use Rattle.numbers.specs.Limits.{largest_amount, last_number}
use Rattle.numbers.proofs.Bounds.{within-bounds}
use Rattle.digits.specs.Digits.{is_packed}
use Rattle.field.specs.Contents.{all_printable}
use Rattle.kinds.specs.Kinds.{is_kind}
use Rattle.entry.specs.declared.Entry.{Entry}
use Rattle.entry.specs.Entry.{all_zero}
use Rattle.entry.specs.Form.{card_in_form, in_form}

-- place i holds a zero
abbrev pub is_nought : List ℕ → ℕ → Bool
is_nought b i = eqb (get_or b i 0) 0

-- a test of each byte, one after the other and by their places
each_front : (p : ℕ → Bool) (b : List ℕ) (i : ℕ) → i ≤ length b → list_all p (take i b) ≡ all i (λ k. p (get_or b k 0))
each_front p b zero h = refl
each_front p b (suc i) h = rw (add-one i) at (list_all_more p b i 0 (omega arith)) ∙ rw (each_front p b i (omega arith))

pub each_byte : (p : ℕ → Bool) (b : List ℕ) → list_all p b ≡ all (length b) (λ k. p (get_or b k 0))
each_byte p b = rw (take_all (length b) b (omega arith)) at (each_front p b (length b) (omega arith))

-- the digits of a card in form
pub card-bounds : (n : ℕ) (card : List ℕ) → card_in_form n card ≡ true → (13 ≤ n) × (n ≤ 19)
unfolding card_in_form
card-bounds n card e = let t = simp and-eq-true_iff at e in within-bounds 13 n 19 t.0.0

-- what an entry in form has
pub record InForm (e : Entry) : Type 0 where
  pub kind_listed : is_kind e.kind ≡ true
  pub voided_most : e.voided ≤ 1
  pub mark_most : e.mark ≤ 4
  pub trace_least : 1 ≤ e.trace.0
  pub trace_most : e.trace.0 ≤ last_number
  pub amount_least : 1 ≤ e.amount
  pub amount_most : e.amount ≤ largest_amount
  pub digits_least : 13 ≤ e.digits
  pub digits_most : e.digits ≤ 19
  pub card_packed : card_in_form e.digits e.card ≡ true
  pub date_packed : is_packed 4 e.date ≡ true
  pub authorisation_printable : all_printable e.authorisation ≡ true
  pub reference_printable : all_printable e.reference ≡ true
  pub reserved_zero : all_zero e.reserved ≡ true

pub in_form_lem : (e : Entry) → in_form e ≡ true → InForm e
unfolding in_form
in_form_lem e h =
    let t = simp and-eq-true_iff at h in
    let n = within-bounds 1 e.trace.0 last_number t.0.0.0.0.0.0.1 in
    let a = within-bounds 1 e.amount largest_amount t.0.0.0.0.0.1 in
    let d = card-bounds e.digits e.card t.0.0.0.0.1 in
    record {
      kind_listed = t.0.0.0.0.0.0.0.0.0;
      voided_most = leb-true _ _ t.0.0.0.0.0.0.0.0.1;
      mark_most = leb-true _ _ t.0.0.0.0.0.0.0.1;
      trace_least = n.0;
      trace_most = n.1;
      amount_least = a.0;
      amount_most = a.1;
      digits_least = d.0;
      digits_most = d.1;
      card_packed = t.0.0.0.0.1;
      date_packed = t.0.0.0.1;
      authorisation_printable = t.0.0.1;
      reference_printable = t.0.1;
      reserved_zero = t.1;
    }
