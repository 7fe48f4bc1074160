-- A field's length and its contents, written one after the other.
use mathlib.Core.Path.{◌≡◌, refl, ap, sym, ◌∙◌}
use mathlib.Core.List.{List, ◌++◌}
use Prim.Native.Nat.{ℕ, ◌+◌, ◌*◌, ◌-◌, ◌≤◌}
use native.Mathlib.Omega.{arith}
use lib.ListN.{length, take, drop, length-append, length-drop}
use lib.Seq.{take_at, length-take-le}
use borrow.Author.Tests.{le-ltb}
use Rattle.std.specs.Prelude.{Result, Ok, Err}
use Rattle.checks.specs.Refusals.{number_of, refused_by}
use Rattle.checks.specs.declared.Refusal.{Refusal}
use Rattle.checks.proofs.Refusals.{number_positive}
use Rattle.digits.specs.Digits.{pack}
use Rattle.digits.specs.Numbers.{digits_of}
use Rattle.digits.proofs.Lists.{two_parts}
use Rattle.field.specs.Contents.{size, skip, fault}
use Rattle.field.specs.declared.Format.{Format}
use Rattle.contents.specs.Taken.{Taken}
use Rattle.contents.proofs.Taken.{filled-number}
use Rattle.span.specs.Span.{field_bytes}
use Rattle.field_writing.specs.Placing.{held_fault, Placing}

pub placing_refused : {e : ℕ} {x : Refusal} {bs o : List ℕ} → e ≡ number_of x → Placing e bs (Err x) o
placing_refused {x = x} q =
    record { fault_is = sym q; size_is = λ z. absurd (number_positive x (sym q ∙ z)); bytes = λ z. absurd (number_positive x (sym q ∙ z)) }

-- the part of o after its first k bytes, which were written as x
module _ (x o : List ℕ) (k z : ℕ) (l : length x ≡ length (take k o)) (w : k + z ≤ length o) where
  length_front : length x ≡ k
  length_front = l ∙ length-take-le k o (omega arith)

  length_part : length (take (k + z - k) (drop k (x ++ drop k o))) ≡ z
  length_part =
      length-take-le (k + z - k) (drop k (x ++ drop k o)) (simp (length-drop, length-append) (omega (arith, length_front))) ∙ omega arith

  -- a field's length, then its contents
  pub placed : (f : Format) (n : ℕ) (bs : List ℕ) {y : List ℕ} {e : ℕ} {r : Result ℕ Refusal} → refused_by r ≡ e → (e ≡ 0 → r ≡ Ok (k + z)) → k ≡ skip f.prefix → z ≡ size f.class n
      → z ≤ length bs → x ≡ pack (digits_of (2 * skip f.prefix) n)
      → Taken f.class n (take z bs) (length (take (k + z - k) (drop k (x ++ drop k o)))) e y
      → Placing (held_fault f n bs o) (field_bytes f n (take (size f.class n) bs)) r
      (take k (x ++ drop k o) ++ (y ++ drop (k + z - k) (drop k (x ++ drop k o))))
  unfolding held_fault field_bytes
  placed f n bs {y} {e} er ok ek ez h ex t =
      let lz : length (take z bs) ≡ z = length-take-le z bs h in
      let ee : e ≡ fault f.class n (take z bs) = filled-number t (length_part ∙ sym lz) in
      let s : k + z - k ≡ z = omega arith in
      let lw : length (x ++ take z bs) ≡ k + z = length-append x (take z bs) ∙ rw (length_front, lz) in
      let xk : x ≡ pack (digits_of (2 * k) n) = rw ek ex in
      rw (← ez, ← ek, le-ltb _ _ h, le-ltb _ _ w, ← xk, s, two_parts k z x y o length_front)
      (record {
        fault_is = er ∙ ee;
        size_is = λ q. ok (ee ∙ q) ∙ ap Ok (sym lw);
        bytes = λ q. rw (t.copied (ee ∙ q)) (take_at (x ++ take z bs) (drop (k + z) o) _ refl);
      })
