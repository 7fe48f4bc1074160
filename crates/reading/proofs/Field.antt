-- One field, found and copied.
use Rattle.std.specs.Prelude.{Err, Result}
use mathlib.Core.Path.{◌≡◌, sym, ◌∙◌}
use mathlib.Core.List.{List, ◌++◌}
use Prim.Native.Nat.{ℕ, ◌+◌, ◌-◌, ◌≤◌}
use native.Mathlib.Omega.{arith}
use lib.ListN.{length, take, drop, length-drop}
use lib.Seq.{length-take-le}
use Rattle.field.specs.Contents.{room, fault}
use Rattle.field.specs.declared.Format.{Format}
use Rattle.contents.specs.Taken.{Taken}
use Rattle.contents.proofs.Taken.{filled-number}
use Rattle.span.specs.Span.{frame_at, spans}
use Rattle.span.specs.declared.Span.{Span}
use Rattle.span.proofs.Held.{refused-held, same_spans, Fits}
use Rattle.span.proofs.Frame.{frame_refused, frame_held, frame_fault, frame_fits}
use Rattle.reading.specs.Found.{Copied}

pub field_fits : (f : Format) (s : List ℕ) {t : Result Span ℕ} {n p z : ℕ} → t ≡ frame_at f s → t ≡ spans n p z → Fits f s p z
field_fits f s q g = frame_fits f s (sym q ∙ g)

module _ (f : Format) (s o : List ℕ) {t : Result Span ℕ} (q : t ≡ frame_at f s) where
  pub field-refused : {e : ℕ} {out : List ℕ} → t ≡ Err e → Copied f s o (Err e) out
  field-refused g = record { found = sym (frame_refused f s (sym q ∙ g)); copied = λ n p z h. absurd (refused-held h) }

  -- its contents, tested and copied to the front of o
  module _ {n p z : ℕ} (g : t ≡ spans n p z) (w : room f ≤ length o) {x : ℕ} {y : List ℕ}
      (k : Taken f.class n (take (p + z - p) (drop p s)) (length (take z o)) x y) where
    one_end : p + z - p ≡ z
    one_end = omega arith

    judged : x ≡ fault f.class n (take z (drop p s))
    judged =
        let b = field_fits f s q g in
        let lb : length (take z (drop p s)) ≡ z = length-take-le z (drop p s) (rw length-drop (omega (arith, b.within))) in
        let lo : length (take z o) ≡ z = length-take-le z o (omega (arith, b.placed)) in
        filled-number (rw one_end at k) (lo ∙ sym lb)

    pub field_fault : {out : List ℕ} → (x ≡ 0 → ⊥) → Copied f s o (Err x) out
    field_fault d =
        record { found = sym (frame_fault f s (sym q ∙ g) (sym judged) d); copied = λ n p z h. absurd (refused-held h) }

    pub field-copied : x ≡ 0 → Copied f s o (spans n p z) (y ++ drop z o)
    field-copied d =
        record {
          found = sym (frame_held f s (sym q ∙ g) (sym judged ∙ d));
          copied = λ n' p' z' h.
              let same = same_spans h in
              rw (← same.1.0, ← same.1.1, k.copied d, one_end);
        }
