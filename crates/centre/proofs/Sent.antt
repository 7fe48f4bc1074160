-- Fields that are sent back, from the arrays that hold them.
use mathlib.Core.Path.{◌≡◌, refl, ap, ◌∙◌}
use mathlib.Core.List.{List, ◌∷◌, ◌++◌}
use mathlib.Core.Bool.{Bool, true, cond}
use Prim.Native.Nat.{ℕ, zero, suc, ◌*◌, ◌≤◌}
use native.Mathlib.Omega.{arith}
use lib.Dec.{eqb}
use lib.ListN.{length, take, drop, replicate, length-replicate}
use lib.Seq.{length-take-le}
use borrow.Author.Tests.{eq-eqb}
use Rattle.digits.specs.Digits.{pack}
use Rattle.digits.specs.Numbers.{digits_of}
use Rattle.digits.proofs.Lists.{front_back}
use Rattle.message.specs.Message.{field_of}
use Rattle.message.specs.Build.{bytes}
use Rattle.message.specs.declared.Message.{Message}
use Rattle.parts.specs.Parts.{copies}
use Rattle.compose.specs.Compose.{with_item}
use Rattle.hexadecimal.specs.Hexadecimal.{to_hex}
use Rattle.centre.specs.Centre.{sent_number, bytes_sent, trace_figures}

take-replicate : (k n x : ℕ) → k ≤ n → take k (replicate n x) ≡ replicate k x
take-replicate zero n x h = refl
take-replicate (suc k) zero x h = absurd (omega arith)
take-replicate (suc k) (suc n) x h = ap (λ (r : List ℕ). x ∷ r) (take-replicate k n x (omega arith))

-- the arrays as they begin
abbrev pub spaces : List ℕ
spaces = replicate 15 0x20

abbrev pub zeros : ℕ → List ℕ
zeros n = replicate n 0

-- the front of an array of spaces, which a field of its length fills
pub bytes_put : (m : Message) (n : ℕ) (sent : Message) (k : ℕ) {e : List ℕ} {r : Message} → k ≤ 15
    → length e ≡ length (take k spaces)
    → e ≡ cond (copies sent n (length (take k spaces))) (field_of sent n).bytes (take k spaces)
    → r ≡ with_item (bytes n (take k (e ++ drop k spaces))) m → r ≡ with_item (bytes_sent n k sent) m
bytes_put m n sent k {e} h l p g =
    g ∙ rw (front_back k e spaces l h, p, take-replicate k 15 0x20 h, length-replicate)

-- the trace in the front of an array, and its digits in the front of another
module _ (m : Message) (n : ℕ) (sent : Message) (k : ℕ) (h : k ≤ 6) {v : ℕ} {e f : List ℕ} {b : Bool} {r : Message} where
  pub figures_put : v ≡ sent_number 11 0 6 sent
      → length e ≡ length (take k (zeros 6)) → e ≡ pack (digits_of (2 * length (take k (zeros 6))) v)
      → length f ≡ length (take (2 * k) (zeros 12))
      → b ≡ eqb (length (take (2 * k) (zeros 12))) (2 * length (take k (e ++ drop k (zeros 6))))
      → f ≡ cond b (to_hex (take k (e ++ drop k (zeros 6)))) (take (2 * k) (zeros 12))
      → r ≡ with_item (bytes n (take (2 * k) (f ++ drop (2 * k) (zeros 12)))) m
      → r ≡ with_item (bytes n (trace_figures (2 * k) sent)) m
  figures_put t l p w q s g =
      let lk : length (take k (zeros 6)) ≡ k = length-take-le k (zeros 6) h in
      let lt : length (take (2 * k) (zeros 12)) ≡ 2 * k = length-take-le (2 * k) (zeros 12) (omega arith) in
      let back = front_back k e (zeros 6) l h in
      let yes : b ≡ true = q ∙ rw back (eq-eqb (length (take (2 * k) (zeros 12))) (2 * length e) (omega arith)) in
      g ∙ rw (front_back (2 * k) f (zeros 12) w (omega arith), s, yes, back, p, lk, t)
