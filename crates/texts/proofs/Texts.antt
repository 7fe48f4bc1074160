-- Laws of texts that grow in a buffer.
use mathlib.Core.Path.{◌≡◌, refl, sym, ◌∙◌}
use mathlib.Core.List.{List, [], ◌∷◌, ◌++◌, append_assoc, append-nil}
use Prim.Native.Nat.{ℕ, zero, suc, ◌+◌, ◌-◌, ◌*◌, ◌/◌, ◌%◌, ◌≤◌, ◌<◌, min}
use native.Mathlib.Omega.{arith}
use native.Mathlib.Decide.{dec_lt}
use native.Mathlib.Numerals.{add-one}
use lib.ListN.{length, take, drop, get_or, length-append, get_or-append}
use lib.Seq.{take-length, take-suc, take-append-le, take-append-add, take-paste, length-paste, get_or_at}
use borrow.Rule.Slice.PartMut.{put_mid, Post-is}
use Rattle.digits.specs.Lists.{tabulate}
use Rattle.hexadecimal.specs.Hexadecimal.{to_hex, hex_at}
use Rattle.texts.specs.Text.{Text, Adds}

-- no text yet
pub start : (o : List ℕ) → Text [] 0 o
start o = record { count = omega arith; holds = refl }

pub within : {w o : List ℕ} {n : ℕ} → Text w n o → n ≤ length o
within t = omega (arith, t.count)

pub nothing : {n : ℕ} {o : List ℕ} → Adds [] n o n o
nothing w t = rw append-nil t

pub and_then : {x y o l l2 : List ℕ} {n r r2 : ℕ} → Adds x n o r l → Adds y r l r2 l2 → Adds (x ++ y) n o r2 l2
and_then {x} {y} a b w t = rw append_assoc at (b (w ++ x) (a w t))

-- as much of x as there is room for, after the text w
pub grows : {w o l : List ℕ} {n k : ℕ} (x : List ℕ) → Text w n o → k ≡ min (length x) (length o - n)
    → l ≡ take n o ++ take k x ++ drop (n + k) o → Text (w ++ x) (n + k) l
grows {w} {o} {l} {n} {k} x t e q =
    let h = within t in
    record {
      count = rw (q, length-append w x, length-paste o n x k (omega arith) (omega arith)) (omega (arith, t.count));
      holds = rw q (take-paste o n x k h (omega arith) ∙ rw t.holds (go (dec_lt (length o) (length w))));
    }
  where
    go : Dec (length o < length w) → take n w ++ take k x ≡ take (n + k) (w ++ x)
    go (yes r) =
        let z : k ≡ 0 = omega (arith, t.count) in
        let s : n + 0 ≡ n = omega arith in
        rw (z, s, append-nil, take-append-le n w x (omega (arith, t.count)))
    go (no r) =
        let z : n ≡ length w = omega (arith, t.count) in
        rw (z, take-length, take-append-add)

module _ (x o : List ℕ) (n k : ℕ) (h : n ≤ length o) (q : k ≡ min (length x) (length o - n)) where
  -- x, copied there
  pub adds-copied : (e : List ℕ) → e ≡ take k x
      → Adds x n o (n + k) (put_mid n (n + k - n) o e)
  adds-copied e s w t =
      grows x t q (rw (s, Post-is n (n + k) o (omega arith)) (sym (append_assoc (take n o) (take k x) (drop (n + k) o))))

module _ (s : List ℕ) (b : ℕ) where
  hex_in : (i : ℕ) → i < 2 * length s → hex_at (s ++ (b ∷ [])) i ≡ hex_at s i
  unfolding hex_at
  hex_in i h = rw (get_or-append s (b ∷ []) 0 (i / 2) (omega arith))

  hex_front : (n : ℕ) → n ≤ 2 * length s → tabulate n (hex_at (s ++ (b ∷ []))) ≡ tabulate n (hex_at s)
  hex_front zero h = refl
  hex_front (suc n) h = rw (hex_front n (omega arith), hex_in n h)

  hex_left : hex_at (s ++ (b ∷ [])) (2 * length s) ≡ hex_at (b ∷ []) 0
  unfolding hex_at
  hex_left =
      let p : 2 * length s % 2 ≡ 0 = omega arith in
      let q : 2 * length s / 2 ≡ length s = omega arith in
      rw (p, q, get_or_at s b [] 0 (length s) refl)

  hex_right : hex_at (s ++ (b ∷ [])) (suc (2 * length s)) ≡ hex_at (b ∷ []) 1
  unfolding hex_at
  hex_right =
      let p : suc (2 * length s) % 2 ≡ 1 = omega arith in
      let q : suc (2 * length s) / 2 ≡ length s = omega arith in
      rw (p, q, get_or_at s b [] 0 (length s) refl)

  pub hex_snoc : to_hex (s ++ (b ∷ [])) ≡ to_hex s ++ to_hex (b ∷ [])
  unfolding to_hex
  hex_snoc =
      let n : 2 * length (s ++ (b ∷ [])) ≡ suc (suc (2 * length s)) = rw length-append (omega arith) in
      rw (n, hex_front (2 * length s) (omega arith), hex_left, hex_right, append_assoc)

pub hex_none : {n : ℕ} {o : List ℕ} → Adds (to_hex []) n o n o
unfolding to_hex
hex_none = nothing

-- the text of one byte more
pub hex_next : {o l l2 : List ℕ} {n r r2 : ℕ} (s : List ℕ) (i : ℕ) → i < length s → Adds (to_hex (take i s)) n o r l
    → Adds (to_hex (get_or s i 0 ∷ [])) r l r2 l2 → Adds (to_hex (take (i + 1) s)) n o r2 l2
hex_next s i h a b = rw (add-one, take-suc s i 0 h, hex_snoc (take i s) (get_or s i 0)) (and_then a b)
