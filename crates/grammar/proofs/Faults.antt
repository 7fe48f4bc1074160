-- Laws of the first fault of a line.
use Rattle.std.specs.Prelude.{Result, Ok, Err, is_ok}
use mathlib.Core.Path.{◌≡◌, refl, sym, ◌∙◌}
use mathlib.Core.List.{List}
use mathlib.Core.Bool.{Bool, true, false, cond, ◌&&◌}
use Prim.Native.Nat.{ℕ, suc, ◌+◌, ◌-◌, ◌/◌, ◌≤◌, ◌<◌}
use native.Mathlib.Omega.{arith}
use native.Mathlib.Numerals.{add-one}
use lib.Dec.{leb}
use lib.ListN.{length}
use Rattle.hexadecimal.specs.Hexadecimal.{is_hex}
use Rattle.hexadecimal.specs.Outcome.{hex_outcome}
use Rattle.hexadecimal.specs.declared.HexError.{HexError}
use Rattle.hexadecimal.specs.declared.HexError.TheVariants.{NotHexadecimal, TooLong}
use Rattle.words.specs.Words.{word_at}
use Rattle.grammar.specs.declared.Shape.{Shape}
use Rattle.grammar.specs.declared.Fault.{Fault}
use Rattle.grammar.specs.Shapes.{is_bytes, judged, or_else, fault_from, line_fault}
use Rattle.grammar.specs.Table.{shape_at}

-- the words from word i on decide: those before it are fine
pub record Left (k : ℕ) (s : List ℕ) (i : ℕ) : Type 0 where
  pub begins : 1 ≤ i
  pub bound : i ≤ 11
  pub eq : fault_from 1 10 k s ≡ fault_from i (11 - i) k s

module _ {k i : ℕ} {s : List ℕ} (l : Left k s i) where
  module _ (h : i < 11) {v : Result (Unit {0}) Fault} {x : Shape} {b w : List ℕ} (e : v ≡ judged x i b w) (p : x ≡ shape_at k i) (o : b ≡ word_at (i - 1) s) (q : w ≡ word_at i s) where
    step : fault_from 1 10 k s ≡ or_else v (fault_from (suc i) (11 - suc i) k s)
    step = let z : 11 - i ≡ suc (11 - suc i) = omega arith in l.eq ∙ rw (e, p, o, q, z)

    pub fine_one : {u : Unit {0}} → v ≡ Ok u → Left k s (i + 1)
    fine_one f = record { begins = omega arith; bound = omega arith; eq = rw add-one (step ∙ rw f) }

    pub wrong_one : {f : Fault} → v ≡ Err f → Err f ≡ line_fault k s
    unfolding line_fault
    wrong_one f = sym (step ∙ rw f)

  pub none_left : 11 ≤ i → Ok tt ≡ line_fault k s
  unfolding line_fault
  none_left h = let z : 11 - i ≡ 0 = omega arith in sym (l.eq ∙ rw z)

-- hexadecimal text gives bytes where there is room for them
pub gave_bytes : (w : List ℕ) → is_ok (hex_outcome w 2048) ≡ is_bytes w
unfolding is_bytes hex_outcome
gave_bytes w = go (is_hex w) (leb (length w / 2) 2048)
  where
    go : (a b : Bool)
        → ◌≡◌ {A = Bool} (is_ok {T = ℕ} {E = HexError} (cond a (cond b (Ok (length w / 2)) (Err TooLong)) (Err NotHexadecimal))) (a && b)
    go true true = refl
    go true false = refl
    go false b = refl
