-- What `take` gives, by its two tests.
use mathlib.Core.Path.{◌≡◌}
use mathlib.Core.List.{List, ◌++◌, append-nil}
use Prim.Native.Nat.{ℕ}
use native.Mathlib.Omega.{arith}
use lib.ListN.{length, take, drop, drop_of_length-le}
use lib.Seq.{take-length}
use borrow.Author.Tests.{eq-eqb, ne_eqb}
use Rattle.field.specs.Contents.{fault}
use Rattle.field.specs.declared.Class.{Class}
use Rattle.contents.specs.Taken.{refusal, Taken}

-- a copy over a list of the same length
pub copied : (b o : List ℕ) → length o ≡ length b → take (length b) b ++ drop (length b) o ≡ b
copied b o h = rw (take-length b, drop_of_length-le o {i = length b} (omega (arith, h))) (append-nil b)

module _ {class : Class} {n : ℕ} {b out : List ℕ} {room : ℕ} where
  pub not_filled : (room ≡ length b → ⊥) → Taken class n b room 3 out
  unfolding refusal
  not_filled h = record { number = rw (ne_eqb room (length b) h); copied = λ e. absurd (omega (arith, e)) }

  pub filled : {r : ℕ} → room ≡ length b → r ≡ fault class n b → (r ≡ 0 → out ≡ b) → Taken class n b room r out
  unfolding refusal
  filled h e k = record { number = rw (eq-eqb room (length b) h) e; copied = k }

  -- for who has filled its room
  pub filled-number : {r : ℕ} → Taken class n b room r out → room ≡ length b → r ≡ fault class n b
  unfolding refusal
  filled-number t h = rw (eq-eqb room (length b) h) at t.number
