-- Laws of what a line takes of some bytes.
use mathlib.Core.Path.{◌≡◌, refl}
use mathlib.Core.List.{List}
use mathlib.Core.Bool.{Bool, true, false, cond}
use Prim.Native.Nat.{ℕ, ◌+◌, ◌≤◌}
use native.Mathlib.Omega.{arith}
use borrow.Author.Tests.{ltb-true}
use lib.Dec.{ltb}
use lib.ListN.{length, take, length-take}
use Rattle.words.specs.Bytes.{index_of}
use Rattle.line_ends.specs.Lines.{has_feed, used}

-- a line takes no more bytes than there are
used-within : (s : List ℕ) → used s ≤ length s
unfolding used has_feed
used-within s = go (ltb (index_of 0x0A s) (length s)) refl
  where
    go : (t : Bool) → ltb (index_of 0x0A s) (length s) ≡ t → cond t (index_of 0x0A s + 1) (length s) ≤ length s
    go true e = omega (arith, ltb-true)
    go false e = omega arith

pub used-part : (n : ℕ) (s : List ℕ) → used (take n s) ≤ n
used-part n s = omega (arith, used-within (take n s), length-take n s)
