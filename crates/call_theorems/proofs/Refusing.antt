-- A refused call leaves everything, and a message that leaves does not shorten the buffer.
use mathlib.Core.Path.{◌≡◌, refl}
use mathlib.Core.List.{List}
use mathlib.Core.Bool.{Bool, true, false, cond}
use Prim.Native.Nat.{ℕ}
use native.Mathlib.Omega.{arith}
use lib.Dec.{eqb}
use lib.ListN.{length-append, length-drop}
use borrow.Author.Tests.{eqb-true}
use Rattle.state.specs.declared.State.{State}
use Rattle.state.specs.Calls.{Lent, Result, judged, refused, sends}
use Rattle.rules.proofs.InOrder.{Fit}

-- rules 1 and 2 pass after a call
abbrev pub Fits : Result → Type 0
Fits r = Fit r.state r.lent

pub judged-fits : (n : ℕ) (s : State) (lent : Lent) (done : Result) → Fit s lent → (n ≡ 0 → Fits done) → Fits (judged n s lent done)
unfolding judged
judged-fits n s lent done h d = go (eqb n 0) refl
  where
    go : (b : Bool) → eqb n 0 ≡ b → Fits (cond b done (refused n s lent))
    go true e = d (eqb-true n 0 e)
    go false e = h

pub sent-fits : (bs : List ℕ) (s : State) (lent : Lent) → Fit s lent → Fits (sends bs s lent)
sent-fits bs s lent h =
    record {
      message_room = simp (length-append, length-drop) (omega (arith, h.message_room));
      journal_room = h.journal_room;
      order = h.order;
    }
