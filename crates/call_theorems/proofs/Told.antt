-- What each outcome says of a call, shown once for the ways in which a call ends.
use mathlib.Core.Path.{◌≡◌, refl}
use mathlib.Core.List.{List, ◌++◌}
use mathlib.Core.Bool.{Bool, true, false, cond}
use Prim.Native.Nat.{ℕ}
use native.Mathlib.Omega.{arith}
use lib.Dec.{eqb}
use lib.ListN.{length, drop}
use borrow.Author.Tests.{eqb-true}
use Rattle.reading.specs.Reading.{read_message, Read}
use Rattle.state.specs.declared.State.{State}
use Rattle.state.specs.declared.Outcome.TheVariants.{Send, Quiet, Refused}
use Rattle.state.specs.Calls.{Lent, with_journal, Result, judged, refused, quiet, sends}
use Rattle.call_theorems.specs.Facts.{Leaves}

-- a refusal changes nothing, a quiet change leaves the message buffer, and what leaves reads, where the arrays are shaped
pub record Told (Shaped : Type 0) (s : State) (lent : Lent) (r : Result) : Type 0 where
  pub when_refused : (n : ℕ) → r.outcome ≡ Refused n → r ≡ refused n s lent
  pub when_quiet : r.outcome ≡ Quiet → r.lent.message ≡ lent.message
  pub when_sent : Shaped → (k : ℕ) → r.outcome ≡ Send k → Leaves k r.lent.message lent.message

-- 0 and 1, which two different outcomes would make equal
never : {A : Type 0} → ◌≡◌ {A = ℕ} 0 1 → A
never z = absurd (omega arith)

same_number : (k n : ℕ) → Refused k ≡ Refused n → k ≡ n
same_number k n e = cc

same_count : (k n : ℕ) → Send k ≡ Send n → k ≡ n
same_count k n e = cc

leaves-bytes : (bs m : List ℕ) (k : ℕ) → (read_message bs).outcome ≡ Read → length bs ≡ k → Leaves k (bs ++ drop (length bs) m) m
leaves-bytes bs m k r e = record { bytes = bs; count = e; reads = r; rest = rw e }

module _ {Shaped : Type 0} {s : State} {lent : Lent} where
  pub told-refused : {n : ℕ} → Told Shaped s lent (refused n s lent)
  told-refused {n} =
      record { when_refused = λ k e. rw (same_number n k e); when_quiet = λ e. never (cc); when_sent = λ h k e. never (cc) }

  pub told-quiet : {t : State} {i : List ℕ} → Told Shaped s lent (quiet t (with_journal i lent))
  told-quiet = record { when_refused = λ n e. never (cc); when_quiet = λ e. refl; when_sent = λ h k e. never (cc) }

  pub told-sent : (bs : List ℕ) {t : State} {i : List ℕ} → (Shaped → (read_message bs).outcome ≡ Read) → Told Shaped s lent (sends bs t (with_journal i lent))
  told-sent bs r =
      record {
        when_refused = λ n e. never (cc);
        when_quiet = λ e. never (cc);
        when_sent = λ h k e. leaves-bytes bs lent.message k (r h) (same_count (length bs) k e);
      }

  -- a call that is refused by the first rule broken, or does what is said
  pub told-judged : (n : ℕ) (done : Result) → (n ≡ 0 → Told Shaped s lent done) → Told Shaped s lent (judged n s lent done)
  unfolding judged
  told-judged n done h = go (eqb n 0) refl
    where
      go : (b : Bool) → eqb n 0 ≡ b → Told Shaped s lent (cond b done (refused n s lent))
      go true e = h (eqb-true n 0 e)
      go false e = told-refused
