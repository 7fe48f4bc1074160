-- Laws of a comparison of each entry's trace with those noted before it.
use mathlib.Core.Path.{◌≡◌, refl, sym, ap, ◌∙◌}
use mathlib.Core.List.{List}
use mathlib.Core.Bool.{Bool, true, false, true≢false}
use Prim.Native.Nat.{ℕ, ◌+◌, ◌≤◌, ◌<◌}
use native.Mathlib.Omega.{arith}
use native.Mathlib.Numerals.{add-one}
use native.Mathlib.Decide.{ℕ_discrete}
use lib.ListN.{length, get_or, take, set}
use lib.Seq.{length-take-le, get_or-take, get_or-set_same, get_or-set_other}
use borrow.Author.Tests.{ne_eqb, not-true, eqb-false}
use Rattle.digits.proofs.Lists.{all-at, all_true}
use Rattle.entry.specs.declared.Entry.{Entry}
use Rattle.journal.specs.Journal.{entry_at, absent, distinct}
use Rattle.journal.proofs.Traces.{absent-all, distinct-last, distinct-at}
use Rattle.traces.specs.Traces.{trace_at, unseen}
use Rattle.traces.proofs.Entries.{take-entry, entry-take}

pub unseen_other : (t : ℕ) (xs : List ℕ) → unseen t xs ≡ true → (k : ℕ) → k < length xs → get_or xs k 0 ≡ t → ⊥
unfolding unseen
unseen_other t xs h k l = eqb-false _ _ (not-true _ (all-at _ (length xs) h k l))

pub unseen-all : (t : ℕ) (xs : List ℕ) → ((k : ℕ) → k < length xs → get_or xs k 0 ≡ t → ⊥) → unseen t xs ≡ true
unfolding unseen
unseen-all t xs h = all_true _ (length xs) (λ k l. rw (ne_eqb (get_or xs k 0) t (h k l)))

-- the first i entries have different traces, and these are noted
pub record Noted (es : List Entry) (i : ℕ) (seen : List ℕ) : Type 0 where
  pub bound : i ≤ length es
  pub apart : distinct (take i es) ≡ true
  pub held : (k : ℕ) → k < i → get_or seen k 0 ≡ trace_at es k

module _ {es : List Entry} {i t : ℕ} {seen : List ℕ} (r : Noted es i seen) (h : i < length es) (l : i < length seen) (q : t ≡ trace_at es i) where
  note : (k : ℕ) → k < length (take i seen) → get_or (take i seen) k 0 ≡ trace_at es k
  note k m =
      let n : length (take i seen) ≡ i = length-take-le i seen (omega arith) in
      get_or-take i seen k 0 (omega arith) ∙ r.held k (omega arith)

  new-absent : unseen t (take i seen) ≡ true → absent t (take i es) ≡ true
  unfolding trace_at
  new-absent u =
      let n : length (take i seen) ≡ i = length-take-le i seen (omega arith) in
      let m : length (take i es) ≡ i = length-take-le i es (omega arith) in
      absent-all t (take i es)
      (λ k b e. unseen_other t (take i seen) u k (omega arith)
      (note k (omega arith) ∙ ap (λ (x : Entry). x.trace.0) (sym (entry-take es i k (omega arith))) ∙ e))

  held_more : (k : ℕ) → k < i + 1 → get_or (set seen i t) k 0 ≡ trace_at es k
  held_more k m = go (ℕ_discrete k i)
    where
      go : Dec (k ≡ i) → get_or (set seen i t) k 0 ≡ trace_at es k
      go (yes e) = rw e (get_or-set_same seen i t 0 l ∙ q)
      go (no e) = get_or-set_other seen i k t 0 e ∙ r.held k (omega arith)

  pub noted_more : unseen t (take i seen) ≡ true → Noted es (i + 1) (set seen i t)
  unfolding trace_at
  noted_more u =
      record {
        bound = omega arith;
        apart = rw (add-one i, take-entry es i h, distinct-last (take i es) (entry_at es i), ← q, new-absent u, r.apart);
        held = held_more;
      }

  pub noted_stop : unseen t (take i seen) ≡ false → distinct es ≡ false
  unfolding trace_at
  noted_stop u = by (distinct es) refl
    where
      by : (b : Bool) → distinct es ≡ b → b ≡ false
      by false d = refl
      by true d =
          let n : length (take i seen) ≡ i = length-take-le i seen (omega arith) in
          absurd (true≢false (sym (unseen-all t (take i seen)
          (λ k m e. distinct-at es d k i (omega arith) h (sym q ∙ sym e ∙ note k m))) ∙ u))
