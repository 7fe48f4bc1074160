-- Laws of a trace that no entry has, by the entries one after the other.
use mathlib.Core.Path.{◌≡◌, refl, sym, ◌∙◌}
use mathlib.Core.List.{List, [], ◌∷◌}
use mathlib.Core.Bool.{Bool, true, false, not, ◌&&◌, and-eq-true_iff}
use Prim.Native.Nat.{ℕ, zero, suc, ◌<◌}
use native.Mathlib.Omega.{arith}
use lib.Dec.{eqb}
use lib.ListN.{length, take}
use borrow.Author.Tests.{ne_eqb}
use Rattle.entry.specs.declared.Entry.{Entry}
use Rattle.journal.specs.Journal.{entry_at, has_trace, absent}
use Rattle.journal.proofs.Traces.{absent-at, absent_more}

pub absent_none : (x : ℕ) → absent x [] ≡ true
unfolding absent
absent_none x = refl

pub absent_cons : (x : ℕ) (e : Entry) (es : List Entry) → absent x (e ∷ es) ≡ (not (eqb e.trace.0 x) && absent x es)
unfolding has_trace
absent_cons x e es = absent_more x e es

-- one more entry, of another trace
pub absent_other : (x : ℕ) (e : Entry) (es : List Entry) → (e.trace.0 ≡ x → ⊥) → absent x es ≡ true → absent x (e ∷ es) ≡ true
absent_other x e es d r = absent_cons x e es ∙ rw (ne_eqb e.trace.0 x d, r)

-- none of the first i has it, and entry i has another
pub absent-next : (x i : ℕ) (es : List Entry) → i < length es → ((entry_at es i).trace.0 ≡ x → ⊥)
    → absent x (take i es) ≡ true → absent x (take (suc i) es) ≡ true
absent-next x i [] h d r = absurd (omega arith)
absent-next x zero (e ∷ es) h d r = absent_other x e [] d r
absent-next x (suc i) (e ∷ es) h d r =
    let a = (and-eq-true_iff (not (eqb e.trace.0 x)) (absent x (take i es))).0 (sym (absent_cons x e (take i es)) ∙ r) in
    absent_cons x e (take (suc i) es) ∙ rw (a.0, absent-next x i es (omega arith) d a.1)

not_absent : (x : ℕ) (es : List Entry) → (absent x es ≡ true → ⊥) → absent x es ≡ false
not_absent x es h = by (absent x es) h
  where
    by : (b : Bool) → (b ≡ true → ⊥) → b ≡ false
    by true h = absurd (h refl)
    by false h = refl

-- entry i has it
pub present_at : (x i : ℕ) (es : List Entry) → i < length es → (entry_at es i).trace.0 ≡ x → absent x es ≡ false
present_at x i es h q = not_absent x es (λ r. absent-at x es r i h q)
