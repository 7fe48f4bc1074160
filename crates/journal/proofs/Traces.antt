-- Laws of the traces of a journal's entries.
use Rattle.std.specs.Prelude.{None}
use mathlib.Core.Path.{◌≡◌, refl, sym, ◌∙◌}
use mathlib.Core.List.{List, [], ◌∷◌, ◌++◌}
use mathlib.Core.Bool.{Bool, true, false, not, ◌&&◌, and_assoc, and_comm, and-eq-true_iff}
use Prim.Native.Nat.{ℕ, zero, suc, ◌<◌}
use native.Mathlib.Omega.{arith}
use native.Mathlib.Decide.{ℕ_discrete}
use lib.Dec.{eqb}
use lib.ListN.{length}
use borrow.Author.Tests.{eq-eqb, ne_eqb, not-true, eqb-false}
use Rattle.entry.specs.declared.Entry.{Entry}
use Rattle.journal.specs.Journal.{entry_at, first_of, has_trace, absent, distinct, with_voided, with_mark, with_resends, changed_at}
use Rattle.journal.proofs.Searches.{every-last, every-at, every-all, every-changed, every-place, first-nowhere, nowhere-first}

-- a change that keeps the trace
abbrev pub KeepsTrace : (Entry → Entry) → Type 0
KeepsTrace f = (e : Entry) → (f e).trace.0 ≡ e.trace.0

pub voided-trace : (x : ℕ) → KeepsTrace (with_voided x)
unfolding with_voided
voided-trace x e = refl

pub mark_trace : (x : ℕ) → KeepsTrace (with_mark x)
unfolding with_mark
mark_trace x e = refl

pub resends-trace : (x : ℕ) → KeepsTrace (with_resends x)
unfolding with_resends
resends-trace x e = refl

eqb_comm : (a b : ℕ) → eqb a b ≡ eqb b a
eqb_comm a b = go (ℕ_discrete a b)
  where
    go : Dec (a ≡ b) → eqb a b ≡ eqb b a
    go (yes e) = eq-eqb a b e ∙ sym (eq-eqb b a (sym e))
    go (no e) = ne_eqb a b e ∙ sym (ne_eqb b a (λ q. e (sym q)))

has_comm : (e f : Entry) → has_trace e.trace.0 f ≡ has_trace f.trace.0 e
unfolding has_trace
has_comm e f = eqb_comm f.trace.0 e.trace.0

-- the test that an entry has another trace
abbrev other : ℕ → ℕ → Entry → Bool
other x i e = not (has_trace x e)

pub absent-first : (x : ℕ) (es : List Entry) → absent x es ≡ true → first_of (has_trace x) 0 es ≡ None
unfolding absent
absent-first x es h = nowhere-first (has_trace x) 0 es h

pub first_absent : (x : ℕ) (es : List Entry) → first_of (has_trace x) 0 es ≡ None → absent x es ≡ true
unfolding absent
first_absent x es h = first-nowhere (has_trace x) 0 es h

pub absent-at : (x : ℕ) (es : List Entry) → absent x es ≡ true → (k : ℕ) → k < length es → (entry_at es k).trace.0 ≡ x → ⊥
unfolding absent has_trace
absent-at x es h k l = eqb-false _ _ (not-true _ (every-at (other x) 0 es h k l))

pub absent-all : (x : ℕ) (es : List Entry) → ((k : ℕ) → k < length es → (entry_at es k).trace.0 ≡ x → ⊥) → absent x es ≡ true
unfolding absent has_trace
absent-all x es h = every-all (other x) 0 es (λ k l. rw (ne_eqb _ _ (h k l)))

pub absent_more : (x : ℕ) (e : Entry) (es : List Entry) → absent x (e ∷ es) ≡ (not (has_trace x e) && absent x es)
unfolding absent
absent_more x e es = rw (every-place (λ e. not (has_trace x e)) 1 0 es)

pub absent-last : (x : ℕ) (es : List Entry) (e : Entry) → absent x (es ++ (e ∷ [])) ≡ (absent x es && not (has_trace x e))
unfolding absent
absent-last x es e = every-last (other x) 0 es e

pub absent-changed : (f : Entry → Entry) → KeepsTrace f → (x i : ℕ) (es : List Entry) → absent x (changed_at i f es) ≡ absent x es
unfolding absent has_trace
absent-changed f h x i es = every-changed (other x) f (λ k e. rw (h e)) i 0 es

-- the middle two of four change places
swap : (a b c d : Bool) → ((a && b) && (c && d)) ≡ ((a && c) && (b && d))
swap true b c d = sym (and_assoc b c d) ∙ rw (and_comm b c) (and_assoc c b d)
swap false b c d = refl

pub distinct-last : (es : List Entry) (e : Entry) → distinct (es ++ (e ∷ [])) ≡ (distinct es && absent e.trace.0 es)
unfolding absent
distinct-last [] e = refl
distinct-last (x ∷ es) e =
    rw (absent-last x.trace.0 es e, distinct-last es e, absent_more e.trace.0 x es, has_comm x e)
    (swap (absent x.trace.0 es) (not (has_trace e.trace.0 x)) (distinct es) (absent e.trace.0 es))

pub distinct-changed : (f : Entry → Entry) → KeepsTrace f → (i : ℕ) (es : List Entry) → distinct (changed_at i f es) ≡ distinct es
distinct-changed f h i [] = refl
distinct-changed f h zero (e ∷ es) = rw (h e)
distinct-changed f h (suc i) (e ∷ es) = rw (absent-changed f h e.trace.0 i es, distinct-changed f h i es)

-- entries at two places have two traces
pub distinct-at : (es : List Entry) → distinct es ≡ true → (i k : ℕ) → i < k → k < length es
    → (entry_at es k).trace.0 ≡ (entry_at es i).trace.0 → ⊥
distinct-at [] h i k l m = absurd (omega arith)
distinct-at (e ∷ es) h zero zero l m = absurd (omega arith)
distinct-at (e ∷ es) h zero (suc k) l m = absent-at e.trace.0 es ((and-eq-true_iff (absent e.trace.0 es) _).0 h).0 k (omega arith)
distinct-at (e ∷ es) h (suc i) zero l m = absurd (omega arith)
distinct-at (e ∷ es) h (suc i) (suc k) l m =
    distinct-at es ((and-eq-true_iff (absent e.trace.0 es) _).0 h).1 i k (omega arith) (omega arith)
