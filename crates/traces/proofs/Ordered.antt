-- Entries in the order in which traces are taken have no trace twice.
use mathlib.Core.Path.{◌≡◌, refl}
use mathlib.Core.List.{List, [], ◌∷◌}
use mathlib.Core.Bool.{Bool, true, false, not, ◌&&◌, ◌||◌}
use Prim.Native.Nat.{ℕ, ◌≤◌, ◌<◌}
use native.Mathlib.Omega.{arith}
use lib.Dec.{ltb}
use borrow.Author.Tests.{ltb-true}
use Rattle.entry.specs.declared.Entry.{Entry}
use Rattle.journal.specs.Journal.{absent, distinct}
use Rattle.traces.specs.Traces.{may_follow, rising, ordered}
use Rattle.traces.proofs.Absent.{absent_none, absent_other}

never : {P : Type 0} → ◌≡◌ {A = Bool} false true → P
never q = let z : ◌≡◌ {A = ℕ} 0 1 = cc in absurd (omega arith)

-- after the wrap: above the last, below the first
after_wrap : (f x : ℕ) (e : Entry) (es : List Entry) → rising f true x (e ∷ es) ≡ true
    → (x < e.trace.0) × ((e.trace.0 < f) × (rising f true e.trace.0 es ≡ true))
unfolding may_follow
after_wrap f x e es h = by (ltb x e.trace.0) refl (ltb e.trace.0 f) refl h
  where
    by : (a : Bool) → ltb x e.trace.0 ≡ a → (b : Bool) → ltb e.trace.0 f ≡ b
        → (((a && b) || false) && rising f true e.trace.0 es) ≡ true
        → (x < e.trace.0) × ((e.trace.0 < f) × (rising f true e.trace.0 es ≡ true))
    by true p true q r = (ltb-true _ _ p, (ltb-true _ _ q, r))
    by true p false q r = never r
    by false p b q r = never r

-- before the wrap: above the last, or the wrap
before_wrap : (f x : ℕ) (e : Entry) (es : List Entry) {P : Type 0} → rising f false x (e ∷ es) ≡ true
    → (x < e.trace.0 → rising f false e.trace.0 es ≡ true → P)
    → (e.trace.0 < f → rising f true e.trace.0 es ≡ true → P)
    → P
unfolding may_follow
before_wrap f x e es {P} h up wrap = by (ltb x e.trace.0) refl (ltb e.trace.0 f) refl h
  where
    by : (a : Bool) → ltb x e.trace.0 ≡ a → (b : Bool) → ltb e.trace.0 f ≡ b
        → (((a && true) || b) && rising f (not a) e.trace.0 es) ≡ true
        → P
    by true p b q r = up (ltb-true _ _ p) r
    by false p true q r = wrap (ltb-true _ _ q) r
    by false p false q r = never r

-- what is not above the last is not met after the wrap, nor what is not below the first
low_absent : (f x y : ℕ) (es : List Entry) → y ≤ x → rising f true x es ≡ true → absent y es ≡ true
low_absent f x y [] l h = absent_none y
low_absent f x y (e ∷ es) l h =
    let a = after_wrap f x e es h in
    absent_other y e es (λ q. omega arith) (low_absent f e.trace.0 y es (omega arith) a.1.1)

high_absent : (f x y : ℕ) (es : List Entry) → f ≤ y → rising f true x es ≡ true → absent y es ≡ true
high_absent f x y [] l h = absent_none y
high_absent f x y (e ∷ es) l h =
    let a = after_wrap f x e es h in
    absent_other y e es (λ q. omega arith) (high_absent f e.trace.0 y es l a.1.1)

-- from the first to the last is not met before the wrap either
passed-absent : (f x y : ℕ) (es : List Entry) → f ≤ y → y ≤ x → rising f false x es ≡ true → absent y es ≡ true
passed-absent f x y [] l m h = absent_none y
passed-absent f x y (e ∷ es) l m h =
    before_wrap f x e es h
    (λ u r. absent_other y e es (λ q. omega arith) (passed-absent f e.trace.0 y es l (omega arith) r))
    (λ u r. absent_other y e es (λ q. omega arith) (high_absent f e.trace.0 y es l r))

wrapped_distinct : (f x : ℕ) (es : List Entry) → rising f true x es ≡ true → distinct es ≡ true
wrapped_distinct f x [] h = refl
wrapped_distinct f x (e ∷ es) h =
    let a = after_wrap f x e es h in
    rw (low_absent f e.trace.0 e.trace.0 es (omega arith) a.1.1, wrapped_distinct f e.trace.0 es a.1.1)

rising-distinct : (f x : ℕ) (es : List Entry) → f ≤ x → rising f false x es ≡ true → distinct es ≡ true
rising-distinct f x [] l h = refl
rising-distinct f x (e ∷ es) l h =
    before_wrap f x e es h
    (λ u r. rw (passed-absent f e.trace.0 e.trace.0 es (omega arith) (omega arith) r, rising-distinct f e.trace.0 es (omega arith) r))
    (λ u r. rw (low_absent f e.trace.0 e.trace.0 es (omega arith) r, wrapped_distinct f e.trace.0 es r))

pub ordered-distinct : (es : List Entry) → ordered es ≡ true → distinct es ≡ true
ordered-distinct [] h = refl
ordered-distinct (e ∷ es) h =
    rw (
      passed-absent e.trace.0 e.trace.0 e.trace.0 es (omega arith) (omega arith) h,
      rising-distinct e.trace.0 e.trace.0 es (omega arith) h,
    )
