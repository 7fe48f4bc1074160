-- Laws of a pass over the entries, and of the passes of a search.
use mathlib.Core.Path.{◌≡◌, refl, sym, ap, ◌∙◌}
use mathlib.Core.List.{List}
use mathlib.Core.Bool.{Bool, true, false, ◌&&◌, and-eq-true_iff}
use Prim.Native.Nat.{ℕ, zero, suc, ◌+◌, ◌-◌, ◌≤◌, ◌<◌}
use native.Mathlib.Omega.{arith}
use native.Mathlib.Numerals.{add-one}
use lib.Dec.{eqb, ltb}
use lib.ListN.{length, take}
use borrow.Author.Tests.{eq-eqb, lt-ltb, eqb-true, ltb-true}
use Rattle.numbers.specs.Numbers.{following}
use Rattle.numbers.specs.declared.Trace.{Trace}
use Rattle.entry.specs.declared.Entry.{Entry}
use Rattle.journal.specs.Journal.{absent, taken_from, taken}
use Rattle.traces.specs.Traces.{trace_at, Pass}
use Rattle.traces.proofs.Absent.{absent_none, absent-next, present_at}

-- the first i entries are passed
pub record Passing (es : List Entry) (x left i y rest : ℕ) : Type 0 where
  pub bound : i ≤ length es
  pub same : x ≡ taken_from rest es y
  pub fewer : rest ≤ left
  pub free : left ≤ rest → 0 < rest → absent y (take i es) ≡ true

pub passing_none : (es : List Entry) (x left : ℕ) → Passing es (taken_from left es x) left 0 x left
passing_none es x left = record { bound = omega arith; same = refl; fewer = omega arith; free = λ a b. absent_none x }

on : (es : List Entry) (y rest : ℕ) → 0 < rest → absent y es ≡ false → taken_from rest es y ≡ taken_from (rest - 1) es (following y)
on es y zero h q = absurd (omega arith)
on es y (suc rest) h q = let m : suc rest - 1 ≡ rest = omega arith in rw (q, m)

pub some_left : (t y rest : ℕ) → (eqb t y && ltb 0 rest) ≡ true → 1 ≤ rest
some_left t y rest m = ltb-true 0 rest ((and-eq-true_iff (eqb t y) (ltb 0 rest)).0 m).1

-- entry i has the number
pub passing_met : {es : List Entry} {x left i y rest t z less : ℕ} → Passing es x left i y rest
    → i < length es → t ≡ trace_at es i → (eqb t y && ltb 0 rest) ≡ true → z ≡ following y → less ≡ rest - 1
    → Passing es x left (i + 1) z less
unfolding trace_at
passing_met {es} {x} {left} {i} {y} {rest} {t} r h q m a b =
    let p = (and-eq-true_iff (eqb t y) (ltb 0 rest)).0 m in
    rw (a, b)
    (record {
      bound = omega arith;
      same = r.same ∙ on es y rest (some_left t y rest m) (present_at y i es h (sym q ∙ eqb-true t y p.0));
      fewer = omega (arith, r.fewer);
      free = λ a b. absurd (omega (arith, r.fewer, some_left t y rest m));
    })

-- entry i has another, or no more may be left behind
pub passing_other : {es : List Entry} {x left i y rest t z less : ℕ} → Passing es x left i y rest
    → i < length es → t ≡ trace_at es i → (eqb t y && ltb 0 rest) ≡ false → z ≡ y → less ≡ rest
    → Passing es x left (i + 1) z less
unfolding trace_at
passing_other {es} {x} {left} {i} {y} {rest} {t} r h q m a b =
    rw (a, b)
    (record {
      bound = omega arith;
      same = r.same;
      fewer = r.fewer;
      free = λ a b. rw add-one (absent-next y i es h (λ f. no (q ∙ f) b) (r.free a b));
    })
  where
    no : t ≡ y → 0 < rest → ⊥
    no f k = let z : ◌≡◌ {A = Bool} true false = (rw (eq-eqb t y f, lt-ltb 0 rest k) at m) in let w : ◌≡◌ {A = ℕ} 0 1 = cc in omega arith

-- a pass that left none behind was the last
stays : (es : List Entry) (y rest : ℕ) → (0 < rest → absent y es ≡ true) → taken_from rest es y ≡ y
stays es y zero h = refl
stays es y (suc rest) h = rw (h (omega arith))

pass_done : {es : List Entry} {x left y rest : ℕ} → Pass es x left y rest → left ≤ rest → x ≡ y
pass_done {es} {x} {left} {y} {rest} r h = r.same ∙ stays es y rest (r.free h)

-- what the last pass has come to is the number taken
pub search_done : {es : List Entry} (x : ℕ) {n first k left rest : ℕ} {y : Trace} → n ≡ length es
    → Pass es (taken_from n es x) n first k → Pass es (taken_from k es first) left y.0 rest → left ≤ rest
    → y ≡ record { 0 = taken es x }
unfolding taken
search_done {es} x q r s h =
    ap (λ (a : ℕ). record { 0 = a }) (sym (ap (λ (m : ℕ). taken_from m es x) (sym q) ∙ r.same ∙ pass_done s h))
