-- Laws of tests of each entry and of the first entry that passes a test.
use Rattle.std.specs.Prelude.{Some, None, Option}
use mathlib.Core.Path.{◌≡◌, refl, ap, sym, ◌∙◌}
use mathlib.Core.List.{List, [], ◌∷◌, ◌++◌}
use mathlib.Core.Bool.{Bool, true, false, cond, not, ◌&&◌, and_assoc, and-true, and-false, and-eq-true_iff}
use Prim.Native.Nat.{ℕ, zero, suc, ◌+◌, ◌-◌, ◌≤◌, ◌<◌}
use native.Mathlib.Nat.{add-zero, add-suc}
use native.Mathlib.Omega.{arith}
use native.Mathlib.Decide.{dec_lt, ℕ_discrete}
use lib.Dec.{eqb}
use lib.ListN.{length}
use borrow.Author.Tests.{not-true, eqb-true}
use Rattle.entry.specs.declared.Entry.{Entry}
use Rattle.journal.specs.Journal.{entry_at, every, first_of, due_with, otherwise, next_due, changed_at}

module _ (f : Entry → Entry) where
  pub length-changed : (i : ℕ) (es : List Entry) → length (changed_at i f es) ≡ length es
  length-changed i [] = refl
  length-changed zero (e ∷ es) = refl
  length-changed (suc i) (e ∷ es) = ap suc (length-changed i es)

  pub changed-same : (i : ℕ) (es : List Entry) → i < length es → entry_at (changed_at i f es) i ≡ f (entry_at es i)
  changed-same i [] h = absurd (omega arith)
  changed-same zero (e ∷ es) h = refl
  changed-same (suc i) (e ∷ es) h = changed-same i es (omega arith)

  pub changed_other : (i k : ℕ) (es : List Entry) → (k ≡ i → ⊥) → entry_at (changed_at i f es) k ≡ entry_at es k
  changed_other i k [] h = refl
  changed_other zero zero (e ∷ es) h = absurd (h refl)
  changed_other zero (suc k) (e ∷ es) h = refl
  changed_other (suc i) zero (e ∷ es) h = refl
  changed_other (suc i) (suc k) (e ∷ es) h = changed_other i k es (λ q. h (ap suc q))

  -- an entry that is not there
  pub changed-past : (i : ℕ) (es : List Entry) → length es ≤ i → changed_at i f es ≡ es
  changed-past i [] h = refl
  changed-past zero (e ∷ es) h = absurd (omega arith)
  changed-past (suc i) (e ∷ es) h = rw (changed-past i es (omega arith))

  -- a value that the change keeps
  pub changed_keeps : {A : Type 0} (v : Entry → A) → ((e : Entry) → v (f e) ≡ v e)
      → (i k : ℕ) (es : List Entry) → v (entry_at (changed_at i f es) k) ≡ v (entry_at es k)
  changed_keeps v h i k [] = refl
  changed_keeps v h zero zero (e ∷ es) = h e
  changed_keeps v h zero (suc k) (e ∷ es) = refl
  changed_keeps v h (suc i) zero (e ∷ es) = refl
  changed_keeps v h (suc i) (suc k) (e ∷ es) = changed_keeps v h i k es

module _ (p : ℕ → Entry → Bool) where
  pub every_append : (i : ℕ) (es fs : List Entry) → every p i (es ++ fs) ≡ (every p i es && every p (i + length es) fs)
  every_append i [] fs = rw add-zero
  every_append i (e ∷ es) fs =
      let q : suc i + length es ≡ i + suc (length es) = omega arith in
      rw (every_append (suc i) es fs, q) (sym (and_assoc (p i e) (every p (suc i) es) (every p (i + suc (length es)) fs)))

  pub every-last : (i : ℕ) (es : List Entry) (e : Entry) → every p i (es ++ (e ∷ [])) ≡ (every p i es && p (i + length es) e)
  every-last i es e = every_append i es (e ∷ []) ∙ rw (and-true (p (i + length es) e))

  pub every-at : (i : ℕ) (es : List Entry) → every p i es ≡ true → (k : ℕ) → k < length es → p (i + k) (entry_at es k) ≡ true
  every-at i [] h k l = absurd (omega arith)
  every-at i (e ∷ es) h zero l = rw add-zero ((and-eq-true_iff (p i e) _).0 h).0
  every-at i (e ∷ es) h (suc k) l =
      let q : suc i + k ≡ i + suc k = omega arith in
      rw q at (every-at (suc i) es ((and-eq-true_iff (p i e) _).0 h).1 k (omega arith))

  pub every-all : (i : ℕ) (es : List Entry) → ((k : ℕ) → k < length es → p (i + k) (entry_at es k) ≡ true) → every p i es ≡ true
  every-all i [] h = refl
  every-all i (e ∷ es) h =
      rw (
        rw add-zero at (h zero (omega arith)),
        every-all (suc i) es (λ k l. let q : suc i + k ≡ i + suc k = omega arith in rw q (h (suc k) (omega arith))),
      )

  pub every_fails : (i : ℕ) (es : List Entry) (k : ℕ) → k < length es → p (i + k) (entry_at es k) ≡ false → every p i es ≡ false
  every_fails i [] k l h = absurd (omega arith)
  every_fails i (e ∷ es) zero l h = rw (rw add-zero at h)
  every_fails i (e ∷ es) (suc k) l h =
      let q : i + suc k ≡ suc i + k = omega arith in
      rw (every_fails (suc i) es k (omega arith) (rw q at h)) (and-false (p i e))

  -- a change that keeps what p says
  pub every-changed : (f : Entry → Entry) → ((i : ℕ) (e : Entry) → p i (f e) ≡ p i e)
      → (k i : ℕ) (es : List Entry) → every p i (changed_at k f es) ≡ every p i es
  every-changed f h k i [] = refl
  every-changed f h zero i (e ∷ es) = rw h
  every-changed f h (suc k) i (e ∷ es) = rw (every-changed f h k (suc i) es)

-- a test that holds where another does
pub every_implies : (p q : ℕ → Entry → Bool) → ((i : ℕ) (e : Entry) → p i e ≡ true → q i e ≡ true)
    → (i : ℕ) (es : List Entry) → every p i es ≡ true → every q i es ≡ true
every_implies p q h i [] a = refl
every_implies p q h i (e ∷ es) a =
    let b = (and-eq-true_iff (p i e) (every p (suc i) es)).0 a in
    rw (h i e b.0, every_implies p q h (suc i) es b.1)

-- after a change at place k: q holds there, and elsewhere where p did
pub every-after : (p q : ℕ → Entry → Bool) (f : Entry → Entry) (i k : ℕ) (es : List Entry) → every p i es ≡ true
    → ((m : ℕ) → m < length es → (m ≡ k → ⊥) → p (i + m) (entry_at es m) ≡ true → q (i + m) (entry_at es m) ≡ true)
    → (k < length es → q (i + k) (f (entry_at es k)) ≡ true)
    → every q i (changed_at k f es) ≡ true
every-after p q f i k es a o h =
    every-all q i (changed_at k f es) (λ m l. at m (rw length-changed at l) (ℕ_discrete m k))
  where
    at : (m : ℕ) → m < length es → Dec (m ≡ k) → q (i + m) (entry_at (changed_at k f es) m) ≡ true
    at m l (yes e) = rw (e, changed-same f k es (rw e at l)) (h (rw e at l))
    at m l (no e) = rw (changed_other f k m es e) (o m l e (every-at p i es a m l))

-- a test of the entry alone, whatever the place
pub every-place : (p : Entry → Bool) (i k : ℕ) (es : List Entry) → every (λ m e. p e) i es ≡ every (λ m e. p e) k es
every-place p i k [] = refl
every-place p i k (e ∷ es) = rw (every-place p (suc i) (suc k) es)

-- the entry at place k satisfies p, and is the first that does, where the list begins at place i
pub record IsFirst (p : Entry → Bool) (i : ℕ) (es : List Entry) (k : ℕ) : Type 0 where
  pub from : i ≤ k
  pub below : k < i + length es
  pub holds : p (entry_at es (k - i)) ≡ true
  pub before : (m : ℕ) → m < k - i → p (entry_at es m) ≡ false

-- a place, counted from n places earlier
abbrev pub later : ℕ → Option ℕ → Option ℕ
later n (Some k) = Some (n + k)
later n None = None

module _ (p : Entry → Bool) where
  pub first_at : (i : ℕ) (es : List Entry) (k : ℕ) → first_of p i es ≡ Some k → IsFirst p i es k
  first_at i [] k h = let z : ◌≡◌ {A = ℕ} 0 1 = cc in absurd (omega arith)
  first_at i (e ∷ es) k h = go (first_at (suc i) es k) (p e) refl h
    where
      go : (first_of p (suc i) es ≡ Some k → IsFirst p (suc i) es k) → (b : Bool) → p e ≡ b → cond b (Some i) (first_of p (suc i) es) ≡ Some k
          → IsFirst p i (e ∷ es) k
      go r true t h =
          let q : i ≡ k = cc in
          let z : k - i ≡ 0 = omega arith in
          record { from = omega arith; below = omega arith; holds = rw z t; before = λ m l. absurd (omega arith) }
      go r false t h =
          let f = r h in
          let z : k - i ≡ suc (k - suc i) = omega (arith, f.from) in
          record { from = omega (arith, f.from); below = omega (arith, f.below); holds = rw z f.holds; before = earlier t f }
        where
          earlier : p e ≡ false → IsFirst p (suc i) es k → (m : ℕ) → m < k - i → p (entry_at (e ∷ es) m) ≡ false
          earlier t f zero l = t
          earlier t f (suc m) l = f.before m (omega arith)

  pub first-nowhere : (i : ℕ) (es : List Entry) → first_of p i es ≡ None → every (λ m e. not (p e)) i es ≡ true
  first-nowhere i [] h = refl
  first-nowhere i (e ∷ es) h = go (first-nowhere (suc i) es) (p e) h
    where
      go : (first_of p (suc i) es ≡ None → every (λ m e. not (p e)) (suc i) es ≡ true) → (b : Bool)
          → cond b (Some i) (first_of p (suc i) es) ≡ None → (not b && every (λ m e. not (p e)) (suc i) es) ≡ true
      go r true h = let z : ◌≡◌ {A = ℕ} 0 1 = cc in absurd (omega arith)
      go r false h = r h

  pub nowhere-first : (i : ℕ) (es : List Entry) → every (λ m e. not (p e)) i es ≡ true → first_of p i es ≡ None
  nowhere-first i [] h = refl
  nowhere-first i (e ∷ es) h =
      let b = (and-eq-true_iff (not (p e)) (every (λ m e. not (p e)) (suc i) es)).0 h in
      rw (not-true (p e) b.0) (nowhere-first (suc i) es b.1)

  -- the place that is the first
  pub first-is : (i : ℕ) (es : List Entry) (k : ℕ) → IsFirst p i es k → first_of p i es ≡ Some k
  first-is i [] k f = absurd (omega (arith, f.from, f.below))
  first-is i (e ∷ es) k f = go (first-is (suc i) es k) (dec_lt i k)
    where
      go : (IsFirst p (suc i) es k → first_of p (suc i) es ≡ Some k) → Dec (i < k) → cond (p e) (Some i) (first_of p (suc i) es) ≡ Some k
      go r (no l) =
          let q : k ≡ i = omega (arith, f.from) in
          let z : k - i ≡ 0 = omega arith in
          rw (rw z at f.holds, q)
      go r (yes l) =
          let z : k - i ≡ suc (k - suc i) = omega arith in
          rw (f.before 0 (omega arith))
          (r (record {
            from = omega arith;
            below = omega (arith, f.below);
            holds = rw z at f.holds;
            before = λ m h. f.before (suc m) (omega arith);
          }))

  pub first-later : (n i : ℕ) (es : List Entry) → first_of p (n + i) es ≡ later n (first_of p i es)
  first-later n i [] = refl
  first-later n i (e ∷ es) = rw (rw add-suc at (first-later n (suc i) es)) (go (p e))
    where
      go : (b : Bool) → cond b (Some (n + i)) (later n (first_of p (suc i) es)) ≡ later n (cond b (Some i) (first_of p (suc i) es))
      go true = refl
      go false = refl

  pub first-append : (i : ℕ) (es fs : List Entry) → first_of p i (es ++ fs) ≡ otherwise (first_of p i es) (first_of p (i + length es) fs)
  first-append i [] fs = rw add-zero
  first-append i (e ∷ es) fs =
      let q : suc i + length es ≡ i + suc (length es) = omega arith in
      go (p e) (rw q at (first-append (suc i) es fs))
    where
      go : (b : Bool) → first_of p (suc i) (es ++ fs) ≡ otherwise (first_of p (suc i) es) (first_of p (i + suc (length es)) fs)
          → cond b (Some i) (first_of p (suc i) (es ++ fs)) ≡ otherwise (cond b (Some i) (first_of p (suc i) es)) (first_of p (i + suc (length es)) fs)
      go true r = refl
      go false r = r

  pub first-changed : (f : Entry → Entry) → ((e : Entry) → p (f e) ≡ p e)
      → (k i : ℕ) (es : List Entry) → first_of p i (changed_at k f es) ≡ first_of p i es
  first-changed f h k i [] = refl
  first-changed f h zero i (e ∷ es) = rw h
  first-changed f h (suc k) i (e ∷ es) = rw (first-changed f h k (suc i) es)

-- the entry at place k is due, and is not sent or awaits its answer
pub record IsNext (p : Entry → Bool) (es : List Entry) (k : ℕ) : Type 0 where
  pub below : k < length es
  pub due : p (entry_at es k) ≡ true
  pub mark_most : (entry_at es k).mark ≤ 1

module _ {p : Entry → Bool} where
  first-due : (m : ℕ) → m ≤ 1 → (es : List Entry) (k : ℕ) → first_of (due_with p m) 0 es ≡ Some k → IsNext p es k
  unfolding due_with
  first-due m h es k e =
      let r = first_at (due_with p m) 0 es k e in
      let z : k - 0 ≡ k = omega arith in
      let b = (and-eq-true_iff (p (entry_at es k)) (eqb (entry_at es k).mark m)).0 (rw z at r.holds) in
      record { below = omega (arith, r.below); due = b.0; mark_most = omega (arith, eqb-true (entry_at es k).mark m b.1) }

  pub next-at : (es : List Entry) (k : ℕ) → next_due p es ≡ Some k → IsNext p es k
  unfolding next_due
  next-at es k h = go (first_of (due_with p 0) 0 es) refl h
    where
      go : (f : Option ℕ) → first_of (due_with p 0) 0 es ≡ f → otherwise f (first_of (due_with p 1) 0 es) ≡ Some k → IsNext p es k
      go (Some i) e h = first-due 0 (omega arith) es k (e ∙ h)
      go None e h = first-due 1 (omega arith) es k h
