-- Laws of the marks of entries and the progress of their approvals.
use Rattle.std.specs.Prelude.{Some, None, Option}
use mathlib.Core.Path.{◌≡◌, refl, sym}
use mathlib.Core.List.{List, [], ◌∷◌, ◌++◌}
use mathlib.Core.Bool.{Bool, true, false, cond, ◌&&◌}
use Prim.Native.Nat.{ℕ, zero, suc, ◌≤◌, ◌<◌}
use native.Mathlib.Omega.{arith}
use lib.Dec.{eqb, leb}
use borrow.Author.Tests.{ne_eqb}
use Rattle.kinds.specs.Kinds as kinds
use Rattle.entry.specs.Form.{due_entry}
use Rattle.entry.specs.declared.Entry.{Entry}
use Rattle.journal.specs.Journal.{entry_at, first_of, due_with, otherwise, next_due, changed_at, with_voided}
use Rattle.history.specs.Words.{is_debit, is_credit}
use Rattle.history_theorems.specs.Approvals.{Approval, IsEntry, AreEntries}
use Rattle.history_theorems.specs.Uploads.{Progress, unsent, silent, ended, is_unsent, is_silent, is_due, Place, none, at, first_at, or_else, next_item, leaves, falls_silent, change_at, Few, EachFew}

-- what the mark and the resends of an entry say
abbrev pub IsMarked : Entry → Progress → Type 0
IsMarked e unsent = (e.mark ≡ 0) × (e.resends ≡ 0)
IsMarked e (silent n) = (e.mark ≡ 1) × (e.resends ≡ n)
IsMarked e ended = 2 ≤ e.mark

abbrev pub Marks : List Entry → List Progress → Type 0
Marks [] [] = Unit {0}
Marks [] (p ∷ ps) = ⊥
Marks (e ∷ es) [] = ⊥
Marks (e ∷ es) (p ∷ ps) = IsMarked e p × Marks es ps

-- one entry and its progress change
pub marks-changed : (g : Entry → Entry) (f : Progress → Progress) (i : ℕ) (es : List Entry) (ps : List Progress) → Marks es ps
    → ((p : Progress) → IsMarked (entry_at es i) p → IsMarked (g (entry_at es i)) (f p)) → Marks (changed_at i g es) (change_at i f ps)
marks-changed g f i [] [] h k = h
marks-changed g f i [] (p ∷ ps) h k = absurd h
marks-changed g f i (e ∷ es) [] h k = absurd h
marks-changed g f zero (e ∷ es) (p ∷ ps) h k = (k p h.0, h.1)
marks-changed g f (suc i) (e ∷ es) (p ∷ ps) h k = (h.0, marks-changed g f i es ps h.1 k)

-- its progress alone
pub marks-progress : (f : Progress → Progress) (i : ℕ) (es : List Entry) (ps : List Progress) → Marks es ps
    → ((p : Progress) → IsMarked (entry_at es i) p → IsMarked (entry_at es i) (f p)) → Marks es (change_at i f ps)
marks-progress f i [] [] h k = h
marks-progress f i [] (p ∷ ps) h k = absurd h
marks-progress f i (e ∷ es) [] h k = absurd h
marks-progress f zero (e ∷ es) (p ∷ ps) h k = (k p h.0, h.1)
marks-progress f (suc i) (e ∷ es) (p ∷ ps) h k = (h.0, marks-progress f i es ps h.1 k)

-- a voided mark changes neither
voided-marked : (e : Entry) (p : Progress) → IsMarked e p → IsMarked (with_voided 1 e) p
unfolding with_voided
voided-marked e unsent h = h
voided-marked e (silent n) h = h
voided-marked e ended h = h

pub marks-voided : (i : ℕ) (es : List Entry) (ps : List Progress) → Marks es ps → Marks (changed_at i (with_voided 1) es) ps
marks-voided i [] [] h = h
marks-voided i [] (p ∷ ps) h = absurd h
marks-voided i (e ∷ es) [] h = absurd h
marks-voided zero (e ∷ es) (p ∷ ps) h = (voided-marked e p h.0, h.1)
marks-voided (suc i) (e ∷ es) (p ∷ ps) h = (h.0, marks-voided i es ps h.1)

-- one entry more, not sent
pub marks-more : (n : Entry) (es : List Entry) (ps : List Progress) → Marks es ps → IsMarked n unsent → Marks (es ++ (n ∷ [])) (ps ++ (unsent ∷ []))
marks-more n [] [] h k = (k, tt)
marks-more n [] (p ∷ ps) h k = absurd h
marks-more n (e ∷ es) [] h k = absurd h
marks-more n (e ∷ es) (p ∷ ps) h k = (h.0, marks-more n es ps h.1 k)

-- the next item
abbrev pub place_of : Option ℕ → Place
place_of (Some i) = at i
place_of None = none

first_alike : (q : Approval → Progress → Bool) (r : Entry → Bool)
    → ((e : Entry) (x : Approval) (later : List Approval) (p : Progress) → IsEntry e x later → IsMarked e p → q x p ≡ r e)
    → (i : ℕ) (es : List Entry) (xs : List Approval) (ps : List Progress) → AreEntries es xs → Marks es ps
    → first_at q i xs ps ≡ place_of (first_of r i es)
first_alike q r f i [] [] ps h m = refl
first_alike q r f i [] (x ∷ xs) ps h m = absurd h
first_alike q r f i (e ∷ es) [] ps h m = absurd h
first_alike q r f i (e ∷ es) (x ∷ xs) [] h m = absurd m
first_alike q r f i (e ∷ es) (x ∷ xs) (p ∷ ps) h m =
    rw (f e x xs p h.0 m.0, first_alike q r f (suc i) es xs ps h.1 m.1) (go (r e))
  where
    go : (b : Bool) → cond b (at i) (place_of (first_of r (suc i) es)) ≡ place_of (cond b (Some i) (first_of r (suc i) es))
    go true = refl
    go false = refl

due_alike : (e : Entry) (x : Approval) (later : List Approval) → IsEntry e x later → is_due x.request ≡ due_entry e
unfolding is_due is_debit is_credit kinds.is_due kinds.is_debit kinds.is_credit
due_alike e x later h = rw h.kind_is

unsent_alike : (e : Entry) (p : Progress) → IsMarked e p → is_unsent p ≡ eqb e.mark 0
unsent_alike e unsent h = rw h.0
unsent_alike e (silent n) h = rw h.0
unsent_alike e ended h = sym (ne_eqb e.mark 0 (λ z. omega arith))

silent_alike : (e : Entry) (p : Progress) → IsMarked e p → is_silent p ≡ eqb e.mark 1
silent_alike e unsent h = rw h.0
silent_alike e (silent n) h = rw h.0
silent_alike e ended h = sym (ne_eqb e.mark 1 (λ z. omega arith))

pub next_alike : (es : List Entry) (xs : List Approval) (ps : List Progress) → AreEntries es xs → Marks es ps
    → next_item xs ps ≡ place_of (next_due due_entry es)
unfolding next_item next_due due_with
next_alike es xs ps h m =
    rw (
      first_alike (λ x p. is_due x.request && is_unsent p) (λ e. due_entry e && eqb e.mark 0)
          (λ e x later p k w. rw (due_alike e x later k, unsent_alike e p w)) 0 es xs ps h m,
      first_alike (λ x p. is_due x.request && is_silent p) (λ e. due_entry e && eqb e.mark 1)
          (λ e x later p k w. rw (due_alike e x later k, silent_alike e p w)) 0 es xs ps h m,
    )
    (go (first_of (λ e. due_entry e && eqb e.mark 0) 0 es) (first_of (λ e. due_entry e && eqb e.mark 1) 0 es))
  where
    go : (f g : Option ℕ) → or_else (place_of f) (place_of g) ≡ place_of (otherwise f g)
    go (Some i) g = refl
    go None g = refl

-- an item that is sent again has been sent fewer than L times
abbrev pub MayLeave : ℕ → Progress → Type 0
MayLeave l unsent = Unit {0}
MayLeave l (silent n) = n < l
MayLeave l ended = Unit {0}

abbrev pub MayLeaveAt : ℕ → ℕ → List Progress → Type 0
MayLeaveAt l i [] = Unit {0}
MayLeaveAt l zero (p ∷ ps) = MayLeave l p
MayLeaveAt l (suc i) (p ∷ ps) = MayLeaveAt l i ps

may_leave : (l : ℕ) (e : Entry) (p : Progress) → (e.mark ≡ 1 → e.resends < l) → IsMarked e p → MayLeave l p
may_leave l e unsent f h = tt
may_leave l e (silent n) f h = let k = f h.0 in let z = h.1 in omega arith
may_leave l e ended f h = tt

pub may_leave-at : (l i : ℕ) (es : List Entry) (ps : List Progress) → Marks es ps → ((entry_at es i).mark ≡ 1 → (entry_at es i).resends < l) → MayLeaveAt l i ps
may_leave-at l i [] [] h f = tt
may_leave-at l i [] (p ∷ ps) h f = absurd h
may_leave-at l i (e ∷ es) [] h f = absurd h
may_leave-at l zero (e ∷ es) (p ∷ ps) h f = may_leave l e p f h.0
may_leave-at l (suc i) (e ∷ es) (p ∷ ps) h f = may_leave-at l i es ps h.1 f

-- the resends stay at most L
left-few : (l : ℕ) (p : Progress) → MayLeave l p → Few l (leaves p)
left-few l unsent h = tt
left-few l (silent n) h = omega arith
left-few l ended h = tt

pub few-leaves : (l i : ℕ) (ps : List Progress) → MayLeaveAt l i ps → EachFew l ps → EachFew l (change_at i leaves ps)
few-leaves l i [] m h = tt
few-leaves l zero (p ∷ ps) m h = (left-few l p m, h.1)
few-leaves l (suc i) (p ∷ ps) m h = (h.0, few-leaves l i ps m h.1)

pub few-changed : (l : ℕ) (f : Progress → Progress) → ((p : Progress) → Few l p → Few l (f p)) → (i : ℕ) (ps : List Progress) → EachFew l ps
    → EachFew l (change_at i f ps)
few-changed l f k i [] h = tt
few-changed l f k zero (p ∷ ps) h = (k p h.0, h.1)
few-changed l f k (suc i) (p ∷ ps) h = (h.0, few-changed l f k i ps h.1)

pub few-more : (l : ℕ) (ps : List Progress) → EachFew l ps → EachFew l (ps ++ (unsent ∷ []))
few-more l [] h = (tt, tt)
few-more l (p ∷ ps) h = (h.0, few-more l ps h.1)

pub silent-few : (l : ℕ) (p : Progress) → Few l p → Few l (falls_silent l p)
silent-few l unsent h = omega arith
silent-few l (silent n) h = go (leb l n)
  where
    go : (b : Bool) → Few l (cond b ended (silent n))
    go true = tt
    go false = h
silent-few l ended h = tt
