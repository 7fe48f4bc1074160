-- A message with one item more is the message of a list with one item more, and the message with all items is that of their list.
use mathlib.Core.Path.{◌≡◌, refl, sym, ◌∙◌}
use mathlib.Core.List.{List, [], ◌∷◌, ◌++◌, append-nil}
use mathlib.Core.Bool.{Bool, true, false, cond, ◌||◌, or-true, true≢false}
use Prim.Native.Nat.{ℕ}
use native.Mathlib.Omega.{arith}
use lib.Dec.{eqb}
use lib.ListN.{take, drop}
use borrow.Author.Tests.{eq-eqb, ne_eqb, eqb-true, eqb-false}
use Rattle.field.specs.Table.{among, formats, numbers}
use Rattle.field.specs.Contents.{room}
use Rattle.field.specs.declared.Format.{Format}
use Rattle.message.specs.Build.{Item, has, find, padded, counts_for, contents_for, message_of}
use Rattle.message.specs.declared.Message.{Message}
use Rattle.compose.specs.Compose.{may_hold, all_held, with_count, with_contents, with_item, with_all}
use Rattle.compose.proofs.Bitmaps.{bitmap-more, bitmap-same}
use Rattle.compose.proofs.Held.{distinct, distinct-formats, first-distinct, held_all, FindsHeld, finds_none, finds_more, Fitting, fitting_tail, fitting_stored, stored-take, stored-drop, held_number}

module _ (x : Item) (xs : List Item) where
  found-new : (n : ℕ) → n ≡ x.number → find (x ∷ xs) n ≡ x.field
  found-new n e = rw (eq-eqb x.number n (sym e))

  found_old : (n : ℕ) → (n ≡ x.number → ⊥) → find (x ∷ xs) n ≡ find xs n
  found_old n e = rw (ne_eqb x.number n (λ q. e (sym q)))

  -- an item of another table changes nothing
  others : (fs : List Format) → among x.number (numbers fs) ≡ false
      → (counts_for fs (x ∷ xs) ≡ counts_for fs xs) × (contents_for fs (x ∷ xs) ≡ contents_for fs xs)
  others [] h = (refl, refl)
  others (f ∷ fs) h = go (eqb f.number x.number) refl h (others fs)
    where
      go : (t : Bool) → eqb f.number x.number ≡ t → (t || among x.number (numbers fs)) ≡ false
          → (among x.number (numbers fs) ≡ false → (counts_for fs (x ∷ xs) ≡ counts_for fs xs) × (contents_for fs (x ∷ xs) ≡ contents_for fs xs))
          → (counts_for (f ∷ fs) (x ∷ xs) ≡ counts_for (f ∷ fs) xs) × (contents_for (f ∷ fs) (x ∷ xs) ≡ contents_for (f ∷ fs) xs)
      go true q h ih = let z : ◌≡◌ {A = ℕ} 0 1 = cc in absurd (omega arith)
      go false q h ih =
          let s = found_old f.number (eqb-false f.number x.number q) in
          let t = ih h in
          (rw (s, t.0), rw (s, t.1))

  -- any table
  table_composed : (fs : List Format) → distinct fs ≡ true → Fitting fs xs
      → (with_count fs x (counts_for fs xs) ≡ counts_for fs (x ∷ xs)) × (with_contents fs x (contents_for fs xs) ≡ contents_for fs (x ∷ xs))
  table_composed [] d r = (refl, refl)
  table_composed (f ∷ fs) d r =
      go (eqb f.number x.number) refl (table_composed fs (first-distinct f fs xs d).1 (fitting_tail f fs xs d r))
    where
      s : (rest : List ℕ) → drop (room f) (padded (room f) (find xs f.number).bytes ++ rest) ≡ rest
      s rest = stored-drop (fitting_stored f fs xs r) rest

      go : (t : Bool) → eqb f.number x.number ≡ t
          → (with_count fs x (counts_for fs xs) ≡ counts_for fs (x ∷ xs)) × (with_contents fs x (contents_for fs xs) ≡ contents_for fs (x ∷ xs))
          → (cond t (x.field.count ∷ counts_for fs xs) ((find xs f.number).count ∷ with_count fs x (counts_for fs xs))
          ≡ counts_for (f ∷ fs) (x ∷ xs))
          × (cond t (padded (room f) x.field.bytes ++ drop (room f) (padded (room f) (find xs f.number).bytes ++ contents_for fs xs))
          (take (room f) (padded (room f) (find xs f.number).bytes ++ contents_for fs xs)
          ++ with_contents fs x (drop (room f) (padded (room f) (find xs f.number).bytes ++ contents_for fs xs)))
          ≡ contents_for (f ∷ fs) (x ∷ xs))
      go true q ih =
          let e = eqb-true f.number x.number q in
          let a : among x.number (numbers fs) ≡ false = rw e at (first-distinct f fs xs d).0 in
          let o = others fs a in
          let n = found-new f.number e in
          (rw (n, o.0), rw (s (contents_for fs xs), n, o.1))
      go false q ih =
          let n = found_old f.number (eqb-false f.number x.number q) in
          (rw (n, ih.0), rw (s (contents_for fs xs), stored-take (fitting_stored f fs xs r) (contents_for fs xs), n, ih.1))

composed : (i : ℕ) (xs : List Item) (x : Item) → may_hold formats x ≡ true → FindsHeld xs → with_item x (message_of i xs) ≡ message_of i (x ∷ xs)
unfolding with_item
composed i xs x h r =
    let n = held_number x h in
    let t = table_composed x xs formats distinct-formats (λ k g l. r k g) in
    rw (h, bitmap-more x xs n.0 n.1, t.0, t.1)

-- a message goes by what is found of a list
module _ (xs ys : List Item) (f : (n : ℕ) → find ys n ≡ find xs n) where
  counts_same : (fs : List Format) → counts_for fs ys ≡ counts_for fs xs
  counts_same [] = refl
  counts_same (g ∷ fs) = rw (f g.number, counts_same fs)

  contents-same : (fs : List Format) → contents_for fs ys ≡ contents_for fs xs
  contents-same [] = refl
  contents-same (g ∷ fs) = rw (f g.number, contents-same fs)

  message-same : (i : ℕ) → ((n : ℕ) → has ys n ≡ has xs n) → message_of i ys ≡ message_of i xs
  message-same i h = rw (bitmap-same xs ys h, counts_same formats, contents-same formats)

or_swap : (a b c : Bool) → (a || (b || c)) ≡ (b || (a || c))
or_swap true b c = sym (or-true b)
or_swap false b c = refl

or-none : (a b : Bool) → (a || b) ≡ false → (a ≡ false) × (b ≡ false)
or-none true b h = absurd (true≢false h)
or-none false b h = (refl, h)

-- an item behind others is found as if it stood in front of them, where they do not have its field
module _ (x : Item) (ys : List Item) (n : ℕ) where
  has_moved : (xs : List Item) → has (xs ++ (x ∷ ys)) n ≡ has (x ∷ (xs ++ ys)) n
  has_moved [] = refl
  has_moved (y ∷ xs) = rw (has_moved xs) (or_swap (eqb y.number n) (eqb x.number n) (has (xs ++ ys) n))

  find_moved : (xs : List Item) → has xs x.number ≡ false → find (xs ++ (x ∷ ys)) n ≡ find (x ∷ (xs ++ ys)) n
  find_moved [] h = refl
  find_moved (y ∷ xs) h =
      let o = or-none (eqb y.number x.number) (has xs x.number) h in
      rw (find_moved xs o.1) (go (eqb x.number n) (eqb y.number n) refl refl (eqb-false y.number x.number o.0))
    where
      go : (s t : Bool) → eqb x.number n ≡ s → eqb y.number n ≡ t → (y.number ≡ x.number → ⊥)
          → cond t y.field (cond s x.field (find (xs ++ ys) n)) ≡ cond s x.field (cond t y.field (find (xs ++ ys) n))
      go true true p q e = absurd (e (eqb-true y.number n q ∙ sym (eqb-true x.number n p)))
      go true false p q e = refl
      go false true p q e = refl
      go false false p q e = refl

-- the items of a list put onto the message of another
composed_onto : (i : ℕ) (xs ys : List Item) → all_held xs ≡ true → FindsHeld ys → with_all xs (message_of i ys) ≡ message_of i (xs ++ ys)
composed_onto i [] ys h r = refl
composed_onto i (x ∷ xs) ys h r =
    let t = held_all x xs h in
    rw (composed i ys x t.first r)
    (composed_onto i xs (x ∷ ys) t.later (finds_more x ys t.first r)
    ∙ message-same (x ∷ (xs ++ ys)) (xs ++ (x ∷ ys)) (λ n. find_moved x ys n xs t.once) i (λ n. has_moved x ys n xs))

pub all_composed : (i : ℕ) (xs : List Item) → all_held xs ≡ true → with_all xs (message_of i []) ≡ message_of i xs
all_composed i xs h = rw append-nil at (composed_onto i xs [] h finds_none)

pub all_append : (xs ys : List Item) (m : Message) → with_all (xs ++ ys) m ≡ with_all ys (with_all xs m)
all_append [] ys m = refl
all_append (x ∷ xs) ys m = all_append xs ys (with_item x m)
