-- What the fields of a table hold of a list of items.
use mathlib.Core.Path.{◌≡◌, refl, sym, ◌∙◌}
use mathlib.Core.List.{List, [], ◌∷◌, ◌++◌, append_assoc}
use mathlib.Core.Bool.{Bool, true, false, cond, not, ◌&&◌, ◌||◌, and-eq-true_iff, or_assoc}
use Prim.Native.Nat.{ℕ, ◌-◌, ◌≤◌, ◌<◌}
use native.Mathlib.Omega.{arith}
use lib.Dec.{eqb}
use lib.ListN.{length, take, drop, replicate}
use lib.Seq.{take_at, drop_at}
use borrow.Author.Tests.{eq-eqb, eqb-true, not-true}
use Rattle.field.specs.Table.{among, formats, numbers}
use Rattle.field.specs.Contents.{size, room, allowed, fault}
use Rattle.field.specs.declared.Class.{Class}
use Rattle.field.specs.declared.Class.TheVariants.{Digits, Printable, Any}
use Rattle.field.specs.declared.Format.{Format}
use Rattle.field.proofs.Contents.{size_mono, allowed-bounds}
use Rattle.elements.specs.Elements.{elements_in_form}
use Rattle.elements.proofs.Elements.{form-none}
use Rattle.message.specs.Build.{Item, has, find, padded}
use Rattle.message.specs.Message.{Field}
use Rattle.message.specs.Located.{located}
use Rattle.message.specs.declared.Located.{Located}
use Rattle.std.specs.Prelude.{Option, Some, None}
use Rattle.message.proofs.Standing.{standing}
use Rattle.compose.specs.Compose.{may_hold, chip_kept, all_held}
use Rattle.compose.proofs.Places.{holds, may_not_hold, length-padded}

abbrev pub named : ℕ → Field → Item
named n v = record { number = n; field = v }

abbrev pub nothing : Field
nothing = record { count = 0; bytes = [] }

-- no number stands twice in a table
abbrev pub distinct : List Format → Bool
distinct [] = true
distinct (f ∷ fs) = not (among f.number (numbers fs)) && distinct fs

pub distinct-formats : distinct formats ≡ true
unfolding formats
distinct-formats = refl

-- an item that may be held has a number of the table
pub held-listed : (fs : List Format) (x : Item) → may_hold fs x ≡ true → among x.number (numbers fs) ≡ true
held-listed [] x h = h
held-listed (f ∷ fs) x h = go (eqb f.number x.number) h (held-listed fs x)
  where
    go : (t : Bool) → cond t (holds f x.field) (may_hold fs x) ≡ true → (may_hold fs x ≡ true → among x.number (numbers fs) ≡ true)
        → (t || among x.number (numbers fs)) ≡ true
    go true h ih = refl
    go false h ih = ih h

pub held_number : (x : Item) → may_hold formats x ≡ true → (0 < x.number) × (x.number ≤ 64)
held_number x h = go (located formats x.number 0 0) refl
  where
    go : (l : Option Located) → located formats x.number 0 0 ≡ l → (0 < x.number) × (x.number ≤ 64)
    go (Some at) e = let s = standing x.number e in (s.number_positive, s.number_small)
    go None e =
        let b : false ≡ true = sym (may_not_hold formats x 0 0 e) ∙ h in
        let z : ◌≡◌ {A = ℕ} 0 1 = cc in
        absurd (omega arith)

pub find_none : (xs : List Item) (n : ℕ) → has xs n ≡ false → find xs n ≡ nothing
find_none [] n h = refl
find_none (x ∷ xs) n h = go (eqb x.number n) h (find_none xs n)
  where
    go : (t : Bool) → (t || has xs n) ≡ false → (has xs n ≡ false → find xs n ≡ nothing) → cond t x.field (find xs n) ≡ nothing
    go true h ih = let z : ◌≡◌ {A = ℕ} 0 1 = cc in absurd (omega arith)
    go false h ih = ih h

-- all items are held: the first, and those after it
pub record Held (x : Item) (xs : List Item) : Type 0 where
  pub once : has xs x.number ≡ false
  pub first : may_hold formats x ≡ true
  pub kept : chip_kept x ≡ true
  pub later : all_held xs ≡ true

pub held_all : (x : Item) (xs : List Item) → all_held (x ∷ xs) ≡ true → Held x xs
held_all x xs h =
    let a = (and-eq-true_iff (not (has xs x.number)) (may_hold formats x && (chip_kept x && all_held xs))).0 h in
    let b = (and-eq-true_iff (may_hold formats x) (chip_kept x && all_held xs)).0 a.1 in
    let c = (and-eq-true_iff (chip_kept x) (all_held xs)).0 b.1 in
    record { once = not-true _ a.0; first = b.0; kept = c.0; later = c.1 }

-- no field of one list stands in another
abbrev pub apart : List Item → List Item → Bool
apart [] ys = true
apart (x ∷ xs) ys = not (has ys x.number) && apart xs ys

has-append : (xs ys : List Item) (n : ℕ) → has (xs ++ ys) n ≡ (has xs n || has ys n)
has-append [] ys n = refl
has-append (x ∷ xs) ys n = rw (has-append xs ys n) (sym (or_assoc (eqb x.number n) (has xs n) (has ys n)))

pub held-append : (xs ys : List Item) → apart xs ys ≡ true → all_held xs ≡ true → all_held ys ≡ true → all_held (xs ++ ys) ≡ true
held-append [] ys d a b = b
held-append (x ∷ xs) ys d a b =
    let t = held_all x xs a in
    let e = (and-eq-true_iff (not (has ys x.number)) (apart xs ys)).0 d in
    rw (has-append xs ys x.number, t.once, not-true (has ys x.number) e.0, t.first, t.kept, held-append xs ys e.1 t.later b)

-- what is found of a list may be held
abbrev pub FindsHeld : List Item → Type 0
FindsHeld xs = (n : ℕ) → has xs n ≡ true → may_hold formats (named n (find xs n)) ≡ true

pub finds_none : FindsHeld []
finds_none n h = let z : ◌≡◌ {A = ℕ} 0 1 = cc in absurd (omega arith)

pub finds_more : (x : Item) (xs : List Item) → may_hold formats x ≡ true → FindsHeld xs → FindsHeld (x ∷ xs)
finds_more x xs m r n h = go (eqb x.number n) refl h
  where
    go : (t : Bool) → eqb x.number n ≡ t → (t || has xs n) ≡ true → may_hold formats (named n (cond t x.field (find xs n))) ≡ true
    go true q h = rw (← eqb-true x.number n q) m
    go false q h = r n h

pub found-held : (xs : List Item) (n : ℕ) → all_held xs ≡ true → has xs n ≡ true → may_hold formats (named n (find xs n)) ≡ true
found-held [] n a h = finds_none n h
found-held (x ∷ xs) n a h = let t = held_all x xs a in finds_more x xs t.first (λ k g. found-held xs k t.later g) n h

-- what is found of field 55 is elements in form
pub found-kept : (xs : List Item) → all_held xs ≡ true → elements_in_form (find xs 55).bytes ≡ true
found-kept [] a = form-none
found-kept (x ∷ xs) a = let t = held_all x xs a in go (eqb x.number 55) t.kept (found-kept xs t.later)
  where
    go : (t : Bool) → cond t (elements_in_form x.field.bytes) true ≡ true → elements_in_form (find xs 55).bytes ≡ true
        → elements_in_form (cond t x.field (find xs 55)).bytes ≡ true
    go true k ih = k
    go false k ih = ih

-- the fields of a table may hold what is found of them
abbrev pub Fitting : List Format → List Item → Type 0
Fitting fs xs = (n : ℕ) → has xs n ≡ true → among n (numbers fs) ≡ true → may_hold fs (named n (find xs n)) ≡ true

pub fitting_formats : (xs : List Item) → all_held xs ≡ true → Fitting formats xs
fitting_formats xs a n h l = found-held xs n a h

-- what a field holds is as long as its count says, and has its room
pub record Stored (f : Format) (v : Field) : Type 0 where
  pub size_is : length v.bytes ≡ size f.class v.count
  pub fits : length v.bytes ≤ room f

-- a field that is had
pub record Sound-in (f : Format) (v : Field) : Type 0 where
  pub allows : allowed f v.count ≡ true
  pub stored : Stored f v
  pub no_fault : fault f.class v.count v.bytes ≡ 0

pub sound_in : (f : Format) (v : Field) → holds f v ≡ true → Sound-in f v
sound_in f v h =
    let b = (and-eq-true_iff (allowed f v.count && eqb (length v.bytes) (size f.class v.count)) (eqb (fault f.class v.count v.bytes) 0)).0 h in
    let a = (and-eq-true_iff (allowed f v.count) (eqb (length v.bytes) (size f.class v.count))).0 b.0 in
    let l : length v.bytes ≡ size f.class v.count = eqb-true _ _ a.1 in
    let k = size_mono f.class v.count f.high (allowed-bounds f v.count a.0).1 in
    record { allows = a.0; stored = record { size_is = l; fits = omega arith }; no_fault = eqb-true _ _ b.1 }

size_none : (class : Class) → size class 0 ≡ 0
size_none Digits = refl
size_none Printable = refl
size_none Any = refl

module _ (f : Format) (fs : List Format) (xs : List Item) where
  fitting_here : (n : ℕ) → f.number ≡ n → may_hold (f ∷ fs) (named n (find xs n)) ≡ true → holds f (find xs n) ≡ true
  fitting_here n e h = rw (eq-eqb f.number n e) at h

  fitting_later : (n : ℕ) → eqb f.number n ≡ false → may_hold (f ∷ fs) (named n (find xs n)) ≡ true → may_hold fs (named n (find xs n)) ≡ true
  fitting_later n e h = rw e at h

  pub first-distinct : distinct (f ∷ fs) ≡ true → (among f.number (numbers fs) ≡ false) × (distinct fs ≡ true)
  first-distinct d =
      let t = (and-eq-true_iff (not (among f.number (numbers fs))) (distinct fs)).0 d in
      (not-true _ t.0, t.1)

  pub fitting_tail : distinct (f ∷ fs) ≡ true → Fitting (f ∷ fs) xs → Fitting fs xs
  fitting_tail d r n h l = go (eqb f.number n) refl
    where
      go : (t : Bool) → eqb f.number n ≡ t → may_hold fs (named n (find xs n)) ≡ true
      go true q =
          let e : among f.number (numbers fs) ≡ true = rw (eqb-true f.number n q) l in
          let b : false ≡ true = sym (first-distinct d).0 ∙ e in
          let z : ◌≡◌ {A = ℕ} 0 1 = cc in
          absurd (omega arith)
      go false q = fitting_later n q (r n h (rw q l))

  module _ (r : Fitting (f ∷ fs) xs) where
    pub fitting_head : has xs f.number ≡ true → Sound-in f (find xs f.number)
    fitting_head h =
        sound_in f (find xs f.number)
        (fitting_here f.number refl (r f.number h (rw (eq-eqb f.number f.number refl))))

    pub fitting_stored : Stored f (find xs f.number)
    fitting_stored = go (has xs f.number) refl
      where
        go : (t : Bool) → has xs f.number ≡ t → Stored f (find xs f.number)
        go true h = (fitting_head h).stored
        go false h = rw (find_none xs f.number h) (record { size_is = sym (size_none f.class); fits = omega arith })

-- a field's contents, with others after them
module _ {f : Format} {v : Field} (s : Stored f v) (rest : List ℕ) where
  pub stored-take : take (room f) (padded (room f) v.bytes ++ rest) ≡ padded (room f) v.bytes
  stored-take = take_at (padded (room f) v.bytes) rest (room f) (length-padded (room f) v.bytes s.fits)

  pub stored-drop : drop (room f) (padded (room f) v.bytes ++ rest) ≡ rest
  stored-drop = drop_at (padded (room f) v.bytes) rest (room f) (length-padded (room f) v.bytes s.fits)

  pub stored_bytes : take (size f.class v.count) (padded (room f) v.bytes ++ rest) ≡ v.bytes
  stored_bytes =
      let zeros : List ℕ = replicate (room f - length v.bytes) 0 in
      rw (append_assoc v.bytes zeros rest) (take_at v.bytes (zeros ++ rest) (size f.class v.count) s.size_is)
