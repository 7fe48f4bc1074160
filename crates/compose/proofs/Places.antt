-- A message with a field at its place.
use mathlib.Core.Path.{◌≡◌, refl, ap, sym, ◌∙◌}
use mathlib.Core.List.{List, [], ◌∷◌, ◌++◌, append_assoc}
use mathlib.Core.Bool.{Bool, true, false, cond, ◌&&◌, and-false, and-eq-true_iff}
use Prim.Native.Nat.{ℕ, ◌+◌, ◌-◌, ◌/◌, ◌%◌, ◌≤◌, ◌<◌}
use native.Mathlib.Numerals.{add-one}
use native.Mathlib.Omega.{arith}
use native.Mathlib.Decide.{dec_lt}
use lib.Dec.{eqb}
use lib.ListN.{length, get_or, take, drop, set, replicate, length-append, length-drop, length-replicate, get_or-replicate, get_or-append}
use lib.Seq.{drop-drop, get_or-drop, take-suc, take-add, append_snoc, set_split, ext_get_or, get_or-append-add, length-take-le}
use borrow.Author.Tests.{eq-eqb, lt-leb, eqb-true}
use Rattle.digits.specs.Lists.{tabulate}
use Rattle.digits.specs.Digits.{bytes_for, pack, all_digits, packable}
use Rattle.digits.specs.Numbers.{digits_of}
use Rattle.digits.proofs.Lists.{length-tabulate, get_d_tabulate, get_d_past, front_back}
use Rattle.digits.proofs.Numbers.{length_digits_of, digits_of_digits}
use Rattle.digits.proofs.Packing.{bytes_for_lem, length-pack}
use Rattle.field.specs.Table.{formats, rows}
use Rattle.field.specs.Contents.{size, room, allowed, fault}
use Rattle.field.specs.declared.Format.{Format}
use Rattle.field.proofs.Contents.{size_mono, allowed-bounds}
use Rattle.field.proofs.Formats.{length-formats}
use Rattle.message.specs.Build.{Item, digits, padded}
use Rattle.message.specs.Message.{Field, rooms}
use Rattle.message.specs.declared.Message.{Message}
use Rattle.message.specs.Located.{found, located}
use Rattle.message.specs.declared.Located.{Located}
use Rattle.std.specs.Prelude.{Option, Some, None}
use Rattle.message.proofs.Standing.{standing}
use Rattle.compose.specs.Compose.{may_hold, with_count, with_contents, with_item}
use Rattle.compose.specs.Placed.{placed, put_at, item}

-- a field may hold what has an allowed length and stands in form
abbrev pub holds : Format → Field → Bool
holds f v = allowed f v.count && eqb (length v.bytes) (size f.class v.count) && eqb (fault f.class v.count v.bytes) 0

-- an item may be held where the field that is found holds it
may_hold_lem : (fs : List Format) (x : Item) (row from : ℕ) {r p : ℕ} {f : Format} → located fs x.number row from ≡ Some (found r p f)
    → may_hold fs x ≡ holds f x.field
unfolding located
may_hold_lem [] x row from e = let z : ◌≡◌ {A = ℕ} 0 1 = cc in absurd (omega arith)
may_hold_lem (g ∷ fs) x row from {r} {p} {f} e = go (eqb g.number x.number) e (may_hold_lem fs x (row + 1) (from + room g))
  where
    go : (t : Bool) → cond t (Some (found row from g)) (located fs x.number (row + 1) (from + room g)) ≡ Some (found r p f)
        → (located fs x.number (row + 1) (from + room g) ≡ Some (found r p f) → may_hold fs x ≡ holds f x.field)
        → cond t (holds g x.field) (may_hold fs x) ≡ holds f x.field
    go true e ih =
        let s : found row from g ≡ found r p f = cc in
        rw (ap (λ (l : Located). l.form) s)
    go false e ih = ih e

pub may_not_hold : (fs : List Format) (x : Item) (row from : ℕ) → located fs x.number row from ≡ None → may_hold fs x ≡ false
unfolding located
may_not_hold [] x row from e = refl
may_not_hold (g ∷ fs) x row from e = go (eqb g.number x.number) e (may_not_hold fs x (row + 1) (from + room g))
  where
    go : (t : Bool) → cond t (Some (found row from g)) (located fs x.number (row + 1) (from + room g)) ≡ None
        → (located fs x.number (row + 1) (from + room g) ≡ None → may_hold fs x ≡ false)
        → cond t (holds g x.field) (may_hold fs x) ≡ false
    go true e ih = let z : ◌≡◌ {A = ℕ} 0 1 = cc in absurd (omega arith)
    go false e ih = ih e

-- the message with an item, where its field stands
located-all : (fs : List Format) (x : Item) (row from : ℕ) (cs bs : List ℕ) {r p : ℕ} {f : Format}
    → located fs x.number row from ≡ Some (found r p f) → row + length fs ≤ length cs
    → (take row cs ++ with_count fs x (drop row cs) ≡ set cs r x.field.count)
    × (take from bs ++ with_contents fs x (drop from bs) ≡ placed p (room f) x.field.bytes bs)
unfolding located
located-all [] x row from cs bs e l = let z : ◌≡◌ {A = ℕ} 0 1 = cc in absurd (omega arith)
located-all (f ∷ fs) x row from cs bs {r} {p} {f = g} e l =
    go (eqb f.number x.number) e (located-all fs x (row + 1) (from + room f) cs bs)
  where
    go : (t : Bool) → cond t (Some (found row from f)) (located fs x.number (row + 1) (from + room f)) ≡ Some (found r p g)
        → (located fs x.number (row + 1) (from + room f) ≡ Some (found r p g) → row + 1 + length fs ≤ length cs
        → (take (row + 1) cs ++ with_count fs x (drop (row + 1) cs) ≡ set cs r x.field.count)
        × (take (from + room f) bs ++ with_contents fs x (drop (from + room f) bs) ≡ placed p (room g) x.field.bytes bs))
        → (take row cs ++ cond t (x.field.count ∷ drop 1 (drop row cs)) (get_or (drop row cs) 0 0 ∷ with_count fs x (drop 1 (drop row cs)))
        ≡ set cs r x.field.count)
        × (take from bs ++ cond t (padded (room f) x.field.bytes ++ drop (room f) (drop from bs))
        (take (room f) (drop from bs) ++ with_contents fs x (drop (room f) (drop from bs)))
        ≡ placed p (room g) x.field.bytes bs)
    go true e ih =
        let s : found row from f ≡ found r p g = cc in
        let a : row ≡ r = ap (λ (l : Located). l.row) s in
        let b : from ≡ p = ap (λ (l : Located). l.from) s in
        let c : f ≡ g = ap (λ (l : Located). l.form) s in
        (rw (← a, drop-drop 1 row cs, add-one) (sym (set_split cs row x.field.count (omega arith))), rw (← b, ← c))
    go false e ih =
        let z : row + 0 ≡ row = omega arith in
        let t = ih e (omega arith) in (
          rw (get_or-drop row cs 0 0, z, drop-drop 1 row cs, ← append_snoc (take row cs) (get_or cs row 0) (with_count fs x (drop (row + 1) cs)), ← take-suc cs row 0 (omega arith), ← add-one row) t.0,
          rw (drop-drop (room f) from bs, ← append_assoc (take from bs) (take (room f) (drop from bs)) (with_contents fs x (drop (from + room f) bs)), ← take-add from (room f) bs) t.1,
        )

pub left_out : (m : Message) (x : Item) → located formats x.number 0 0 ≡ None → m ≡ with_item x m
unfolding with_item
left_out m x e = rw (may_not_hold formats x 0 0 e)

module _ (m : Message) (x : Item) {row from : ℕ} {f : Format} (e : located formats x.number 0 0 ≡ Some (found row from f)) where
  pub not_held : holds f x.field ≡ false → m ≡ with_item x m
  unfolding with_item
  not_held h = rw (may_hold_lem formats x 0 0 e, h)

  pub put_held : length m.counts ≡ rows → holds f x.field ≡ true
      → put_at m x.number row from (room f) x.field.count x.field.bytes ≡ with_item x m
  unfolding with_item
  put_held l h =
      let t = located-all formats x 0 0 m.counts m.contents e (omega (arith, length-formats)) in
      rw (may_hold_lem formats x 0 0 e, h, t.0, t.1)

-- b with zeros after it, place by place
pub length-padded : (n : ℕ) (b : List ℕ) → length b ≤ n → length (padded n b) ≡ n
length-padded n b h = simp (length-append, length-replicate) (omega arith)

pub padded-is : (n : ℕ) (b : List ℕ) → length b ≤ n → tabulate n (λ i. get_or b i 0) ≡ padded n b
padded-is n b h =
    ext_get_or 0 (tabulate n place) (padded n b) (length-tabulate n place ∙ sym (length-padded n b h))
    (λ i l. let k : i < n = omega (arith, length-tabulate n place) in get_d_tabulate n place i k ∙ go i k (dec_lt i (length b)))
  where
    place : ℕ → ℕ
    place i = get_or b i 0

    go : (i : ℕ) → i < n → Dec (i < length b) → get_or b i 0 ≡ get_or (padded n b) i 0
    go i k (yes l) = sym (get_or-append b (replicate (n - length b) 0) 0 i l)
    go i k (no l) =
        let q : i ≡ length b + (i - length b) = omega arith in
        get_d_past b i (omega arith)
        ∙ sym (ap (λ (j : ℕ). get_or (padded n b) j 0) q ∙ get_or-append-add b (replicate (n - length b) 0) (i - length b) 0
        ∙ get_or-replicate (n - length b) (i - length b) 0 0 (omega arith))

-- an item whose field is found and allows its count
module _ (m : Message) (n count : ℕ) (b : List ℕ) {row from : ℕ} {f : Format} {s : Bool} (e : located formats n 0 0 ≡ Some (found row from f))
    (q : s ≡ allowed f count) where
  pub not_allowed : s ≡ false → m ≡ with_item (item n count b) m
  not_allowed h = not_held m (item n count b) e (rw (sym q ∙ h))

  pub count_small : s ≡ true → count < 256
  count_small h = omega (arith, allowed-bounds f count (sym q ∙ h), (standing n e).high_small)

  module _ {t : Bool} (g : t ≡ (eqb (length b) (size f.class count) && eqb (fault f.class count b) 0)) where
    pub not_in_form : s ≡ true → t ≡ false → m ≡ with_item (item n count b) m
    not_in_form h z = not_held m (item n count b) e (rw (sym q ∙ h) (sym g ∙ z))

    module _ (h : s ≡ true) (z : t ≡ true) where
      pub put_fits : (0 < n) × (n ≤ 64) × (row < rows) × (from + room f ≤ rooms) × (length b ≤ room f)
      put_fits =
          let p = standing n e in
          let l = eqb-true (length b) (size f.class count) ((and-eq-true_iff (eqb (length b) (size f.class count)) (eqb (fault f.class count b) 0)).0 (sym g ∙ z)).0 in
          let k = size_mono f.class count f.high (allowed-bounds f count (sym q ∙ h)).1 in
          (p.number_positive, p.number_small, p.row_below, p.fits, omega arith)

      pub put_item : {r : Message} → length m.counts ≡ rows → r ≡ put_at m n row from (room f) count b → r ≡ with_item (item n count b) m
      put_item l p = p ∙ put_held m (item n count b) e l (rw (sym q ∙ h) (sym g ∙ z))

over_long : (f : Format) (n : ℕ) → f.high < n → allowed f n ≡ false
unfolding allowed
over_long f n h = rw (lt-leb n f.high h, and-false)

-- no field allows more than 255 digits or bytes
pub too_long : (m : Message) (x : Item) → 255 < x.field.count → m ≡ with_item x m
too_long m x h = go (located formats x.number 0 0) refl
  where
    go : (l : Option Located) → located formats x.number 0 0 ≡ l → m ≡ with_item x m
    go (Some at) e = not_allowed m x.number x.field.count x.field.bytes e refl (over_long at.form _ (omega (arith, (standing x.number e).high_small)))
    go None e = left_out m x e

-- digits that were packed into the front of an array
module _ (m : Message) (n : ℕ) (ds : List ℕ) where
  pub digits_long : 255 < length ds → m ≡ cond (all_digits ds) (with_item (digits n ds) m) m
  digits_long h = rw (← too_long m (digits n ds) h) (same (all_digits ds))
    where
      same : (t : Bool) → m ≡ cond t m m
      same true = refl
      same false = refl

  module _ (z : List ℕ) {k : ℕ} {t : Bool} (v : k ≡ length ds / 2 + length ds % 2) (l : k ≤ length z) (q : t ≡ packable ds (length (take k z))) where
    packable-is : packable ds (length (take k z)) ≡ all_digits ds
    unfolding packable
    packable-is = rw (length-take-le k z l, eq-eqb k (bytes_for (length ds)) (v ∙ sym (bytes_for_lem (length ds))))

    pub digits_not : t ≡ false → m ≡ cond (all_digits ds) (with_item (digits n ds) m) m
    digits_not h = rw (← packable-is, ← q, h)

    pub digits_put : {e : List ℕ} {r : Message} → t ≡ true → e ≡ cond (packable ds (length (take k z))) (pack ds) (take k z)
        → r ≡ with_item (item n (length ds) (take k (e ++ drop k z))) m → r ≡ cond (all_digits ds) (with_item (digits n ds) m) m
    digits_put {e} h p g =
        let a : packable ds (length (take k z)) ≡ true = sym q ∙ h in
        let b : e ≡ pack ds = p ∙ rw a in
        let c : length e ≡ length (take k z) = rw (b, length-take-le k z l) (length-pack ds ∙ bytes_for_lem (length ds) ∙ sym v) in
        g ∙ rw (← packable-is, a, front_back k e z c l, b)

-- the digits of a number, in the front of an array
pub number_put : (m : Message) (n count x : ℕ) (z : List ℕ) {k : ℕ} {e : List ℕ} {r : Message} → k ≡ count → k ≤ length z
    → e ≡ digits_of (length (take k z)) x
    → r ≡ cond (all_digits (take k (e ++ drop k z))) (with_item (digits n (take k (e ++ drop k z))) m) m
    → r ≡ with_item (digits n (digits_of count x)) m
number_put m n count x z {k} {e} v l p g =
    let b : e ≡ digits_of count x = p ∙ rw (length-take-le k z l, v) in
    let c : length e ≡ length (take k z) = rw (b, length-take-le k z l) (length_digits_of count x ∙ sym v) in
    g ∙ rw (front_back k e z c l, b, digits_of_digits count x)

-- the contents with a part filled
pub part_filled : (from k : ℕ) (b bs : List ℕ) {e : List ℕ} → from + k ≤ length bs
    → e ≡ padded (length (take (from + k - from) (drop from bs))) b
    → take from bs ++ (e ++ drop (from + k - from) (drop from bs)) ≡ placed from k b bs
part_filled from k b bs h p =
    let q : from + k - from ≡ k = omega arith in
    let l : length (take k (drop from bs)) ≡ k = length-take-le k (drop from bs) (rw length-drop (omega arith)) in
    rw (p, q, l)
