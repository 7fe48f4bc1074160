-- The order of checks in reading.
use mathlib.Core.Path.{◌≡◌, refl, ap, sym, ◌∙◌}
use mathlib.Core.List.{List, [], ◌∷◌, ◌++◌, append_assoc}
use mathlib.Core.Bool.{Bool, true, false, cond}
use Prim.Native.Nat.{ℕ, suc, ◌+◌, ◌*◌, ◌≤◌, ◌<◌}
use native.Mathlib.Omega.{arith}
use native.Mathlib.Decide.{dec_lt}
use lib.Dec.{leb, eqb}
use lib.ListN.{length, get_or, take, drop, length-drop, take-append-drop}
use lib.Seq.{drop-cons, length-take-le}
use borrow.Author.Tests.{lt-ltb, leb-true, eqb-false}
use Rattle.field.specs.Table.{among, indicators, formats}
use Rattle.field.specs.Bitmap.{names, listed}
use Rattle.message.specs.Late.{late_fault}
use Rattle.message.specs.declared.Message.{Message}
use Rattle.message.proofs.Late.{late-number}
use Rattle.reading.specs.Reading.{Fields, bad, good, read_fields, refused, accepted, assembled, read_message, Read, Refused}
use Rattle.message_theorems.specs.Order.{field_numbers, ReadRefused, ShortIsThree, TypeBeforeBitmap, FaultStands, Whole, LongerIsNine, CutIsThree, FormAfterEnd, reading_rules, ReadJudgedBy}
use Rattle.message_theorems.proofs.Longer.{fields_stand, fields_longer, fields-cut}
use Rattle.message_theorems.proofs.Messages.{not_read, after_head, head_read, split_ten}
use Rattle.message_theorems.proofs.Numbers.{among-each, fields_judged, fields_judged_lem}
use Rattle.message_theorems.proofs.Readable.{bit-listed}

pub short-is_three : ShortIsThree
unfolding read_message
short-is_three b h = rw (lt-ltb (length b) 10 h)

-- the fields that the table lists are those of document 01
pub not_listed : (bm : List ℕ) → length bm ≡ 8 → (n : ℕ) → names bm n ≡ true → among n field_numbers ≡ false → listed bm ≡ false
unfolding formats
not_listed bm l n h k = go (listed bm) refl
  where
    go : (b : Bool) → listed bm ≡ b → b ≡ false
    go true e = sym (bit-listed bm l e n h) ∙ k
    go false e = refl

pub type_before-bitmap : TypeBeforeBitmap
unfolding after_head
type_before-bitmap =
    record {
      type_not_listed = λ x y rest l e.
          let h = head_read x y (take 8 rest) (drop 8 rest) (length-take-le 8 rest l) in
          let k : read_message (x ∷ y ∷ rest) ≡ refused 4 = rw (take-append-drop, e) at h in
          rw k;
      field_not_listed = λ x y bm rest l e n h k. rw (head_read x y bm rest l, e, not_listed bm l n h k);
    }

refused_equal : {a b : ℕ} → Refused a ≡ Refused b → a ≡ b
refused_equal q = cc

-- the rules on a message as a whole are 23 and 24
abbrev is_late : ℕ → Bool
is_late n = among n (23 ∷ 24 ∷ [])

late_high : (n : ℕ) → is_late n ≡ true → n ≤ 9 → ⊥
late_high n h l = omega (arith, leb-true 23 n (among-each (λ x. leb 23 x) n (23 ∷ 24 ∷ []) refl h))

accepted-late : (m : Message) (n : ℕ) → (accepted m).outcome ≡ Refused n → is_late n ≡ true
accepted-late m n = go (eqb (late_fault m) 0) refl
  where
    go : (b : Bool) → eqb (late_fault m) 0 ≡ b → (cond b (record { outcome = Read; message = m }) (refused (late_fault m))).outcome ≡ Refused n → is_late n ≡ true
    go true e q = absurd (not_read (sym q))
    go false e q = rw (← refused_equal q) (late-number m (eqb-false (late_fault m) 0 e))

-- a refusal's number
abbrev is_rule : ℕ → Bool
is_rule n = among n reading_rules

head-judged : (i : ℕ) (bm : List ℕ) (x : Fields) (n : ℕ) → fields_judged x ≡ true → (after_head i bm x).outcome ≡ Refused n → is_rule n ≡ true
unfolding after_head
head-judged i bm x n = go (among i indicators) (listed bm) x
  where
    go : (a b : Bool) (x : Fields) → fields_judged x ≡ true → (cond a (cond b (assembled i bm x) (refused 5)) (refused 4)).outcome ≡ Refused n
        → is_rule n ≡ true
    go false b x h q = rw (← refused_equal q)
    go true false x h q = rw (← refused_equal q)
    go true true (bad e) h q = among-each is_rule n (3 ∷ 6 ∷ 7 ∷ 8 ∷ 9 ∷ []) refl (rw (refused_equal q) at h)
    go true true (good cs bs) h q = among-each is_rule n (23 ∷ 24 ∷ []) refl (accepted-late _ n q)

-- a refusal stands where the fields' refusal does
head-stands : (i : ℕ) (bm : List ℕ) (x y : Fields) (n : ℕ) → n ≤ 9 → (x ≡ bad n → y ≡ bad n)
    → (after_head i bm x).outcome ≡ Refused n → (after_head i bm y).outcome ≡ Refused n
unfolding after_head
head-stands i bm x y n l h = go (among i indicators) (listed bm) x h
  where
    go : (a b : Bool) (x : Fields) → (x ≡ bad n → y ≡ bad n) → (cond a (cond b (assembled i bm x) (refused 5)) (refused 4)).outcome ≡ Refused n
        → (cond a (cond b (assembled i bm y) (refused 5)) (refused 4)).outcome ≡ Refused n
    go false b x h q = q
    go true false x h q = q
    go true true (bad e) h q = rw (h (ap bad (refused_equal q)))
    go true true (good cs bs) h q = absurd (late_high n (accepted-late _ n q) l)

-- what a reading that no rule up to 9 refuses says of its fields
record HeadGood (i : ℕ) (bm : List ℕ) (x : Fields) : Type 0 where
  indicator_listed : among i indicators ≡ true
  fields_listed : listed bm ≡ true
  counts : List ℕ
  contents : List ℕ
  fields : x ≡ good counts contents

head-good : (i : ℕ) (bm : List ℕ) (x : Fields) → fields_judged x ≡ true
    → ((n : ℕ) → n ≤ 9 → (after_head i bm x).outcome ≡ Refused n → ⊥) → HeadGood i bm x
unfolding after_head
head-good i bm x j w = go (among i indicators) refl (listed bm) refl x j w
  where
    go : (a : Bool) → among i indicators ≡ a → (b : Bool) → listed bm ≡ b → (x : Fields) → fields_judged x ≡ true
        → ((n : ℕ) → n ≤ 9 → (cond a (cond b (assembled i bm x) (refused 5)) (refused 4)).outcome ≡ Refused n → ⊥) → HeadGood i bm x
    go false p b q x j w = absurd (w 4 (omega arith) refl)
    go true p false q x j w = absurd (w 5 (omega arith) refl)
    go true p true q (bad e) j w = absurd (w e (leb-true e 9 (among-each (λ n. leb n 9) e (3 ∷ 6 ∷ 7 ∷ 8 ∷ 9 ∷ []) refl j)) refl)
    go true p true q (good cs bs) j w = record { indicator_listed = p; fields_listed = q; counts = cs; contents = bs; fields = refl }

-- any ten bytes, and those after them
module _ (x y : ℕ) (bm s : List ℕ) (l : length bm ≡ 8) where
  stands_after : (t : List ℕ) (n : ℕ) → 4 ≤ n → n ≤ 9 → ReadRefused n (x ∷ y ∷ (bm ++ s)) → ReadRefused n (x ∷ y ∷ ((bm ++ s) ++ t))
  stands_after t n low high q =
      let h = head-stands (x * 256 + y) bm (read_fields formats bm s) (read_fields formats bm (s ++ t)) n high
      (fields_stand formats bm s t n (λ e. omega arith)) (rw (head_read x y bm s l) at q) in
      rw (append_assoc, head_read x y bm (s ++ t) l) h

  whole-head : Whole (x ∷ y ∷ (bm ++ s)) → HeadGood (x * 256 + y) bm (read_fields formats bm s)
  whole-head w =
      head-good (x * 256 + y) bm (read_fields formats bm s) (fields_judged_lem formats bm s) (λ n h q. w n h (rw (head_read x y bm s l) q))

  longer_after : (z : ℕ) (t : List ℕ) → Whole (x ∷ y ∷ (bm ++ s)) → ReadRefused 9 (x ∷ y ∷ ((bm ++ s) ++ (z ∷ t)))
  unfolding after_head
  longer_after z t w =
      let g = whole-head w in
      rw (
        append_assoc,
        head_read x y bm (s ++ (z ∷ t)) l,
        g.indicator_listed,
        g.fields_listed,
        fields_longer formats bm s z t g.counts g.contents g.fields,
      )

  judged-after : (n : ℕ) → ReadRefused n (x ∷ y ∷ (bm ++ s)) → is_rule n ≡ true
  judged-after n q = head-judged (x * 256 + y) bm (read_fields formats bm s) n (fields_judged_lem formats bm s) (rw (head_read x y bm s l) at q)

cut-after : (x y : ℕ) (bm s : List ℕ) → length bm ≡ 8 → (z : ℕ) (t : List ℕ) → Whole (x ∷ y ∷ ((bm ++ s) ++ (z ∷ t)))
    → ReadRefused 3 (x ∷ y ∷ (bm ++ s))
unfolding after_head
cut-after x y bm s l z t w =
    let g = whole-head x y bm (s ++ (z ∷ t)) l (rw append_assoc at w) in
    rw (head_read x y bm s l, g.indicator_listed, g.fields_listed, fields-cut formats bm s z t g.counts g.contents g.fields)

-- what holds of any ten bytes and those after them holds of ten bytes or more
of_ten : (P : List ℕ → Type 0) → ((x y : ℕ) (bm rest : List ℕ) → length bm ≡ 8 → P (x ∷ y ∷ (bm ++ rest))) → (s : List ℕ) → 10 ≤ length s → P s
of_ten P h s l =
    rw (split_ten s l) at (h (get_or s 0 0) (get_or s 1 0) (take 8 (drop 2 s)) (drop 10 s) (length-take-le 8 (drop 2 s) (rw length-drop (omega arith))))

pub fault-stands : FaultStands
fault-stands b t n low high q = go (dec_lt (length b) 10)
  where
    go : Dec (length b < 10) → ReadRefused n (b ++ t)
    go (yes h) = absurd (omega (arith, refused_equal (sym (short-is_three b h) ∙ q)))
    go (no h) =
        of_ten (λ s. ReadRefused n s → ReadRefused n (s ++ t)) (λ x y bm s l. stands_after x y bm s l t n low high) b (omega arith) q

pub longer_is_nine : LongerIsNine
longer_is_nine b z t w = go (dec_lt (length b) 10)
  where
    go : Dec (length b < 10) → ReadRefused 9 (b ++ (z ∷ t))
    go (yes h) = absurd (w 3 (omega arith) (short-is_three b h))
    go (no h) = of_ten (λ s. Whole s → ReadRefused 9 (s ++ (z ∷ t))) (λ x y bm s l. longer_after x y bm s l z t) b (omega arith) w

pub cut-is_three : CutIsThree
cut-is_three b k w h = go (dec_lt k 10)
  where
    lk : length (take k b) ≡ k
    lk = length-take-le k b (omega arith)

    split : take k b ++ (get_or b k 0 ∷ drop (suc k) b) ≡ b
    split = rw (← drop-cons b k 0 h) (take-append-drop k b)

    go : Dec (k < 10) → ReadRefused 3 (take k b)
    go (yes i) = short-is_three (take k b) (omega (arith, lk))
    go (no i) =
        of_ten (λ s. Whole (s ++ (get_or b k 0 ∷ drop (suc k) b)) → ReadRefused 3 s)
        (λ x y bm s l. cut-after x y bm s l (get_or b k 0) (drop (suc k) b)) (take k b) (omega (arith, lk)) (rw split w)

pub form-after_end : FormAfterEnd
form-after_end b x n k q = longer_is_nine b x [] (λ i h p. late_high n k (omega (arith, refused_equal (sym p ∙ q))))

pub read-judged_by : ReadJudgedBy
read-judged_by b n q = go (dec_lt (length b) 10)
  where
    go : Dec (length b < 10) → is_rule n ≡ true
    go (yes h) = rw (← refused_equal (sym (short-is_three b h) ∙ q))
    go (no h) = of_ten (λ s. ReadRefused n s → is_rule n ≡ true) (λ x y bm s l. judged-after x y bm s l n) b (omega arith) q
