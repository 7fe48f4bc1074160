-- A message that is not refused.
use mathlib.Core.Path.{◌≡◌, refl}
use mathlib.Core.List.{List, ◌∷◌}
use mathlib.Core.Bool.{Bool, true, false, cond}
use Prim.Native.Nat.{ℕ}
use native.Mathlib.Omega.{arith}
use lib.Dec.{eqb}
use lib.ListN.{get_or, take, drop}
use borrow.Author.Tests.{eqb-true, eqb-false}
use Rattle.field.specs.Table.{among, indicators, formats}
use Rattle.field.specs.Bitmap.{names, listed}
use Rattle.field.specs.Contents.{size, room, stands, kept, fault}
use Rattle.field.specs.declared.Format.{Format}
use Rattle.message.specs.Late.{late_fault}
use Rattle.message.specs.declared.Message.{Message}
use Rattle.writing.specs.Writing.{field_fault, fields_fault, contents_fault, message_fault}

-- a choice that gives 0, where its other side does not
chosen : (b : Bool) (x y : ℕ) → (b ≡ false → y ≡ 0 → ⊥) → cond b x y ≡ 0 → (b ≡ true) × (x ≡ 0)
chosen true x y n h = (refl, h)
chosen false x y n h = absurd (n refl h)

-- a field that is not refused where it stands
pub record Sound (f : Format) (n : ℕ) (bs : List ℕ) : Type 0 where
  pub stands_there : stands f n ≡ true
  pub no_fault : fault f.class (kept f n) (take (size f.class (kept f n)) bs) ≡ 0

pub field-sound : (f : Format) (bm : List ℕ) (n : ℕ) (bs : List ℕ) → names bm f.number ≡ true → field_fault f bm n bs ≡ 0 → Sound f n bs
unfolding field_fault
field-sound f bm n bs e h =
    let q = chosen (stands f n) (fault f.class (kept f n) (take (size f.class (kept f n)) bs)) 7 (λ _ z. omega (arith, z)) (rw e at h) in
    record { stands_there = q.0; no_fault = q.1 }

-- the first field and the others
pub fields-sound : (f : Format) (fs : List Format) (bm cs bs : List ℕ) → fields_fault (f ∷ fs) bm cs bs ≡ 0
    → (field_fault f bm (get_or cs 0 0) bs ≡ 0) × (fields_fault fs bm (drop 1 cs) (drop (room f) bs) ≡ 0)
unfolding fields_fault
fields-sound f fs bm cs bs h =
    let e = field_fault f bm (get_or cs 0 0) bs in
    let q = chosen (eqb e 0) (fields_fault fs bm (drop 1 cs) (drop (room f) bs)) e (λ b z. eqb-false e 0 b z) h in
    (eqb-true e 0 q.0, q.1)

-- a message that is not refused
pub record Writable (m : Message) : Type 0 where
  pub indicator_listed : among m.indicator indicators ≡ true
  pub fields_listed : listed m.bitmap ≡ true
  pub no_fault : fields_fault formats m.bitmap m.counts m.contents ≡ 0
  pub late : late_fault m ≡ 0

pub fault_inversion : (m : Message) → message_fault m ≡ 0 → Writable m
unfolding message_fault
fault_inversion m h =
    let x = fields_fault formats m.bitmap m.counts m.contents in
    let a = chosen (among m.indicator indicators) (cond (listed m.bitmap) (contents_fault m) 5) 4 (λ _ z. omega (arith, z)) h in
    let b = chosen (listed m.bitmap) (contents_fault m) 5 (λ _ z. omega (arith, z)) a.1 in
    let c = chosen (eqb x 0) (late_fault m) x (λ q z. eqb-false x 0 q z) b.1 in
    record { indicator_listed = a.0; fields_listed = b.0; no_fault = eqb-true x 0 c.0; late = c.1 }
