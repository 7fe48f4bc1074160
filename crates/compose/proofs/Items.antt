-- Items that a field may hold: digits and bytes of the field's class, as many as it allows.
use mathlib.Core.Path.{◌≡◌, refl}
use mathlib.Core.List.{List, [], ◌∷◌}
use mathlib.Core.Bool.{Bool, true, false, cond, ◌&&◌, and-true, and-eq-true_iff}
use Prim.Native.Nat.{ℕ}
use native.Mathlib.Omega.{arith}
use lib.Dec.{leb, eqb}
use lib.ListN.{length}
use borrow.Author.Tests.{eq-eqb}
use Rattle.digits.specs.Digits.{all_digits}
use Rattle.digits.specs.Numbers.{digits_of}
use Rattle.digits.proofs.Numbers.{length_digits_of, digits_of_digits}
use Rattle.digits.proofs.Packing.{length-pack, packed-pack}
use Rattle.field.specs.Table.{formats}
use Rattle.field.specs.Contents.{size, allowed, all_printable, fault}
use Rattle.field.specs.declared.Class.{Class}
use Rattle.field.specs.declared.Class.TheVariants.{Digits, Printable, Any}
use Rattle.field.specs.declared.Format.{Format}
use Rattle.elements.specs.Elements.{elements_in_form, chip_in_form}
use Rattle.message.specs.Build.{Item, digits, bytes}
use Rattle.compose.specs.Compose.{may_hold}
use Rattle.compose.proofs.Places.{holds}

abbrev pub is_digits : Class → Bool
is_digits Digits = true
is_digits Printable = false
is_digits Any = false

abbrev pub is_printable : Class → Bool
is_printable Digits = false
is_printable Printable = true
is_printable Any = false

abbrev pub is_any : Class → Bool
is_any Digits = false
is_any Printable = false
is_any Any = true

-- field n of a table is of a class and allows k digits or bytes
abbrev pub takes : (Class → Bool) → List Format → ℕ → ℕ → Bool
takes p [] n k = false
takes p (f ∷ fs) n k = cond (eqb f.number n) (p f.class && allowed f k) (takes p fs n k)

-- each class that passes has the item in form
abbrev InForm : (Class → Bool) → Item → Type 0
InForm p x =
    (class : Class) → p class ≡ true
    → (length x.field.bytes ≡ size class x.field.count) × (fault class x.field.count x.field.bytes ≡ 0)

taken-held : (p : Class → Bool) (fs : List Format) (x : Item) → InForm p x → takes p fs x.number x.field.count ≡ true → may_hold fs x ≡ true
taken-held p [] x g h = h
taken-held p (f ∷ fs) x g h = go (eqb f.number x.number) h (taken-held p fs x g)
  where
    go : (t : Bool) → cond t (p f.class && allowed f x.field.count) (takes p fs x.number x.field.count) ≡ true
        → (takes p fs x.number x.field.count ≡ true → may_hold fs x ≡ true) → cond t (holds f x.field) (may_hold fs x) ≡ true
    go true h ih =
        let t = (and-eq-true_iff (p f.class) (allowed f x.field.count)).0 h in
        let c = g f.class t.0 in
        rw (t.1, eq-eqb _ _ c.0, eq-eqb _ _ c.1)
    go false h ih = ih h

pub digits-held : (n : ℕ) (ds : List ℕ) → takes is_digits formats n (length ds) ≡ true → all_digits ds ≡ true → may_hold formats (digits n ds) ≡ true
digits-held n ds h a = taken-held is_digits formats (digits n ds) form h
  where
    form : InForm is_digits (digits n ds)
    form Digits e = (length-pack ds, rw (packed-pack ds a))
    form Printable e = let z : ◌≡◌ {A = ℕ} 0 1 = cc in absurd (omega arith)
    form Any e = let z : ◌≡◌ {A = ℕ} 0 1 = cc in absurd (omega arith)

pub number-held : (n k x : ℕ) → takes is_digits formats n k ≡ true → may_hold formats (digits n (digits_of k x)) ≡ true
number-held n k x h = digits-held n (digits_of k x) (rw (length_digits_of k x) h) (digits_of_digits k x)

pub printable-held : (n : ℕ) (b : List ℕ) → takes is_printable formats n (length b) ≡ true → all_printable b ≡ true → may_hold formats (bytes n b) ≡ true
printable-held n b h a = taken-held is_printable formats (bytes n b) form h
  where
    form : InForm is_printable (bytes n b)
    form Digits e = let z : ◌≡◌ {A = ℕ} 0 1 = cc in absurd (omega arith)
    form Printable e = (refl, rw a)
    form Any e = let z : ◌≡◌ {A = ℕ} 0 1 = cc in absurd (omega arith)

pub bytes-held : (n : ℕ) (b : List ℕ) → takes is_any formats n (length b) ≡ true → may_hold formats (bytes n b) ≡ true
bytes-held n b h = taken-held is_any formats (bytes n b) form h
  where
    form : InForm is_any (bytes n b)
    form Digits e = let z : ◌≡◌ {A = ℕ} 0 1 = cc in absurd (omega arith)
    form Printable e = let z : ◌≡◌ {A = ℕ} 0 1 = cc in absurd (omega arith)
    form Any e = (refl, refl)

-- a field 55 in form
module _ (b : List ℕ) (h : chip_in_form b ≡ true) where
  chip_parts : ((leb 1 (length b) && leb (length b) 255) ≡ true) × (elements_in_form b ≡ true)
  unfolding chip_in_form
  chip_parts = (and-eq-true_iff (leb 1 (length b) && leb (length b) 255) (elements_in_form b)).0 h

  pub chip-held : may_hold formats (bytes 55 b) ≡ true
  unfolding formats allowed
  chip-held = bytes-held 55 b (rw and-true chip_parts.0)

  pub chip_elements : elements_in_form b ≡ true
  chip_elements = chip_parts.1
