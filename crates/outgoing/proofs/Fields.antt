-- Each field of what leaves, by itself, may be held.
use mathlib.Core.Path.{◌≡◌, refl}
use mathlib.Core.List.{List, [], ◌∷◌}
use mathlib.Core.Bool.{true}
use Prim.Native.Nat.{ℕ, ◌≤◌}
use lib.ListN.{length, replicate}
use borrow.Author.Tests.{le-leb}
use Rattle.digits.specs.Numbers.{digits_of}
use Rattle.field.specs.Table.{formats}
use Rattle.field.specs.Contents.{allowed, all_printable}
use Rattle.message.specs.Build.{digits, bytes}
use Rattle.parts.specs.Layout.{widths}
use Rattle.parts.proofs.Laid.{laid-digits}
use Rattle.numbers.specs.declared.Batch.{Batch}
use Rattle.compose.specs.Compose.{may_hold}
use Rattle.compose.proofs.Items.{takes, is_digits, number-held, printable-held, bytes-held}
use Rattle.compose.proofs.Laid.{laid-held}
use Rattle.outgoing.specs.declared.Original.{Original}
use Rattle.outgoing.specs.Outgoing.{field60, field61}
use Rattle.digits.specs.Digits.{all_digits}

-- a card number, and a fixed field's digits or bytes, are as many as the table allows
pub card-taken : (k : ℕ) → 13 ≤ k → k ≤ 19 → takes is_digits formats 2 k ≡ true
unfolding formats allowed
card-taken k l h = rw (le-leb 13 k l, le-leb k 19 h)

pub processing_held : (x : ℕ) → may_hold formats (digits 3 (digits_of 6 x)) ≡ true
unfolding formats allowed
processing_held x = number-held 3 6 x refl

pub amount-held : (x : ℕ) → may_hold formats (digits 4 (digits_of 12 x)) ≡ true
unfolding formats allowed
amount-held x = number-held 4 12 x refl

pub trace-held : (x : ℕ) → may_hold formats (digits 11 (digits_of 6 x)) ≡ true
unfolding formats allowed
trace-held x = number-held 11 6 x refl

pub entry-held : (x : ℕ) → may_hold formats (digits 22 (digits_of 3 x)) ≡ true
unfolding formats allowed
entry-held x = number-held 22 3 x refl

pub condition_held : (x : ℕ) → may_hold formats (digits 25 (digits_of 2 x)) ≡ true
unfolding formats allowed
condition_held x = number-held 25 2 x refl

pub reference-held : (b : List ℕ) → length b ≡ 12 → all_printable b ≡ true → may_hold formats (bytes 37 b) ≡ true
unfolding formats allowed
reference-held b l p = printable-held 37 b (rw l) p

pub authorisation-held : (b : List ℕ) → length b ≡ 6 → all_printable b ≡ true → may_hold formats (bytes 38 b) ≡ true
unfolding formats allowed
authorisation-held b l p = printable-held 38 b (rw l) p

pub reason-held : (b : List ℕ) → length b ≡ 2 → all_printable b ≡ true → may_hold formats (bytes 39 b) ≡ true
unfolding formats allowed
reason-held b l p = printable-held 39 b (rw l) p

pub terminal-held : (b : List ℕ) → length b ≡ 8 → all_printable b ≡ true → may_hold formats (bytes 41 b) ≡ true
unfolding formats allowed
terminal-held b l p = printable-held 41 b (rw l) p

pub merchant-held : (b : List ℕ) → length b ≡ 15 → all_printable b ≡ true → may_hold formats (bytes 42 b) ≡ true
unfolding formats allowed
merchant-held b l p = printable-held 42 b (rw l) p

pub currency-held : (b : List ℕ) → length b ≡ 3 → all_printable b ≡ true → may_hold formats (bytes 49 b) ≡ true
unfolding formats allowed
currency-held b l p = printable-held 49 b (rw l) p

pub mac_held : may_hold formats (bytes 64 (replicate 8 0)) ≡ true
unfolding formats allowed
mac_held = bytes-held 64 (replicate 8 0) refl

-- fields 60 and 61
pub field60-digits : (kind : ℕ) (batch : Batch) (code : ℕ) → all_digits (field60 kind batch code) ≡ true
field60-digits kind batch code = laid-digits (widths 60) (kind ∷ batch.0 ∷ code ∷ [])

pub field60-held : (kind : ℕ) (batch : Batch) (code : ℕ) → may_hold formats (digits 60 (field60 kind batch code)) ≡ true
unfolding formats allowed
field60-held kind batch code = laid-held 60 (kind ∷ batch.0 ∷ code ∷ []) refl

pub field61-held : (o : Original) → may_hold formats (digits 61 (field61 o)) ≡ true
unfolding formats allowed
field61-held o = laid-held 61 (o.batch.0 ∷ o.trace.0 ∷ o.date ∷ []) refl

-- the currency is printable
pub currency-printable : all_printable (0x31 ∷ 0x35 ∷ 0x36 ∷ []) ≡ true
unfolding all_printable
currency-printable = refl
