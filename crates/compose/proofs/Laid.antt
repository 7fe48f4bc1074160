-- Fields made of parts, each a number of so many digits.
use mathlib.Core.Path.{◌≡◌, ◌∙◌}
use mathlib.Core.List.{List, ◌++◌}
use mathlib.Core.Bool.{true, cond}
use Prim.Native.Nat.{ℕ}
use lib.ListN.{replicate}
use Rattle.digits.specs.Digits.{all_digits}
use Rattle.field.specs.Table.{formats}
use Rattle.message.specs.Build.{digits}
use Rattle.message.specs.declared.Message.{Message}
use Rattle.parts.specs.Layout.{sum, widths, laid}
use Rattle.digits.proofs.Packing.{digits_append}
use Rattle.parts.proofs.Laid.{put_each, put_before, put_laid, laid-digits, length-laid}
use Rattle.compose.specs.Compose.{may_hold, with_item}
use Rattle.compose.proofs.Items.{takes, is_digits, digits-held}

-- a field that allows as many digits as its parts have may hold them
pub laid-held : (n : ℕ) (xs : List ℕ) → takes is_digits formats n (sum (widths n)) ≡ true → may_hold formats (digits n (laid n xs)) ≡ true
laid-held n xs h = digits-held n (laid n xs) (rw (length-laid (widths n) xs) h) (laid-digits (widths n) xs)

-- an array of a field's digits, put into a message
module _ (m : Message) (n : ℕ) (xs : List ℕ) {s : List ℕ} {r : Message} where
  pub laid_put : s ≡ laid n xs → r ≡ cond (all_digits s) (with_item (digits n s) m) m → r ≡ with_item (digits n (laid n xs)) m
  laid_put e q = q ∙ rw (e, laid-digits (widths n) xs)

  -- its parts were put into zeros before other digits, one after another
  pub parts_before : (rest : List ℕ) → all_digits rest ≡ true → s ≡ put_each 0 (widths n) xs (replicate (sum (widths n)) 0 ++ rest)
      → r ≡ cond (all_digits s) (with_item (digits n s) m) m → r ≡ with_item (digits n (laid n xs ++ rest)) m
  parts_before rest d e q =
      q ∙ rw (put_before (widths n) xs rest e, digits_append (laid n xs) rest (laid-digits (widths n) xs) d)

  -- or into zeros alone
  pub parts_put : s ≡ put_each 0 (widths n) xs (replicate (sum (widths n)) 0) → r ≡ cond (all_digits s) (with_item (digits n s) m) m
      → r ≡ with_item (digits n (laid n xs)) m
  parts_put e q = laid_put (put_laid (widths n) xs e) q
