-- Field 60: kind, batch and management code, with or without 60.4 to 60.6.
use mathlib.Core.Path.{◌≡◌, refl, sym, ap, ◌∙◌}
use mathlib.Core.List.{List, [], ◌∷◌, ◌++◌}
use mathlib.Core.Bool.{Bool, true, false, cond}
use Prim.Native.Nat.{ℕ, ◌+◌}
use lib.ListN.{length, take, drop, replicate, length-append, take-append-drop}
use Rattle.digits.specs.Digits.{all_digits}
use Rattle.digits.proofs.Packing.{digits_append}
use Rattle.field.specs.Table.{formats}
use Rattle.field.specs.Contents.{allowed}
use Rattle.message.specs.Build.{digits}
use Rattle.message.specs.declared.Message.{Message}
use Rattle.parts.specs.Layout.{widths, laid}
use Rattle.parts.proofs.Laid.{put_each, length-laid}
use Rattle.numbers.specs.declared.Batch.{Batch}
use Rattle.kinds.specs.Kinds.{allows_partial}
use Rattle.compose.specs.Compose.{may_hold, with_item}
use Rattle.compose.proofs.Items.{takes, is_digits, digits-held}
use Rattle.compose.proofs.Laid.{parts_before}
use Rattle.outgoing.specs.Outgoing.{field60, asks_partial, card_field60}
use Rattle.outgoing.proofs.Fields.{field60-digits}

-- the three parts put into eleven zeros, before other digits
pub codes_put : (m : Message) (xs ds : List ℕ) {s : List ℕ} {r : Message} → take 11 ds ≡ replicate 11 0 → all_digits (drop 11 ds) ≡ true
    → s ≡ put_each 0 (widths 60) xs ds → r ≡ cond (all_digits s) (with_item (digits 60 s) m) m
    → r ≡ with_item (digits 60 (laid 60 xs ++ drop 11 ds)) m
codes_put m xs ds {s} z d e q =
    let k : ds ≡ replicate 11 0 ++ drop 11 ds = sym (take-append-drop 11 ds) ∙ rw z in
    let p : s ≡ put_each 0 (widths 60) xs (replicate 11 0 ++ drop 11 ds) = e ∙ ap (λ (t : List ℕ). put_each 0 (widths 60) xs t) k in
    parts_before m 60 xs (drop 11 ds) d p q

-- field 60 of a card request
pub asks-digits : (kind : ℕ) → all_digits (asks_partial kind) ≡ true
unfolding all_digits
asks-digits kind = go (allows_partial kind)
  where
    go : (b : Bool) → all_digits (cond b (0 ∷ 0 ∷ 1 ∷ []) []) ≡ true
    go true = refl
    go false = refl

pub card-codes-digits : (kind : ℕ) (batch : Batch) → all_digits (card_field60 kind batch) ≡ true
card-codes-digits kind batch =
    digits_append (field60 kind batch 0) (asks_partial kind) (field60-digits kind batch 0) (asks-digits kind)

pub card-codes-held : (kind : ℕ) (batch : Batch) → may_hold formats (digits 60 (card_field60 kind batch)) ≡ true
unfolding formats allowed
card-codes-held kind batch = digits-held 60 (card_field60 kind batch) (rw (length-append, length-laid (widths 60) (kind ∷ batch.0 ∷ 0 ∷ [])) (go (allows_partial kind))) (card-codes-digits kind batch)
  where
    go : (b : Bool) → takes is_digits formats 60 (11 + length {A = ℕ} (cond b (0 ∷ 0 ∷ 1 ∷ []) [])) ≡ true
    go true = refl
    go false = refl
