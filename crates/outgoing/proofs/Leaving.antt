-- What leaves: the fields of a request and of a reversal are held, so that the message is theirs, and is written.
use Rattle.std.specs.Prelude.{Ok}
use mathlib.Core.Path.{◌≡◌, refl}
use mathlib.Core.List.{List, [], ◌∷◌, ◌++◌}
use mathlib.Core.Bool.{Bool, true, false, cond, ◌||◌}
use Prim.Native.Nat.{ℕ, ◌≤◌}
use lib.ListN.{length, drop}
use borrow.Author.Tests.{le-ltb}
use Rattle.field.specs.Table.{among, indicators, formats}
use Rattle.field.specs.Contents.{all_printable}
use Rattle.message.specs.Build.{Item, digits, bytes, message_of}
use Rattle.message.specs.Message.{largest}
use Rattle.numbers.specs.declared.Batch.{Batch}
use Rattle.kinds.specs.Kinds.{indicator_of, processing_of, condition_of, takes_original, keys_reference, keys_authorisation}
use Rattle.kinds.proofs.Types.{each_type}
use Rattle.state.specs.State.{chip_bytes, has_chip}
use Rattle.state.specs.declared.Chip.{Chip}
use Rattle.state.specs.declared.Request.{Request}
use Rattle.state.specs.declared.Reason.{Reason}
use Rattle.state.specs.declared.Reason.TheVariants.{Silence, BadMac, CardDeclined}
use Rattle.state.specs.declared.Reversal.{Reversal}
use Rattle.state.specs.declared.Settings.{Settings}
use Rattle.writing.specs.Writing.{message_bytes, written, write_message}
use Rattle.compose.specs.Compose.{may_hold, all_held, with_all}
use Rattle.compose.proofs.Items.{number-held, chip-held, chip_elements}
use Rattle.compose.proofs.Composed.{all_composed}
use Rattle.compose.proofs.Held.{apart, held-append}
use Rattle.compose.proofs.Sound.{sound}
use Rattle.outgoing.specs.declared.Original.{Original}
use Rattle.outgoing.specs.Outgoing.{field61, entry_mode, chip_fields, plain_fields, card_fields, original_fields, request_fields, reason_code, reversal_fields, request_message, reversal_message}
use Rattle.outgoing.specs.Held.{CardHeld, OriginalHeld}
use Rattle.outgoing.proofs.Fields.{card-taken, processing_held, amount-held, trace-held, entry-held, condition_held, reference-held, authorisation-held, reason-held, terminal-held, merchant-held, currency-held, mac_held, field61-held, currency-printable}
use Rattle.outgoing.proofs.Codes.{card-codes-held}

-- the reasons are printable
reason-printable : (r : Reason) → all_printable (reason_code r) ≡ true
unfolding all_printable
reason-printable Silence = refl
reason-printable BadMac = refl
reason-printable CardDeclined = refl

reason-length : (r : Reason) → length (reason_code r) ≡ 2
reason-length Silence = refl
reason-length BadMac = refl
reason-length CardDeclined = refl

-- what holds of field 55, and of its absence, holds of a chip's fields
pub by_chip : (P : List Item → Type 0) (c : Chip) → (has_chip c ≡ true → P (bytes 55 (chip_bytes c) ∷ [])) → (has_chip c ≡ false → P [])
    → P (chip_fields c)
by_chip P c f g = go (has_chip c) refl
  where
    go : (t : Bool) → has_chip c ≡ t → P (cond t (bytes 55 (chip_bytes c) ∷ []) [])
    go true e = f e
    go false e = g e

card-apart : (x : Settings) (batch : Batch) (c : Chip) (q : Request) (ys : List Item)
    → apart (plain_fields x batch c q ++ (bytes 55 (chip_bytes c) ∷ [])) ys ≡ true → apart (plain_fields x batch c q) ys ≡ true
    → apart (card_fields x batch c q) ys ≡ true
card-apart x batch c q ys a b = by_chip (λ zs. apart (plain_fields x batch c q ++ zs) ys ≡ true) c (λ e. a) (λ e. b)

module _ (x : Settings) (batch : Batch) (c : Chip) (q : Request) (h : CardHeld x c q) where
  plain-held : all_held (plain_fields x batch c q) ≡ true
  plain-held =
      rw (
        number-held 2 q.card.length q.card.number (card-taken q.card.length h.card_low h.card_high),
        processing_held (processing_of q.kind),
        amount-held q.amount,
        trace-held q.trace.0,
        entry-held (entry_mode c),
        condition_held (condition_of q.kind),
        terminal-held x.terminal h.terminal_length h.terminal_printable,
        merchant-held x.merchant h.merchant_length h.merchant_printable,
        currency-held (0x31 ∷ 0x35 ∷ 0x36 ∷ []) refl currency-printable,
        card-codes-held q.kind batch,
        mac_held,
      )

  card-held : all_held (card_fields x batch c q) ≡ true
  card-held =
      let b = chip_bytes c in
      by_chip (λ zs. all_held (plain_fields x batch c q ++ zs) ≡ true) c
      (λ e. held-append (plain_fields x batch c q) (bytes 55 b ∷ []) refl plain-held
      (rw (chip-held b (h.chip_form e), chip_elements b (h.chip_form e))))
      (λ e. plain-held)

-- the fields of an original, by what a kind holds of it
abbrev originals : Original → Bool → Bool → Bool → List Item
originals o a b c =
    cond a (bytes 37 o.reference ∷ bytes 38 o.authorisation ∷ digits 61 (field61 o) ∷ [])
    (cond b (bytes 37 o.reference ∷ digits 61 (field61 o) ∷ [])
    (cond c (bytes 38 o.authorisation ∷ digits 61 (field61 o) ∷ []) []))

originals_apart : (x : Settings) (batch : Batch) (c : Chip) (q : Request) (o : Original) (r s t : Bool)
    → apart (card_fields x batch c q) (originals o r s t) ≡ true
originals_apart x batch c q o true s t = card-apart x batch c q (originals o true s t) refl refl
originals_apart x batch c q o false true t = card-apart x batch c q (originals o false true t) refl refl
originals_apart x batch c q o false false true = card-apart x batch c q (originals o false false true) refl refl
originals_apart x batch c q o false false false = card-apart x batch c q (originals o false false false) refl refl

original-held : (kind : ℕ) (o : Original) → OriginalHeld kind o → all_held (original_fields kind o) ≡ true
original-held kind o h =
    go (takes_original kind) (keys_reference kind) (keys_authorisation kind) h.reference_printable h.authorisation_printable
  where
    reference : all_printable o.reference ≡ true → may_hold formats (bytes 37 o.reference) ≡ true
    reference p = reference-held o.reference h.reference_length p

    authorisation : all_printable o.authorisation ≡ true → may_hold formats (bytes 38 o.authorisation) ≡ true
    authorisation p = authorisation-held o.authorisation h.authorisation_length p

    go : (a b c : Bool) → ((a || b) ≡ true → all_printable o.reference ≡ true) → ((a || c) ≡ true → all_printable o.authorisation ≡ true)
        → all_held (originals o a b c) ≡ true
    go true b c r s = rw (reference (r refl), authorisation (s refl), field61-held o)
    go false true c r s = rw (reference (r refl), field61-held o)
    go false false true r s = rw (authorisation (s refl), field61-held o)
    go false false false r s = refl

module _ (x : Settings) (batch : Batch) (c : Chip) (q : Request) (o : Original) (h : CardHeld x c q) (g : OriginalHeld q.kind o) where
  pub request-held : all_held (request_fields x batch c q o) ≡ true
  request-held =
      held-append (card_fields x batch c q) (original_fields q.kind o)
      (originals_apart x batch c q o (takes_original q.kind) (keys_reference q.kind) (keys_authorisation q.kind))
      (card-held x batch c q h) (original-held q.kind o g)

  -- what `request_message` gives
  pub request-is : with_all (request_fields x batch c q o) (message_of (indicator_of q.kind) []) ≡ request_message x batch c q o
  unfolding request_message
  request-is = all_composed (indicator_of q.kind) (request_fields x batch c q o) request-held

module _ (x : Settings) (batch : Batch) (c : Chip) (v : Reversal) (h : CardHeld x c v.request) where
  pub reversal-held : all_held (reversal_fields x batch c v) ≡ true
  reversal-held =
      held-append (card_fields x batch c v.request) (bytes 39 (reason_code v.reason) ∷ [])
      (card-apart x batch c v.request (bytes 39 (reason_code v.reason) ∷ []) refl refl)
      (card-held x batch c v.request h)
      (rw (reason-held (reason_code v.reason) (reason-length v.reason) (reason-printable v.reason)))

  -- what `reversal_message` gives
  pub reversal-is : with_all (reversal_fields x batch c v) (message_of 0x0400 []) ≡ reversal_message x batch c v
  unfolding reversal_message
  reversal-is = all_composed 0x0400 (reversal_fields x batch c v) reversal-held

-- the types that leave are listed
pub request-listed : (kind : ℕ) → among (indicator_of kind) indicators ≡ true
unfolding indicators
request-listed kind = each_type (λ i. among i indicators ≡ true) refl refl refl kind

pub reversal-listed : among 0x0400 indicators ≡ true
unfolding indicators
reversal-listed = refl

-- a message of held fields and a listed type is written
pub written_is : (i : ℕ) (xs : List Item) (o : List ℕ) → among i indicators ≡ true → all_held xs ≡ true → largest ≤ length o
    → write_message (message_of i xs) o
    ≡ written (Ok (length (message_bytes (message_of i xs)))) (message_bytes (message_of i xs) ++ drop (length (message_bytes (message_of i xs))) o)
unfolding write_message
written_is i xs o l h r = rw (le-ltb (length o) largest r, sound i xs l h)
