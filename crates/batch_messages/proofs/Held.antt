-- What leaves: the fields of a sign-on, of a settlement, of an upload item and of the upload's end are held.
use mathlib.Core.Bool.{true}
use mathlib.Core.List.{[], ◌∷◌}
use mathlib.Core.Path.{◌≡◌, refl}
use Prim.Native.Nat.{ℕ, ◌≤◌}
use lib.ListN.{length}
use Rattle.batch_messages.specs.BatchMessages.{field48, settlement_fields, item_fields, management_fields, end_fields, sign_on_fields}
use Rattle.compose.proofs.Items.{number-held}
use Rattle.compose.proofs.Laid.{laid-held}
use Rattle.compose.specs.Compose.{may_hold, all_held}
use Rattle.digits.specs.Digits.{all_digits}
use Rattle.digits.specs.Packed.{packed_number}
use Rattle.entry.specs.declared.Entry.{Entry}
use Rattle.field.specs.Contents.{allowed, all_printable}
use Rattle.field.specs.Table.{among, indicators, formats}
use Rattle.kinds.specs.Kinds.{processing_of}
use Rattle.kinds.specs.declared.Totals.{Totals}
use Rattle.message.specs.Build.{digits}
use Rattle.numbers.specs.declared.Batch.{Batch}
use Rattle.numbers.specs.declared.Trace.{Trace}
use Rattle.outgoing.proofs.Fields.{trace-held, terminal-held, merchant-held, currency-held, currency-printable, field60-held, card-taken, processing_held, amount-held, reference-held, authorisation-held}
use Rattle.outgoing.specs.Held.{SettingsHeld}
use Rattle.parts.proofs.Laid.{laid-digits}
use Rattle.parts.specs.Layout.{widths}
use Rattle.state.specs.declared.Settings.{Settings}

-- the digits of field 48
pub field48-digits : (t : Totals) → all_digits (field48 t) ≡ true
field48-digits t = laid-digits (widths 48) (t.debit ∷ t.debits ∷ t.credit ∷ t.credits ∷ [])

field48-held : (t : Totals) → may_hold formats (digits 48 (field48 t)) ≡ true
unfolding formats allowed
field48-held t = laid-held 48 (t.debit ∷ t.debits ∷ t.credit ∷ t.credits ∷ []) refl

module _ (x : Settings) (batch : Batch) (h : SettingsHeld x) where
  pub settlement_held : (trace : Trace) (t : Totals) → all_held (settlement_fields x batch trace t) ≡ true
  settlement_held trace t =
      rw (
        trace-held trace.0,
        terminal-held x.terminal h.terminal_length h.terminal_printable,
        merchant-held x.merchant h.merchant_length h.merchant_printable,
        field48-held t,
        currency-held (0x31 ∷ 0x35 ∷ 0x36 ∷ []) refl currency-printable,
        field60-held 0 batch 201,
      )

-- its type is listed
pub settlement_listed : among 0x0500 indicators ≡ true
unfolding indicators
settlement_listed = refl

-- fields 2, 37 and 38 are those of an entry in form
pub record EntryHeld (e : Entry) : Type 0 where
  pub card_low : 13 ≤ e.digits
  pub card_high : e.digits ≤ 19
  pub reference_length : length e.reference ≡ 12
  pub reference_printable : all_printable e.reference ≡ true
  pub authorisation_length : length e.authorisation ≡ 6
  pub authorisation_printable : all_printable e.authorisation ≡ true

module _ (x : Settings) (batch : Batch) (h : SettingsHeld x) where
  pub item-held : (e : Entry) → EntryHeld e → all_held (item_fields x batch e) ≡ true
  item-held e g =
      rw (
        number-held 2 e.digits (packed_number e.digits e.card) (card-taken e.digits g.card_low g.card_high),
        processing_held (processing_of e.kind),
        amount-held e.amount,
        trace-held e.trace.0,
        reference-held e.reference g.reference_length g.reference_printable,
        authorisation-held e.authorisation g.authorisation_length g.authorisation_printable,
        terminal-held x.terminal h.terminal_length h.terminal_printable,
        merchant-held x.merchant h.merchant_length h.merchant_printable,
        currency-held (0x31 ∷ 0x35 ∷ 0x36 ∷ []) refl currency-printable,
        field60-held e.kind batch 201,
      )

  management_held : (code : ℕ) (trace : Trace) → all_held (management_fields code x batch trace) ≡ true
  management_held code trace =
      rw (
        trace-held trace.0,
        terminal-held x.terminal h.terminal_length h.terminal_printable,
        merchant-held x.merchant h.merchant_length h.merchant_printable,
        field60-held 0 batch code,
      )

  pub end_held : (trace : Trace) → all_held (end_fields x batch trace) ≡ true
  end_held = management_held 202

  pub sign_on-held : (trace : Trace) → all_held (sign_on_fields x batch trace) ≡ true
  sign_on-held = management_held 3

-- the type of a sign-on is listed
pub sign_on-listed : among 0x0800 indicators ≡ true
unfolding indicators
sign_on-listed = refl

-- their type is listed
pub upload-listed : among 0x0320 indicators ≡ true
unfolding indicators
upload-listed = refl
