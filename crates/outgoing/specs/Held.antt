-- What the fields of a leaving message are held by: settings, card, chip and original in form.
use Rattle.std.specs.Prelude.{◌≡◌, true, ℕ, ◌≤◌, length}
use Rattle.field.specs.Contents.{all_printable}
use Rattle.kinds.specs.Kinds.{sends_reference, sends_authorisation}
use Rattle.elements.specs.Elements.{chip_in_form}
use Rattle.state.specs.State.{chip_bytes, has_chip}
use Rattle.state.specs.declared.Chip.{Chip}
use Rattle.state.specs.declared.Request.{Request}
use Rattle.state.specs.declared.Settings.{Settings}
use Rattle.outgoing.specs.declared.Original.{Original}

-- fields 41 and 42
pub record SettingsHeld (x : Settings) : Type 0 where
  pub terminal_length : length x.terminal ≡ 8
  pub merchant_length : length x.merchant ≡ 15
  pub terminal_printable : all_printable x.terminal ≡ true
  pub merchant_printable : all_printable x.merchant ≡ true

-- fields 2, 41, 42 and 55 of a card request
pub record CardHeld (x : Settings) (c : Chip) (q : Request) : Type 0 where
  pub card_low : 13 ≤ q.card.length
  pub card_high : q.card.length ≤ 19
  pub terminal_length : length x.terminal ≡ 8
  pub merchant_length : length x.merchant ≡ 15
  pub terminal_printable : all_printable x.terminal ≡ true
  pub merchant_printable : all_printable x.merchant ≡ true
  pub chip_form : has_chip c ≡ true → chip_in_form (chip_bytes c) ≡ true

-- fields 37 and 38, where a request of this kind holds them
pub record OriginalHeld (kind : ℕ) (o : Original) : Type 0 where
  pub reference_length : length o.reference ≡ 12
  pub authorisation_length : length o.authorisation ≡ 6
  pub reference_printable : sends_reference kind ≡ true → all_printable o.reference ≡ true
  pub authorisation_printable : sends_authorisation kind ≡ true → all_printable o.authorisation ≡ true
