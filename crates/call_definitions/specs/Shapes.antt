-- What every value handed in satisfies: its arrays have their lengths.
use Rattle.std.specs.Prelude.{◌≡◌, length}
use Rattle.state.specs.declared.Settings.{Settings}
use Rattle.call_definitions.specs.Events.{Event, sign_on_event, starts, answers, no_answer_event, power_returned_event, card_agrees_event, card_declines_event, send_reversal_event, settles, send_next_upload_event}

pub record SettingsShaped (x : Settings) : Type 0 where
  pub terminal_length : length x.terminal ≡ 8
  pub merchant_length : length x.merchant ≡ 15

abbrev pub EventShaped : Event → Type 0
EventShaped sign_on_event = Unit {0}
EventShaped (starts d b) = (length d.authorisation ≡ 6) × (length d.reference ≡ 12)
EventShaped (answers b good) = Unit {0}
EventShaped no_answer_event = Unit {0}
EventShaped power_returned_event = Unit {0}
EventShaped card_agrees_event = Unit {0}
EventShaped card_declines_event = Unit {0}
EventShaped send_reversal_event = Unit {0}
EventShaped settles = Unit {0}
EventShaped send_next_upload_event = Unit {0}
