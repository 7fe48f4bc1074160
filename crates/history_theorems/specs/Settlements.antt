-- Settle and sign on, from the history: the message that each sends, field by field.
use Rattle.std.specs.Prelude.{◌≡◌, List, ℕ}
use Rattle.reading.specs.Reading.{read_message}
use Rattle.outgoing_theorems.specs.Theorems.{Reads}
use Rattle.state.specs.declared.Settings.{Settings}
use Rattle.call_definitions.specs.Events.{sign_on_event, settles}
use Rattle.call_definitions.specs.Shapes.{SettingsShaped}
use Rattle.history.specs.Words.{message_in}
use Rattle.history.specs.History.{sent, batch_of}
use Rattle.history.specs.Demand.{Invocation, runs, begun, InvocationsShaped, Each}
use Rattle.history_theorems.specs.Standing.{trace_in, standing}
use Rattle.history_theorems.specs.Fields.{settlement_items, sign_on_items}

-- in every list of calls from a fresh terminal of any settings
abbrev pub SettlementsRead : Type 0
SettlementsRead = (x : Settings) (j : List ℕ) (ts : List Invocation) → SettingsShaped x → InvocationsShaped ts
    → Each
    (λ c h. (b : List ℕ) → c.event ≡ settles → c.given ≡ sent b
    → Reads 0x0500 (settlement_items x (standing h).batch (trace_in (message_in b)) (batch_of x.sendings h)) (read_message b))
    (runs ts (begun x j)).history

abbrev pub SignOnsRead : Type 0
SignOnsRead = (x : Settings) (j : List ℕ) (ts : List Invocation) → SettingsShaped x → InvocationsShaped ts
    → Each
    (λ c h. (b : List ℕ) → c.event ≡ sign_on_event → c.given ≡ sent b
    → Reads 0x0800 (sign_on_items x (standing h).batch (trace_in (message_in b))) (read_message b))
    (runs ts (begun x j)).history
