-- What every value of the types satisfies: each number is within the size of its type, and each array has its length.
use Rattle.std.specs.Prelude.{◌≡◌, List, ℕ, ◌^◌, ◌<◌, length, get_or}
use Rattle.kinds.specs.declared.Totals.{Totals}
use Rattle.state.specs.declared.Request.{Request}
use Rattle.state.specs.declared.Reversal.{Reversal}
use Rattle.state.specs.declared.Awaited.{Awaited}
use Rattle.state.specs.declared.Awaited.TheVariants as awaited
use Rattle.state.specs.declared.Phase.{Phase}
use Rattle.state.specs.declared.Phase.TheVariants.{Resting, Waiting, Pending, Settling, Uploading}
use Rattle.state.specs.declared.Settings.{Settings}
use Rattle.state.specs.declared.Counts.{Counts}
use Rattle.state.specs.declared.Chip.{Chip}
use Rattle.state.specs.declared.State.{State}

-- each is a byte; past its end a list reads as zeros
abbrev pub Bytes : List ℕ → Type 0
Bytes b = (i : ℕ) → get_or b i 0 < 256

pub record SizedSettings (x : Settings) : Type 0 where
  pub limit : x.limit < 2 ^ 32
  pub sendings : x.sendings < 2 ^ 8
  pub refund : x.refund < 2 ^ 64
  pub terminal : length x.terminal ≡ 8
  pub terminal_bytes : Bytes x.terminal
  pub merchant : length x.merchant ≡ 15
  pub merchant_bytes : Bytes x.merchant

pub record SizedCounts (c : Counts) : Type 0 where
  pub sent : c.sent < 2 ^ 32
  pub approved : c.approved < 2 ^ 32
  pub declined : c.declined < 2 ^ 32
  pub reversed : c.reversed < 2 ^ 32
  pub given_up : c.given_up < 2 ^ 32
  pub unanswered : c.unanswered < 2 ^ 32

pub record SizedTotals (t : Totals) : Type 0 where
  pub debit : t.debit < 2 ^ 64
  pub debits : t.debits < 2 ^ 16
  pub credit : t.credit < 2 ^ 64
  pub credits : t.credits < 2 ^ 16

pub record SizedChip (c : Chip) : Type 0 where
  pub count : c.length < 2 ^ 8
  pub amount : c.amount < 2 ^ 64
  pub field : length c.bytes ≡ 255
  pub field_bytes : Bytes c.bytes
  pub date : length c.date ≡ 2
  pub date_bytes : Bytes c.date
  pub authorisation : length c.authorisation ≡ 6
  pub authorisation_bytes : Bytes c.authorisation
  pub reference : length c.reference ≡ 12
  pub reference_bytes : Bytes c.reference

pub record SizedRequest (q : Request) : Type 0 where
  pub kind : q.kind < 2 ^ 8
  pub amount : q.amount < 2 ^ 64
  pub number : q.card.number < 2 ^ 64
  pub digits : q.card.length < 2 ^ 8
  pub trace : q.trace.0 < 2 ^ 32
  pub original : q.original.0 < 2 ^ 32

pub record SizedReversal (v : Reversal) : Type 0 where
  pub request : SizedRequest v.request
  pub sendings : v.sendings < 2 ^ 8

abbrev pub SizedAwaited : Awaited → Type 0
SizedAwaited (awaited.Request q) = SizedRequest q
SizedAwaited (awaited.Reversal v) = SizedReversal v
SizedAwaited (awaited.Settlement t) = t.0 < 2 ^ 32
SizedAwaited (awaited.Item i) = i < 2 ^ 16
SizedAwaited (awaited.End t) = t.0 < 2 ^ 32

abbrev pub SizedPhase : Phase → Type 0
SizedPhase Resting = Unit {0}
SizedPhase (Waiting a) = SizedAwaited a
SizedPhase (Pending v) = SizedReversal v
SizedPhase Settling = Unit {0}
SizedPhase Uploading = Unit {0}

pub record Sized (s : State) : Type 0 where
  pub settings : SizedSettings s.settings
  pub sign_on : s.sign_on.0 < 2 ^ 32
  pub batch : s.batch.0 < 2 ^ 32
  pub next : s.next.0 < 2 ^ 32
  pub entries : s.entries < 2 ^ 16
  pub counts : SizedCounts s.counts
  pub totals : SizedTotals s.totals
  pub chip : SizedChip s.chip
  pub phase : SizedPhase s.phase
