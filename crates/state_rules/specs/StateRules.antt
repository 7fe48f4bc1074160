-- Document 01, "Why a call is turned down", rule 2 for settings and state, and the bound of rule 21.
use Rattle.std.specs.Prelude.{List, [], ◌∷◌, Bool, true, false, cond, not, ◌&&◌, ◌||◌, ℕ, ◌+◌, ◌^◌, leb, ltb, eqb, length}
use Rattle.digits.specs.Digits.{is_packed}
use Rattle.elements.specs.Elements.{chip_in_form}
use Rattle.numbers.specs.Limits.{largest_amount, largest_total, most_requests, most_entries, most_sendings}
use Rattle.numbers.specs.Numbers.{within, is_number, is_amount}
use Rattle.numbers.specs.declared.Trace.{Trace}
use Rattle.field.specs.Contents.{all_printable}
use Rattle.kinds.specs.Kinds.{is_kind, side_of, takes_original, is_never_reversed, sends_chip, allows_partial}
use Rattle.kinds.specs.declared.Side.{Side}
use Rattle.kinds.specs.declared.Side.TheVariants.{Debit, Credit, Neither}
use Rattle.kinds.specs.declared.Totals.{Totals}
use Rattle.state.specs.State.{chip_bytes, has_chip, approval_in, ended_in, waits}
use Rattle.state.specs.declared.Approval.{Approval}
use Rattle.state.specs.declared.Card.{Card}
use Rattle.state.specs.declared.Chip.{Chip}
use Rattle.state.specs.declared.Request.{Request}
use Rattle.state.specs.declared.Reversal.{Reversal}
use Rattle.state.specs.declared.Awaited.{Awaited}
use Rattle.state.specs.declared.Awaited.TheVariants as awaited
use Rattle.state.specs.declared.Phase.{Phase}
use Rattle.state.specs.declared.Phase.TheVariants.{Resting, Waiting, Pending, Settling, Uploading}
use Rattle.state.specs.declared.Settings.{Settings}
use Rattle.state.specs.declared.Counts.{Counts}
use Rattle.state.specs.declared.State.{State}

-- Rule 2, settings and state.
-- Entry limit 1 to 300; sendings L 1 to 9; largest refund 1 to 9,999,999,999 fen; fields 41 and 42 printable.
unfoldable pub settings_in_form : Settings → Bool
settings_in_form x =
    within 1 x.limit most_entries
    && within 1 x.sendings most_sendings
    && within 1 x.refund largest_amount
    && all_printable x.terminal
    && all_printable x.merchant

-- a card number of 13 to 19 digits
unfoldable pub is_card : Card → Bool
is_card c = within 13 c.length 19 && ltb c.number (10 ^ c.length)

-- a void has an original's trace, another kind none
unfoldable pub request_in_form : Request → Bool
request_in_form q =
    is_kind q.kind
    && is_amount q.amount
    && is_card q.card
    && is_number q.trace.0
    && cond (takes_original q.kind) (is_number q.original.0) (eqb q.original.0 0)

-- a refund is never reversed
unfoldable pub reversal_in_form : Reversal → Bool
reversal_in_form v = request_in_form v.request && not (is_never_reversed v.request.kind)

abbrev pub awaited_in_form : Awaited → Bool
awaited_in_form (awaited.Request q) = request_in_form q
awaited_in_form (awaited.Reversal v) = reversal_in_form v
awaited_in_form (awaited.Settlement x) = is_number x.0
awaited_in_form (awaited.Item i) = true
awaited_in_form (awaited.End x) = is_number x.0

abbrev pub phase_in_form : Phase → Bool
phase_in_form Resting = true
phase_in_form (Waiting a) = awaited_in_form a
phase_in_form (Pending v) = reversal_in_form v
phase_in_form Settling = true
phase_in_form Uploading = true

-- Document 02, request 1: a chip stands only with a request of a kind that sends it, and passes 23.
-- the kind of the request that is awaited or reversed, 0 where there is none
abbrev pub awaited_kind : Awaited → ℕ
awaited_kind (awaited.Request q) = q.kind
awaited_kind (awaited.Reversal v) = v.request.kind
awaited_kind (awaited.Settlement x) = 0
awaited_kind (awaited.Item i) = 0
awaited_kind (awaited.End x) = 0

abbrev pub kind_in : Phase → ℕ
kind_in Resting = 0
kind_in (Waiting a) = awaited_kind a
kind_in (Pending v) = v.request.kind
kind_in Settling = 0
kind_in Uploading = 0

-- the amount that the awaited request asks for, 0 where there is none
abbrev pub awaited_amount : Awaited → ℕ
awaited_amount (awaited.Request q) = q.amount
awaited_amount (awaited.Reversal v) = 0
awaited_amount (awaited.Settlement x) = 0
awaited_amount (awaited.Item i) = 0
awaited_amount (awaited.End x) = 0

abbrev pub amount_in : Phase → ℕ
amount_in Resting = 0
amount_in (Waiting a) = awaited_amount a
amount_in (Pending v) = 0
amount_in Settling = 0
amount_in Uploading = 0

-- a card request is awaited
abbrev pub awaits_request : Awaited → Bool
awaits_request (awaited.Request q) = true
awaits_request (awaited.Reversal v) = false
awaits_request (awaited.Settlement x) = false
awaits_request (awaited.Item i) = false
awaits_request (awaited.End x) = false

abbrev pub request_awaited : Phase → Bool
request_awaited Resting = false
request_awaited (Waiting a) = awaits_request a
request_awaited (Pending v) = false
request_awaited Settling = false
request_awaited Uploading = false

-- the date is four digits, fields 38 and 37 are printable
unfoldable pub approval_in_form : Approval → Bool
approval_in_form a =
    is_packed 4 a.date
    && (eqb (length a.authorisation) 6 && all_printable a.authorisation)
    && (eqb (length a.reference) 12 && all_printable a.reference)

-- document 02, request 4: a sale is approved for 1 to the amount asked, another kind for that amount
unfoldable pub answered_kept : Phase → ℕ → Bool
answered_kept p x = cond (allows_partial (kind_in p)) (within 1 x (amount_in p)) (eqb x (amount_in p))

-- where the card's word is awaited, the request is, and it has a chip
unfoldable pub consent_kept : Phase → Chip → Bool
consent_kept p c =
    not c.approved || request_awaited p && has_chip c && approval_in_form (approval_in c) && answered_kept p c.amount

unfoldable pub chip_kept : Phase → Chip → Bool
chip_kept p c = (not (has_chip c) || sends_chip (kind_in p) && chip_in_form (chip_bytes c)) && consent_kept p c

-- Document 02, request 3: a sign-on that is awaited has a trace, and the phase under it is no wait.
unfoldable pub sign_on_kept : Phase → Trace → Bool
sign_on_kept p x = eqb x.0 0 || is_number x.0 && not (waits p)

-- rule 18: at most 900,000 card requests leave in a batch; by the balance no other count is larger
unfoldable pub state_in_form : State → Bool
state_in_form s =
    is_number s.batch.0
    && is_number s.next.0
    && leb s.counts.sent most_requests
    && phase_in_form s.phase
    && chip_kept s.phase s.chip
    && sign_on_kept s.phase s.sign_on

-- Waiting is 1 for a card request until its decision or, with a reversal, until its end.
abbrev pub awaited_waiting : Awaited → ℕ
awaited_waiting (awaited.Request q) = 1
awaited_waiting (awaited.Reversal v) = 1
awaited_waiting (awaited.Settlement x) = 0
awaited_waiting (awaited.Item i) = 0
awaited_waiting (awaited.End x) = 0

abbrev pub waiting : Phase → ℕ
waiting Resting = 0
waiting (Waiting a) = awaited_waiting a
waiting (Pending v) = 1
waiting Settling = 0
waiting Uploading = 0

-- the sum in demand 3, and approved is the number of entries
unfoldable pub balanced : Counts → ℕ → ℕ → Bool
balanced c undecided n =
    eqb c.sent (ended_in c + undecided)
    && eqb c.approved n

-- Document 02, request 2: the stored sums are those of the journal, each number by itself.
unfoldable pub totals_true : Totals → Totals → Bool
totals_true stored found =
    eqb stored.debit found.debit
    && eqb stored.debits found.debits
    && eqb stored.credit found.credit
    && eqb stored.credits found.credits

abbrev pub all_of : List Bool → Bool
all_of [] = true
all_of (b ∷ bs) = b && all_of bs

-- by the totals of the journal
abbrev pub state_clauses : State → Totals → List Bool
state_clauses s t =
    -- each value is in its range and form
    settings_in_form s.settings
    ∷ state_in_form s
    -- no more entries than the limit
    ∷ leb s.entries s.settings.limit
    -- the counts balance
    ∷ balanced s.counts (waiting s.phase) s.entries
    -- the stored sums are the journal's
    ∷ totals_true s.totals t
    ∷ []

unfoldable pub state_kept : State → Totals → Bool
state_kept s t = all_of (state_clauses s t)

-- Sums past rule 21: the kind's debit or credit total would pass 999,999,999,999.
abbrev pub exceeds : ℕ → ℕ → Bool
exceeds total amount = ltb largest_total (total + amount)

abbrev pub past_on : Side → ℕ → Totals → Bool
past_on Debit amount t = exceeds t.debit amount
past_on Credit amount t = exceeds t.credit amount
past_on Neither amount t = false

unfoldable pub past : ℕ → ℕ → Totals → Bool
past kind amount t = past_on (side_of kind) amount t

unfoldable pub sums_kept : Totals → Bool
sums_kept t = leb t.debit largest_total && leb t.credit largest_total
