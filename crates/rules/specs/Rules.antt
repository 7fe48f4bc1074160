-- Document 01, "Why a call is turned down", rules 1 and 2.
use Rattle.std.specs.Prelude.{List, [], ◌∷◌, ◌++◌, Bool, true, false, cond, not, ◌&&◌, ◌||◌, ℕ, ◌*◌, ltb, eqb, length, Some, None, Option}
use Rattle.numbers.specs.Numbers.{within}
use Rattle.message.specs.Message.{largest}
use Rattle.kinds.specs.Kinds.{takes_original}
use Rattle.entry.specs.Entry.{entry_size}
use Rattle.entry.specs.Form.{in_form, due_entry, keeps_voided, keeps_unmarked, keeps_resends, keeps_silent}
use Rattle.entry.specs.declared.Entry.{Entry}
use Rattle.journal.specs.Journal.{entries_of, entry_at, every, original_for, nowhere, is_at, next_due, totals_of, absent, distinct}
use Rattle.state.specs.declared.Request.{Request}
use Rattle.state.specs.declared.Awaited.{Awaited}
use Rattle.state.specs.declared.Awaited.TheVariants as awaited
use Rattle.state.specs.declared.Phase.{Phase}
use Rattle.state.specs.declared.Phase.TheVariants.{Resting, Waiting, Pending, Settling, Uploading}
use Rattle.state.specs.declared.Settings.{Settings}
use Rattle.state.specs.declared.State.{State}
use Rattle.checks.specs.Checks.{Rule, rule}
use Rattle.state.specs.State.{is_waiting}
use Rattle.state.specs.Calls.{Lent}
use Rattle.state_rules.specs.StateRules.{all_of, state_kept, past, sums_kept}

-- 1. The message buffer is below 614 bytes, or the journal below 48 times the entry limit.
unfoldable pub too_short : State → Lent → Bool
too_short s lent = ltb (length lent.message) largest || ltb (length lent.journal) (entry_size * s.settings.limit)

-- 2. Settings, state or journal break a rule: in three parts, each in the page's order.

-- Rule 2, the journal: by L, which entries are due, whether it is the upload, and the place of the awaited item.
abbrev pub journal_clauses : ℕ → (Entry → Bool) → Bool → Option ℕ → List Entry → List Bool
journal_clauses l due uploading item es =
    -- each value is in its range and form
    every (λ i e. in_form e) 0 es
    -- no two entries have one trace
    ∷ distinct es
    -- a voided mark stands on 20 or 22 only
    ∷ every (λ i e. keeps_voided e) 0 es
    -- the sums are not past rule 21
    ∷ sums_kept (totals_of es)
    -- outside the upload, and on an entry not due, mark and resends are 0
    ∷ every (λ i e. keeps_unmarked due uploading e) 0 es
    -- resends are at most L, and 0 at mark 0
    ∷ every (λ i e. keeps_resends l e) 0 es
    -- a mark 1 already resent L times is awaited
    ∷ every (λ i e. keeps_silent l (is_at item i) e) 0 es
    ∷ []

unfoldable pub journal_kept : ℕ → (Entry → Bool) → Bool → Option ℕ → List Entry → Bool
journal_kept l due uploading item es = all_of (journal_clauses l due uploading item es)

-- Rule 2, the phase.
-- the upload is the phase uploading or the wait for an item or the end
abbrev pub awaited_in_upload : Awaited → Bool
awaited_in_upload (awaited.Request q) = false
awaited_in_upload (awaited.Reversal v) = false
awaited_in_upload (awaited.Settlement x) = false
awaited_in_upload (awaited.Item i) = true
awaited_in_upload (awaited.End x) = true

abbrev pub in_upload : Phase → Bool
in_upload Resting = false
in_upload (Waiting a) = awaited_in_upload a
in_upload (Pending v) = false
in_upload Settling = false
in_upload Uploading = true

-- the entries that the upload sends: in every phase those whose kind is on the debit or credit side
abbrev pub due : Phase → Entry → Bool
due p = due_entry

-- the place of the awaited item
abbrev pub item_in : Awaited → Option ℕ
item_in (awaited.Request q) = None
item_in (awaited.Reversal v) = None
item_in (awaited.Settlement x) = None
item_in (awaited.Item i) = Some i
item_in (awaited.End x) = None

abbrev pub awaited_item : Phase → Option ℕ
awaited_item Resting = None
awaited_item (Waiting a) = item_in a
awaited_item (Pending v) = None
awaited_item Settling = None
awaited_item Uploading = None

-- the entry that a void is for is not voided yet
abbrev pub unvoided_at : Option ℕ → List Entry → Bool
unvoided_at (Some i) es = eqb (entry_at es i).voided 0
unvoided_at None es = false

unfoldable pub original_unvoided : ℕ → ℕ → List Entry → Bool
original_unvoided kind x es = cond (takes_original kind) (unvoided_at (original_for kind x es) es) true

-- for an awaited card request the journal has a place, a sum and an unvoided original left, and its trace does not stand in it
unfoldable pub request_kept : ℕ → ℕ → List Entry → Request → Bool
request_kept limit n es q =
    ltb n limit
    && not (past q.kind q.amount (totals_of es))
    && original_unvoided q.kind q.original.0 es
    && absent q.trace.0 es

-- an awaited item is the first due entry of mark 0 or, where no due one is 0, of mark 1; at an awaited end no due entry is 0
-- or 1; an awaited reversal has been sent, at most L times
abbrev pub awaited_kept : Settings → ℕ → List Entry → Awaited → Bool
awaited_kept x n es (awaited.Request q) = request_kept x.limit n es q
awaited_kept x n es (awaited.Reversal v) = within 1 v.sendings x.sendings
awaited_kept x n es (awaited.Settlement t) = true
awaited_kept x n es (awaited.Item i) = is_at (next_due (due (Waiting (awaited.Item i))) es) i
awaited_kept x n es (awaited.End t) = nowhere (next_due (due (Waiting (awaited.End t))) es)

-- a pending reversal has been sent fewer than L times
abbrev pub phase_kept : Settings → ℕ → List Entry → Phase → Bool
phase_kept x n es Resting = true
phase_kept x n es (Waiting a) = awaited_kept x n es a
phase_kept x n es (Pending v) = ltb v.sendings x.sendings
phase_kept x n es Settling = true
phase_kept x n es Uploading = true

-- Rule 2 is kept.
unfoldable pub keeps_rule2 : State → List Entry → Bool
keeps_rule2 s es =
    state_kept s (totals_of es)
    && journal_kept s.settings.sendings (due s.phase) (in_upload s.phase) (awaited_item s.phase) es
    && phase_kept s.settings s.entries es s.phase

-- rules 1 and 2, which every call on a terminal begins with
abbrev pub rules12 : State → Lent → List Rule
rules12 s lent = rule 1 (too_short s lent) ∷ rule 2 (not (keeps_rule2 s (entries_of s.entries lent.journal))) ∷ []

-- the same for a report on terminal and journal, which is lent no message buffer
abbrev pub report_rules : State → List ℕ → List Rule
report_rules s j =
    rule 1 (ltb (length j) (entry_size * s.settings.limit)) ∷ rule 2 (not (keeps_rule2 s (entries_of s.entries j))) ∷ []

-- and 10 and 11: signed on, and nothing awaited
abbrev pub idle_rules : State → Lent → List Rule
idle_rules s lent = rules12 s lent ++ (rule 10 (not s.signed_on) ∷ rule 11 (is_waiting s) ∷ [])
