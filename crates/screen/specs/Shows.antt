-- What is shown of a terminal: its counts, totals, state, journal and last message.
use Rattle.std.specs.Prelude.{List, [], ◌∷◌, ◌++◌, Bool, true, false, cond, ℕ, zero, suc, eqb, length}
use Rattle.hexadecimal.specs.Hexadecimal.{to_hex}
use Rattle.texts.specs.Decimal.{decimal}
use Rattle.texts.specs.Text.{text, space, feed, six_digits}
use Rattle.words.specs.Rows.{row}
use Rattle.entry.specs.declared.Entry.{Entry}
use Rattle.entry_text.specs.Values.{value_text, values_text}
use Rattle.entry_text.specs.Entries.{entry_line}
use Rattle.journal.specs.Journal.{entry_at}
use Rattle.kinds.specs.declared.Totals.{Totals}
use Rattle.state.specs.declared.Awaited.{Awaited}
use Rattle.state.specs.declared.Awaited.TheVariants as awaited
use Rattle.state.specs.declared.Counts.{Counts}
use Rattle.state.specs.declared.Phase.{Phase}
use Rattle.state.specs.declared.Phase.TheVariants.{Resting, Waiting, Pending, Settling, Uploading}
use Rattle.state.specs.declared.State.{State}
use Rattle.state.specs.State.{signs_on}

-- counts sent 3 approved 2 declined 0 reversed 1 given-up 0 unanswered 0 waiting 0
abbrev pub count_names : List ℕ
count_names = text "sent\napproved\ndeclined\nreversed\ngiven-up\nunanswered\nwaiting\n"

abbrev pub counted : Counts → ℕ → List ℕ
counted c undecided =
    c.sent ∷ c.approved ∷ c.declined ∷ c.reversed ∷ c.given_up ∷ c.unanswered ∷ undecided ∷ []

unfoldable pub counts_line : Counts → ℕ → List ℕ
counts_line c undecided = text "counts" ++ values_text count_names (counted c undecided) 7 ++ feed

-- totals debit 12000 1 credit 12000 1
unfoldable pub totals_line : Totals → List ℕ
totals_line t =
    text "totals debit " ++ decimal t.debit ++ space ++ decimal t.debits
    ++ text " credit " ++ decimal t.credit ++ space ++ decimal t.credits
    ++ feed

-- the phases by number
abbrev pub phase_names : List ℕ
phase_names =
    text "resting\n"
    ++ text "waiting-card\n"
    ++ text "waiting-reversal\n"
    ++ text "waiting-settlement\n"
    ++ text "waiting-item\n"
    ++ text "waiting-end\n"
    ++ text "reversal-pending\n"
    ++ text "settling\n"
    ++ text "uploading\n"
    ++ text "waiting-consent\n"
    ++ text "waiting-sign-on\n"

abbrev pub awaited_number : Awaited → ℕ
awaited_number (awaited.Request q) = 1
awaited_number (awaited.Reversal v) = 2
awaited_number (awaited.Settlement x) = 3
awaited_number (awaited.Item i) = 4
awaited_number (awaited.End x) = 5

abbrev pub phase_number : Phase → ℕ
phase_number Resting = 0
phase_number (Waiting a) = awaited_number a
phase_number (Pending v) = 6
phase_number Settling = 7
phase_number Uploading = 8

-- document 02, request 3: the answer to a sign-on may be awaited, whatever the phase; request 1: after a chip's approval the card's word is awaited
unfoldable pub state_number : State → ℕ
state_number s = cond (signs_on s) 10 (cond s.chip.approved 9 (phase_number s.phase))

unfoldable pub phase_name : State → List ℕ
phase_name s = row (state_number s) phase_names

abbrev pub on_or_off : Bool → List ℕ
on_or_off true = text "on"
on_or_off false = text "off"

-- state on batch 000001 trace 000004 phase resting entries 2
unfoldable pub first_state : Bool → ℕ → ℕ → List ℕ
first_state on batch trace =
    text "state " ++ on_or_off on
    ++ text " batch " ++ six_digits batch
    ++ text " trace " ++ six_digits trace

unfoldable pub state_line : State → List ℕ
state_line s =
    first_state s.signed_on s.batch.0 s.next.0
    ++ text " phase " ++ phase_name s
    ++ value_text (text "entries") s.entries
    ++ feed

-- a line for each of the first k entries
abbrev pub entry_lines : ℕ → List Entry → List ℕ
entry_lines zero es = []
entry_lines (suc k) es = entry_lines k es ++ entry_line (suc k) (entry_at es k)

unfoldable pub journal_text : ℕ → List Entry → List ℕ
journal_text n es = cond (eqb n 0) (text "journal empty\n") (entry_lines n es)

-- the bytes of the last message that left, whole
unfoldable pub message_line : List ℕ → List ℕ
message_line b = cond (eqb (length b) 0) (text "message none\n") (text "message " ++ to_hex b ++ feed)
