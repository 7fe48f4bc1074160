-- Laws of the lines that a rehearsal writes.
use mathlib.Core.Path.{◌≡◌}
use mathlib.Core.Bool.{Bool, true, false}
use mathlib.Core.List.{List, [], ◌∷◌, ◌++◌}
use Prim.Native.Nat.{ℕ, ◌+◌}
use native.Mathlib.Numerals.{add-one}
use Rattle.words.specs.Bytes.{index_of, index_after}
use Rattle.hexadecimal.specs.Hexadecimal.{to_hex}
use Rattle.texts.specs.Decimal.{decimal}
use Rattle.texts.specs.Text.{text, space, feed, six_digits, Adds}
use Rattle.texts.proofs.Texts.{and_then}
use Rattle.words.specs.Rows.{first_row, other_rows, row}
use Rattle.templates.specs.Template.{meant, taken, filled}
use Rattle.templates.proofs.Templates.{parts}
use Rattle.entry.specs.declared.Entry.{Entry}
use Rattle.entry_text.specs.Values.{value_text}
use Rattle.entry_text.specs.Entries.{entry_line}
use Rattle.journal.specs.Journal.{entry_at}
use Rattle.kinds.specs.declared.Totals.{Totals}
use Rattle.state.specs.declared.Counts.{Counts}
use Rattle.screen.specs.Outcomes.{error_line}
use Rattle.screen.specs.Shows.{counted, counts_line, totals_line, first_state, entry_lines}

-- each line is its template, filled
pub sent-filled : (n : ℕ) (x : List ℕ) → filled (text "sent @ #\n") (n ∷ []) x ≡ text "sent " ++ to_hex x ++ space ++ decimal n ++ feed
unfolding filled meant taken
sent-filled n x = parts (text "sent ") (to_hex x ∷ space ∷ decimal n ∷ feed ∷ [])

pub refused-filled : (n : ℕ) (x : List ℕ) → filled (text "refused # $\n") (n ∷ []) x ≡ text "refused " ++ decimal n ++ space ++ x ++ feed
unfolding filled meant taken
refused-filled n x = parts (text "refused ") (decimal n ∷ space ∷ x ∷ feed ∷ [])

pub error_filled : (n : ℕ) (x : List ℕ) → filled (text "error line # $\n") (n ∷ []) x ≡ error_line n x
unfolding filled meant taken error_line
error_filled n x = parts (text "error line ") (decimal n ∷ space ∷ x ∷ feed ∷ [])

pub counts-filled : (c : Counts) (undecided : ℕ)
    → filled (text "counts sent # approved # declined # reversed # given-up # unanswered # waiting #\n") (counted c undecided) []
    ≡ counts_line c undecided
unfolding filled meant taken counts_line value_text row first_row other_rows index_of index_after
counts-filled c undecided =
    parts (text "counts")
    (value_text (text "sent") c.sent
    ∷ value_text (text "approved") c.approved
    ∷ value_text (text "declined") c.declined
    ∷ value_text (text "reversed") c.reversed
    ∷ value_text (text "given-up") c.given_up
    ∷ value_text (text "unanswered") c.unanswered
    ∷ value_text (text "waiting") undecided
    ∷ feed
    ∷ [])

pub totals-filled : (t : Totals)
    → filled (text "totals debit # # credit # #\n") (t.debit ∷ t.debits ∷ t.credit ∷ t.credits ∷ []) [] ≡ totals_line t
unfolding filled meant taken totals_line
totals-filled t =
    parts (text "totals debit ")
    (decimal t.debit ∷ space ∷ decimal t.debits ∷ text " credit " ∷ decimal t.credit ∷ space ∷ decimal t.credits ∷ feed ∷ [])

-- the template of a state
abbrev state_form : Bool → List ℕ
state_form true = text "state on batch % trace % phase $ entries #\n"
state_form false = text "state off batch % trace % phase $ entries #\n"

pub state-filled : (on : Bool) (batch trace entries : ℕ) (x : List ℕ)
    → filled (state_form on) (batch ∷ trace ∷ entries ∷ []) x
    ≡ first_state on batch trace ++ text " phase " ++ x ++ value_text (text "entries") entries ++ feed
unfolding filled meant taken first_state value_text
state-filled true batch trace entries x =
    parts (text "state on batch ")
    (six_digits batch ∷ text " trace " ∷ six_digits trace ∷ text " phase " ∷ x ∷ value_text (text "entries") entries ∷ feed ∷ [])
state-filled false batch trace entries x =
    parts (text "state off batch ")
    (six_digits batch ∷ text " trace " ∷ six_digits trace ∷ text " phase " ∷ x ∷ value_text (text "entries") entries ∷ feed ∷ [])

-- a line for one entry more
pub one_more : (es : List Entry) {o l l2 : List ℕ} {n r r2 : ℕ} (i : ℕ) → Adds (entry_lines i es) n o r l
    → Adds (entry_line (i + 1) (entry_at es i)) r l r2 l2 → Adds (entry_lines (i + 1) es) n o r2 l2
one_more es i a b = rw add-one (and_then a (rw add-one at b))
