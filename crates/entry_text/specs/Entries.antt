-- An entry of a journal as a line of text.
use Rattle.std.specs.Prelude.{List, [], ◌∷◌, ◌++◌, true, false, ℕ}
use Rattle.field.specs.declared.Class.TheVariants.{Digits, Printable}
use Rattle.dump.specs.Shown.{contents_text}
use Rattle.texts.specs.Decimal.{decimal}
use Rattle.texts.specs.Text.{text, feed, six_digits}
use Rattle.entry.specs.declared.Entry.{Entry}
use Rattle.entry_text.specs.Values.{value_text, values_text}

-- entry 1 kind 22 voided 1 mark 0 resends 0 trace 000001 amount 12000 card 622202******0123 date 1115
-- authorisation "000001" reference "000000000001", on one line
abbrev pub mark_names : List ℕ
mark_names = text "kind\nvoided\nmark\nresends\n"

unfoldable pub entry_marks : Entry → List ℕ
entry_marks e =
    values_text mark_names (e.kind ∷ e.voided ∷ e.mark ∷ e.resends ∷ []) 4
    ++ text " trace " ++ six_digits e.trace.0
    ++ value_text (text "amount") e.amount

unfoldable pub entry_approval : Entry → List ℕ
entry_approval e =
    text " card " ++ contents_text Digits true e.digits e.card
    ++ text " date " ++ contents_text Digits false 4 e.date
    ++ text " authorisation " ++ contents_text Printable false 6 e.authorisation
    ++ text " reference " ++ contents_text Printable false 12 e.reference

unfoldable pub entry_line : ℕ → Entry → List ℕ
entry_line i e = text "entry " ++ decimal i ++ entry_marks e ++ entry_approval e ++ feed
