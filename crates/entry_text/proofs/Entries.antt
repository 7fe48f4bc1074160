-- Laws of the line of an entry.
use mathlib.Core.Path.{◌≡◌, ap}
use mathlib.Core.List.{List, [], ◌∷◌, ◌++◌}
use Prim.Native.Nat.{ℕ}
use Rattle.words.specs.Bytes.{index_of, index_after}
use Rattle.texts.specs.Decimal.{decimal}
use Rattle.texts.specs.Text.{text, feed, six_digits}
use Rattle.words.specs.Rows.{first_row, other_rows, row}
use Rattle.templates.specs.Template.{meant, taken, filled}
use Rattle.templates.proofs.Templates.{parts}
use Rattle.entry.specs.declared.Entry.{Entry}
use Rattle.entry_text.specs.Values.{value_text}
use Rattle.entry_text.specs.Entries.{entry_marks}

-- the values that the template of an entry's first values takes
abbrev pub marked : ℕ → Entry → List ℕ
marked i e = i ∷ e.kind ∷ e.voided ∷ e.mark ∷ e.resends ∷ e.trace.0 ∷ e.amount ∷ []

pub marks-filled : (i : ℕ) (e : Entry)
    → filled (text "entry # kind # voided # mark # resends # trace % amount #") (marked i e) [] ≡ text "entry " ++ decimal i ++ entry_marks e
unfolding filled meant taken entry_marks value_text row first_row other_rows index_of index_after
marks-filled i e =
    ap (λ (marks : List ℕ). text "entry " ++ decimal i ++ marks)
    (parts (value_text (text "kind") e.kind)
    (value_text (text "voided") e.voided
    ∷ value_text (text "mark") e.mark
    ∷ value_text (text "resends") e.resends
    ∷ text " trace "
    ∷ six_digits e.trace.0
    ∷ value_text (text "amount") e.amount
    ∷ []))

-- printable contents
abbrev pub quoted : List ℕ → List ℕ
quoted x = text "\"" ++ x ++ text "\""

pub reference-filled : (x : List ℕ) → filled (text " reference \"$\"\n") [] x ≡ text " reference " ++ quoted x ++ feed
unfolding filled meant taken
reference-filled x = parts (text " reference \"") (x ∷ text "\"" ∷ feed ∷ [])
