-- The table of the commands: what each is called, and what its words must be.
use Rattle.std.specs.Prelude.{List, [], ◌∷◌, ◌++◌, true, false, ℕ, get_or}
use Rattle.texts.specs.Text.{text}
use Rattle.words.specs.Words.{word_at}
use Rattle.words.specs.Rows.{row, row_named}
use Rattle.grammar.specs.declared.Shape.{Shape}
use Rattle.grammar.specs.declared.Shape.TheVariants.{Number as Numeral, Card, CardOrNone, Text, TextOrNone, Chip, Field55, Field55OrNone, Date, Code, Bytes, Mac, Bad, Switch, Any, End}

-- a row for each command, and what its words must be; the last row is for all other lines
abbrev pub commands : List ℕ
commands =
    text "terminal word32 word8 amount text8 text15\n"
    ++ text "sign-on\n"
    ++ text "sale amount card chip? field55\n"
    ++ text "authorise amount card chip? field55\n"
    ++ text "sale-void word32\n"
    ++ text "complete-void word32\n"
    ++ text "authorise-void amount card text6 date\n"
    ++ text "complete amount card text6 date\n"
    ++ text "refund amount card text12 date\n"
    ++ text "start word8 amount card? word32 text12? text6? word8 word8 field55?\n"
    ++ text "answer bytes mac\n"
    ++ text "reply code answered? bad?\n"
    ++ text "reconcile digit\n"
    ++ text "date date\n"
    ++ text "centre-batch batch\n"
    ++ text "echo switch\n"
    ++ text "no-answer\n"
    ++ text "power\n"
    ++ text "card-agrees\n"
    ++ text "card-declines\n"
    ++ text "send-reversal\n"
    ++ text "settle\n"
    ++ text "upload\n"
    ++ text "counts\n"
    ++ text "totals\n"
    ++ text "state\n"
    ++ text "journal\n"
    ++ text "message\n"
    ++ text "fields\n"
    ++ text "unknown any any any any any any any any any any\n"

-- what words may be, by name; no word may stand where there is no name
abbrev pub shape_names : List ℕ
shape_names =
    text "word32\n"
    ++ text "word8\n"
    ++ text "digit\n"
    ++ text "batch\n"
    ++ text "amount\n"
    ++ text "card\n"
    ++ text "card?\n"
    ++ text "text6\n"
    ++ text "text8\n"
    ++ text "text12\n"
    ++ text "text15\n"
    ++ text "text6?\n"
    ++ text "text12?\n"
    ++ text "chip?\n"
    ++ text "field55\n"
    ++ text "field55?\n"
    ++ text "date\n"
    ++ text "code\n"
    ++ text "bytes\n"
    ++ text "mac\n"
    ++ text "answered?\n"
    ++ text "bad?\n"
    ++ text "switch\n"
    ++ text "any\n"

abbrev pub shapes : List Shape
shapes =
    Numeral 4294967295
    ∷ Numeral 255
    ∷ Numeral 9
    ∷ Numeral 999999
    ∷ Numeral 999999999999999999
    ∷ Card
    ∷ CardOrNone
    ∷ Text 6
    ∷ Text 8
    ∷ Text 12
    ∷ Text 15
    ∷ TextOrNone 6
    ∷ TextOrNone 12
    ∷ Chip
    ∷ Field55
    ∷ Field55OrNone
    ∷ Date
    ∷ Code
    ∷ Bytes
    ∷ Mac
    ∷ Bad true
    ∷ Bad false
    ∷ Switch
    ∷ Any
    ∷ End
    ∷ []

unfoldable pub shape_named : List ℕ → Shape
shape_named w = get_or shapes (row_named 24 w shape_names) End

-- what word i of a line must be, where the line has row k
unfoldable pub shape_at : ℕ → ℕ → Shape
shape_at k i = shape_named (word_at i (row k commands))
