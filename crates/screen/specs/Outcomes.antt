-- What a call writes, and what an error of a line writes.
use Rattle.std.specs.Prelude.{List, ◌++◌, ℕ, take}
use Rattle.hexadecimal.specs.Hexadecimal.{to_hex}
use Rattle.texts.specs.Decimal.{decimal}
use Rattle.texts.specs.Text.{text, space, feed}
use Rattle.words.specs.Rows.{row}
use Rattle.state.specs.declared.Outcome.{Outcome}
use Rattle.state.specs.declared.Outcome.TheVariants.{Send, Quiet, Refused}

-- document 01, "Why a call is turned down", and document 02, in short: row k is number k, and 0 is none
abbrev pub reasons : List ℕ
reasons =
    text "\n"
    ++ text "message buffer or journal too small\n"
    ++ text "settings, state or journal out of form\n"
    ++ text "the message ends too early\n"
    ++ text "the message type is not listed\n"
    ++ text "the message names a field not listed\n"
    ++ text "a digit is out of form\n"
    ++ text "a length is not allowed\n"
    ++ text "a character is not printable\n"
    ++ text "bytes follow the last field\n"
    ++ text "signed off\n"
    ++ text "something is awaited\n"
    ++ text "a reversal is pending\n"
    ++ text "the batch is settling or uploading\n"
    ++ text "nothing of that kind is awaited, pending or uploading\n"
    ++ text "the amount is out of range\n"
    ++ text "kind, card, date, text or batch out of form\n"
    ++ text "the refund is above its setting\n"
    ++ text "the journal or the batch is full\n"
    ++ text "no such entry\n"
    ++ text "the entry is voided already\n"
    ++ text "the total would be too large\n"
    ++ text "the answer does not match\n"
    ++ text "field 55 is out of form\n"
    ++ text "the length of field 62 is not allowed\n"

unfoldable pub reason : ℕ → List ℕ
reason n = row n reasons

-- type and length; nothing; the number and a short reason
abbrev pub outcome_line : Outcome → List ℕ → List ℕ
outcome_line (Send n) m = text "sent " ++ to_hex (take 2 m) ++ space ++ decimal n ++ feed
outcome_line Quiet m = text "quiet\n"
outcome_line (Refused n) m = text "refused " ++ decimal n ++ space ++ reason n ++ feed

-- error line N REASON
unfoldable pub error_line : ℕ → List ℕ → List ℕ
error_line number why = text "error line " ++ decimal number ++ space ++ why ++ feed
