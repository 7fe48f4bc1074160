-- What is proved of the echo of a line.
use Rattle.std.specs.Prelude.{◌≡◌, List, ◌++◌, true, false, ℕ, length, get_or}
use Rattle.digits.specs.Lists.{tabulate}
use Rattle.digits.specs.Digits.{pack}
use Rattle.masking.specs.Masking.{digits_text}
use Rattle.texts.specs.Text.{text, space, feed}
use Rattle.word_values.specs.Values.{digit_of}
use Rattle.echo.specs.Echo.{is_card_number, masked, shown_line, echo_line}

-- a line is echoed as it is where no card number stands between spaces in it, or at its front or its end
abbrev pub PlainLineStays : Type 0
PlainLineStays = (s : List ℕ) → ((a w b : List ℕ) → space ++ s ++ space ≡ a ++ (space ++ w ++ space) ++ b → is_card_number w ≡ false)
    → echo_line s ≡ text "> " ++ s ++ feed

-- the words on both sides of a space are shown each by itself
abbrev pub WordsApart : Type 0
WordsApart = (a b : List ℕ) → shown_line (a ++ space ++ b) ≡ shown_line a ++ space ++ shown_line b

-- a card number is masked as in a message or a journal, where its digits are packed
abbrev pub MaskedAlike : Type 0
MaskedAlike = (w : List ℕ) → is_card_number w ≡ true
    → masked w ≡ digits_text true (length w) (pack (tabulate (length w) (λ i. digit_of (get_or w i 0))))
