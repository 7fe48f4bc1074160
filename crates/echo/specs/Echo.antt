-- A line of a script as it is echoed, its card numbers masked.
use Rattle.std.specs.Prelude.{List, [], ◌∷◌, ◌++◌, Bool, true, false, cond, ◌&&◌, ℕ, ◌+◌, ◌-◌, leb, eqb, length, get_or, take, drop, replicate, Some, None, Option}
use Rattle.texts.specs.Text.{text, space, feed}
use Rattle.word_values.specs.Values.{number_in}

abbrev pub is_number : Option ℕ → Bool
is_number (Some x) = true
is_number None = false

-- a word is 13 to 19 digits
unfoldable pub is_card_number : List ℕ → Bool
is_card_number w = leb 13 (length w) && leb (length w) 19 && is_number (number_in 19 w)

-- of a card number the first six and the last four digits stand, and a * for each digit between
unfoldable pub masked : List ℕ → List ℕ
masked w = take 6 w ++ replicate (length w - 10) 0x2A ++ drop (length w - 4) w

unfoldable pub shown_word : List ℕ → List ℕ
shown_word w = cond (is_card_number w) (masked w) w

-- what is shown of a word that has begun with w, and of what follows; a word ends at a space or with the line
unfoldable pub shown_from : List ℕ → List ℕ → List ℕ
shown_from w [] = shown_word w
shown_from w (b ∷ s) = cond (eqb b 0x20) (shown_word w ++ space ++ shown_from [] s) (shown_from (w ++ (b ∷ [])) s)

-- a line, each card number in it masked
unfoldable pub shown_line : List ℕ → List ℕ
shown_line s = shown_from [] s

-- a word that began at `from`, and a space, where byte i of a line is the space that ends it; where the next word begins
unfoldable pub ended_word : List ℕ → ℕ → ℕ → List ℕ
ended_word s from i = cond (eqb (get_or s i 0) 0x20) (shown_word (take (i - from) (drop from s)) ++ space) []

unfoldable pub start_after : List ℕ → ℕ → ℕ → ℕ
start_after s from i = cond (eqb (get_or s i 0) 0x20) (i + 1) from

-- the line that is written
unfoldable pub echo_line : List ℕ → List ℕ
echo_line s = text "> " ++ shown_line s ++ feed
