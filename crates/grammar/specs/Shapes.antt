-- What is wrong with the words of a line.
use Rattle.std.specs.Prelude.{List, [], ◌∷◌, Bool, true, false, cond, not, ◌&&◌, ◌||◌, ℕ, zero, suc, ◌+◌, ◌-◌, ◌/◌, leb, eqb, length, is_some, Result, Ok, Err}
use Rattle.field.specs.Contents.{all_printable}
use Rattle.hexadecimal.specs.Hexadecimal.{is_hex}
use Rattle.texts.specs.Text.{text}
use Rattle.digits.specs.Lists.{same_bytes}
use Rattle.words.specs.Words.{word_at}
use Rattle.word_values.specs.Values.{number_in, number_up_to, is_text, is_good}
use Rattle.grammar.specs.declared.Shape.{Shape}
use Rattle.grammar.specs.declared.Shape.TheVariants.{Number as Numeral, Card, CardOrNone, Text, TextOrNone, Chip, Field55, Field55OrNone, Date, Code, Bytes, Mac, Bad, Switch, Any, End}
use Rattle.grammar.specs.declared.Fault.{Fault}
use Rattle.grammar.specs.declared.Fault.TheVariants as fault
use Rattle.grammar.specs.Table.{shape_at}

abbrev pub is_empty : List ℕ → Bool
is_empty w = eqb (length w) 0

-- - for an empty card or text
unfoldable pub is_dash : List ℕ → Bool
is_dash w = same_bytes w (0x2D ∷ [])

-- a MAC is bad
unfoldable pub is_bad : List ℕ → Bool
is_bad w = same_bytes w (text "bad")

-- hexadecimal of at most 2,048 bytes
unfoldable pub is_bytes : List ℕ → Bool
is_bytes w = is_hex w && leb (length w / 2) 2048

-- a chip's field 55: - for an empty one, else hexadecimal of at most 300 bytes
unfoldable pub is_field55 : List ℕ → Bool
is_field55 w = is_dash w || not (is_empty w) && leb (length w / 2) 300 && is_bytes w

-- a word is what it must be: a number up to some, a card of up to 19 digits, a text of n bytes, a date MMDD, a code of two
-- printable characters, bad or no word or also an amount of up to twelve digits
abbrev pub fits : Shape → List ℕ → Bool
fits (Numeral most) w = is_some (number_up_to most w)
fits Card w = is_some (number_in 19 w)
fits CardOrNone w = is_dash w || is_some (number_in 19 w)
fits (Text n) w = is_text n w
fits (TextOrNone n) w = is_dash w || is_text n w
fits Chip w = is_empty w || same_bytes w (text "chip")
fits Field55 w = is_field55 w
fits Field55OrNone w = same_bytes w (text "none") || is_field55 w
fits Date w = eqb (length w) 4 && is_some (number_in 4 w)
fits Code w = eqb (length w) 2 && all_printable w
fits Bytes w = not (is_empty w) && is_bytes w
fits Mac w = is_good w || is_bad w
fits (Bad amount) w = is_empty w || is_bad w || amount && is_some (number_up_to 999999999999 w)
fits Switch w = same_bytes w (text "on") || same_bytes w (text "off")
fits Any w = true
fits End w = is_empty w

-- no word may stand here
abbrev pub is_end : Shape → Bool
is_end (Numeral most) = false
is_end Card = false
is_end CardOrNone = false
is_end (Text n) = false
is_end (TextOrNone n) = false
is_end Chip = false
is_end Field55 = false
is_end Field55OrNone = false
is_end Date = false
is_end Code = false
is_end Bytes = false
is_end Mac = false
is_end (Bad amount) = false
is_end Switch = false
is_end Any = false
is_end End = true

-- word k, the first being 0, is fine, or missing, or one too many, or not what it must be; it may be missing where the word before it is
unfoldable pub judged : Shape → ℕ → List ℕ → List ℕ → Result (Unit {0}) Fault
judged x k before w =
    cond (is_empty before || fits x w) (Ok tt)
    (cond (is_empty w || is_end x) (Err fault.Count) (Err (fault.Word (k + 1))))

abbrev pub or_else : Result (Unit {0}) Fault → Result (Unit {0}) Fault → Result (Unit {0}) Fault
or_else (Ok _) next = next
or_else (Err f) next = Err f

-- the first fault of n words of a line s from word i on, where the line has row k
abbrev pub fault_from : ℕ → ℕ → ℕ → List ℕ → Result (Unit {0}) Fault
fault_from i zero k s = Ok tt
fault_from i (suc n) k s = or_else (judged (shape_at k i) i (word_at (i - 1) s) (word_at i s)) (fault_from (suc i) n k s)

-- no line has more than nine words after the first, so that word 10 must be missing
unfoldable pub line_fault : ℕ → List ℕ → Result (Unit {0}) Fault
line_fault k s = fault_from 1 10 k s
