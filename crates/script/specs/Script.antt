-- A line of a script as a command, with settings and desk data beside it.
use Rattle.std.specs.Prelude.{List, [], Bool, false, cond, not, ◌&&◌, ℕ, ◌/◌, ◌%◌, length, get_or, replicate, unwrap_or, Some, None, Option, Ok, Err, Result}
use Rattle.digits.specs.Packed.{numeral}
use Rattle.digits.specs.Lists.{same_bytes}
use Rattle.texts.specs.Text.{text}
use Rattle.state.specs.declared.Card.{Card}
use Rattle.state.specs.declared.Settings.{Settings}
use Rattle.desk.specs.declared.Desk.{Desk}
use Rattle.calls.specs.declared.Call.TheVariants as call
use Rattle.words.specs.Words.{word_at}
use Rattle.word_values.specs.Values.{number_in, number_up_to, is_text, text_in, is_good}
use Rattle.script.specs.declared.Name.{Name}
use Rattle.script.specs.declared.Name.TheVariants as name
use Rattle.grammar.specs.declared.Fault.{Fault}
use Rattle.grammar.specs.declared.Fault.TheVariants as fault
use Rattle.grammar.specs.Table.{commands}
use Rattle.grammar.specs.Shapes.{is_empty, is_bad, line_fault}
use Rattle.script.specs.declared.Command.{Command}
use Rattle.script.specs.declared.Command.TheVariants as command
use Rattle.script.specs.declared.Line.{Line}
use Rattle.words.specs.Rows.{row_named}
use Rattle.script.specs.Names.{names}

-- numbers of 8, 32 and 64 bits, and a date MMDD; 0 where a word is none
unfoldable pub number8 : List ℕ → ℕ
number8 w = numeral (number_up_to 255 w)

unfoldable pub number32 : List ℕ → ℕ
number32 w = numeral (number_up_to 4294967295 w)

unfoldable pub number64 : List ℕ → ℕ
number64 w = numeral (number_up_to 999999999999999999 w)

unfoldable pub month_day : List ℕ → ℕ
month_day w = numeral (number_in 4 w)

-- an amount that is answered, of up to twelve digits; another word is none, for which a larger amount stands
unfoldable pub answered_in : List ℕ → ℕ
answered_in w = unwrap_or (number_up_to 999999999999 w) 1000000000000

-- a card is a word of digits; another word is none
abbrev pub card_of : Option ℕ → ℕ → Card
card_of (Some x) n = record { number = x; length = n }
card_of None n = record { number = 0; length = 0 }

unfoldable pub card_in : List ℕ → Card
card_in w = card_of (number_in 19 w) (length w)

-- a text of n bytes; where a word is none, n zeros, which no call takes
unfoldable pub text_or : ℕ → List ℕ → List ℕ
text_or n w = cond (is_text n w) (text_in w) (replicate n 0)

-- the desk's data from its words; an empty word is none
unfoldable pub keyed : ℕ → List ℕ → List ℕ → List ℕ → List ℕ → List ℕ → ℕ → ℕ → Bool → Desk
keyed kind amount card trace reference authorisation month day chip =
    record {
      kind = kind;
      amount = number64 amount;
      card = card_in card;
      original = record { 0 = number32 trace };
      month = month;
      day = day;
      authorisation = text_or 6 authorisation;
      reference = text_or 12 reference;
      chip = chip;
    }

-- start KIND AMOUNT CARD TRACE REFERENCE AUTHORISATION MONTH DAY CHIP
unfoldable pub given : List ℕ → Desk
given s =
    keyed (number8 (word_at 1 s)) (word_at 2 s) (word_at 3 s) (word_at 4 s) (word_at 5 s) (word_at 6 s)
    (number8 (word_at 7 s)) (number8 (word_at 8 s)) (not (same_bytes (word_at 9 s) (text "none")))

-- what the desk keyed; a sale or an authorisation has a chip where the word chip stands; where a line is no start, that has no meaning
abbrev pub desk_of : Name → List ℕ → Desk
desk_of (name.Request kind) s = keyed kind (word_at 1 s) (word_at 2 s) [] [] [] 0 0 (not (is_empty (word_at 3 s)))
desk_of (name.Void kind) s = keyed kind [] [] (word_at 1 s) [] [] 0 0 false
desk_of (name.Authorised kind) s =
    keyed kind (word_at 1 s) (word_at 2 s) [] [] (word_at 3 s) (month_day (word_at 4 s) / 100) (month_day (word_at 4 s) % 100) false
desk_of name.Refund s =
    keyed 25 (word_at 1 s) (word_at 2 s) [] (word_at 3 s) [] (month_day (word_at 4 s) / 100) (month_day (word_at 4 s) % 100) false
desk_of name.Start s = given s
desk_of name.Terminal s = given s
desk_of name.Answer s = given s
desk_of name.Reply s = given s
desk_of name.Reconcile s = given s
desk_of name.Date s = given s
desk_of name.CentreBatch s = given s
desk_of name.Echo s = given s
desk_of (name.Call c) s = given s
desk_of (name.Show x) s = given s
desk_of name.Unknown s = given s

-- terminal LIMIT SENDINGS REFUND TERMINAL MERCHANT
unfoldable pub settings_in : List ℕ → Settings
settings_in s =
    record {
      limit = number32 (word_at 1 s);
      sendings = number8 (word_at 2 s);
      refund = number64 (word_at 3 s);
      terminal = text_or 8 (word_at 4 s);
      merchant = text_or 15 (word_at 5 s);
    }

-- reply CODE AMOUNT bad, where AMOUNT and bad may be missing; no word stands after bad
unfoldable pub replied_by : List ℕ → List ℕ → List ℕ → Command
replied_by code amount last =
    cond (is_bad amount && not (is_empty last)) (command.Wrong fault.Count)
    (command.Reply (get_or code 0 0) (get_or code 1 0) (answered_in amount) (not (is_bad amount) && is_empty last))

-- the command of a line whose words are fine; the word that gives a call's bytes is 4 in sale AMOUNT CARD chip HEX, 9 in start and 1 in answer,
-- and no word 9 stands in a line of a call without bytes
abbrev pub command_of : Name → List ℕ → Command
command_of name.Terminal s = command.Terminal
command_of (name.Request kind) s = command.Call call.Start 4
command_of (name.Void kind) s = command.Call call.Start 9
command_of (name.Authorised kind) s = command.Call call.Start 9
command_of name.Refund s = command.Call call.Start 9
command_of name.Start s = command.Call call.Start 9
command_of name.Answer s = command.Call (call.Answer (is_good (word_at 2 s))) 1
command_of name.Reply s = replied_by (word_at 1 s) (word_at 2 s) (word_at 3 s)
command_of name.Reconcile s = command.Reconcile (number8 (word_at 1 s))
command_of name.Date s = command.Date (month_day (word_at 1 s))
command_of name.CentreBatch s = command.CentreBatch (number32 (word_at 1 s))
command_of name.Echo s = command.Echo (same_bytes (word_at 1 s) (text "on"))
command_of (name.Call c) s = command.Call c 9
command_of (name.Show x) s = command.Show x
command_of name.Unknown s = command.Wrong fault.Unknown

abbrev pub judged_command : Result (Unit {0}) Fault → Name → List ℕ → Command
judged_command (Ok _) n s = command_of n s
judged_command (Err f) n s = command.Wrong f

-- a line that has row k
abbrev pub line_of : ℕ → List ℕ → Line
line_of k s =
    record {
      command = judged_command (line_fault k s) (get_or names k name.Unknown) s;
      settings = settings_in s;
      desk = desk_of (get_or names k name.Unknown) s;
    }

unfoldable pub parsed : List ℕ → Line
parsed s = line_of (row_named 29 (word_at 0 s) commands) s
