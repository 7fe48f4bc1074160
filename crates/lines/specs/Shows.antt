-- What a line that makes no call writes.
use Rattle.std.specs.Prelude.{List, [], ◌++◌, cond, ℕ, eqb, length, take}
use Rattle.message.specs.declared.Message.{Message}
use Rattle.reading.specs.Reading.{read_message}
use Rattle.journal.specs.Journal.{entries_of}
use Rattle.state_rules.specs.StateRules.{waiting}
use Rattle.state.specs.Calls.{Lent}
use Rattle.dump.specs.Shown.{message_text}
use Rattle.texts.specs.Decimal.{decimal}
use Rattle.texts.specs.Text.{text}
use Rattle.words.specs.Rows.{row}
use Rattle.grammar.specs.declared.Fault.{Fault}
use Rattle.grammar.specs.declared.Fault.TheVariants as fault
use Rattle.script.specs.declared.Command.{Command}
use Rattle.script.specs.declared.Command.TheVariants as command
use Rattle.script.specs.declared.Show.{Show}
use Rattle.script.specs.declared.Show.TheVariants as show
use Rattle.screen.specs.Outcomes.{error_line}
use Rattle.screen.specs.Shows.{counts_line, totals_line, state_line, journal_text, message_line}
use Rattle.stage.specs.declared.Rehearsal.{Rehearsal}

-- the last message that left, which a quiet or refused call leaves in the message buffer
abbrev pub last : Rehearsal → List ℕ → List ℕ
last r m = take r.length m

abbrev pub message_in : List ℕ → Message
message_in b = (read_message b).message

-- the last message as decode shows it
unfoldable pub fields_text : List ℕ → List ℕ
fields_text b = cond (eqb (length b) 0) (text "message none\n") (message_text (message_in b) (length b))

-- what is shown; totals are the stored sums, which a settlement would carry now
abbrev pub shown : Show → Rehearsal → Lent → List ℕ
shown show.Counts r lent = counts_line r.state.counts (waiting r.state.phase)
shown show.Totals r lent = totals_line r.state.totals
shown show.State r lent = state_line r.state
shown show.Journal r lent = journal_text r.state.entries (entries_of r.state.entries lent.journal)
shown show.Message r lent = message_line (last r lent.message)
shown show.Fields r lent = fields_text (last r lent.message)

-- what is wrong with a line
abbrev pub fault_text : Fault → List ℕ
fault_text fault.Unknown = text "unknown command"
fault_text fault.Count = text "too many or too few words"
fault_text (fault.Word k) = text "word " ++ decimal k ++ text " not understood"

-- why a line that is understood is not obeyed: row k is error k, and 0 is none
abbrev pub errors : List ℕ
errors =
    text "\n"
    ++ text "no terminal\n"
    ++ text "nothing to answer\n"
    ++ text "a settlement left last: reconcile answers it\n"
    ++ text "no settlement left last\n"
    ++ text "no card request left last\n"

-- what line number writes where it makes no call
abbrev pub said_by : Command → ℕ → Rehearsal → Lent → List ℕ
said_by command.Terminal number r lent = []
said_by (command.Call c k) number r lent = []
said_by (command.Reply a b amount good) number r lent = []
said_by (command.Reconcile digit) number r lent = []
said_by (command.Date d) number r lent = []
said_by (command.CentreBatch n) number r lent = []
said_by (command.Echo on) number r lent = []
said_by (command.Show x) number r lent = shown x r lent
said_by (command.Wrong f) number r lent = error_line number (fault_text f)

unfoldable pub said : ℕ → ℕ → Command → Rehearsal → Lent → List ℕ
said error number k r lent = cond (eqb error 0) (said_by k number r lent) (error_line number (row error errors))
