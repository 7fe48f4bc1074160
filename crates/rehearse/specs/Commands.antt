-- What a line of a script does to a rehearsal, and what it writes.
use Rattle.std.specs.Prelude.{List, [], ◌∷◌, Bool, true, false, cond, ◌||◌, ℕ, eqb}
use Rattle.state.specs.Calls.{Lent}
use Rattle.call_definitions.specs.Events.{answers, event_of}
use Rattle.words.specs.Rows.{row}
use Rattle.words.specs.Words.{word_at}
use Rattle.script.specs.declared.Command.{Command}
use Rattle.script.specs.declared.Command.TheVariants as command
use Rattle.script.specs.declared.Line.{Line}
use Rattle.script.specs.Script.{parsed}
use Rattle.screen.specs.Outcomes.{error_line}
use Rattle.centre_types.specs.Types.{left_as}
use Rattle.centre_types.specs.declared.Left.{Left}
use Rattle.centre.specs.Centre.{reply, reconciliation}
use Rattle.stage.specs.declared.Rehearsal.{Rehearsal}
use Rattle.stage.specs.Stage.{begun, dated, numbered, echoing}
use Rattle.lines.specs.Asks.{reply_error, reconcile_error, bytes_of, bytes_in}
use Rattle.lines.specs.Shows.{last, message_in, shown, fault_text, errors}
use Rattle.rehearse.specs.Rehearsal.{Done, writes, called}

-- the error of a line that is understood, after what left last
abbrev pub command_error : Command → Left → ℕ
command_error command.Terminal l = 0
command_error (command.Call c k) l = 0
command_error (command.Reply a b amount good) l = reply_error amount l
command_error (command.Reconcile digit) l = reconcile_error l
command_error (command.Date d) l = 0
command_error (command.CentreBatch n) l = 0
command_error (command.Echo on) l = 0
command_error (command.Show x) l = 0
command_error (command.Wrong f) l = 0

-- lines that need no terminal
abbrev pub stands_alone : Command → Bool
stands_alone command.Terminal = true
stands_alone (command.Call c k) = false
stands_alone (command.Reply a b amount good) = false
stands_alone (command.Reconcile digit) = false
stands_alone (command.Date d) = true
stands_alone (command.CentreBatch n) = false
stands_alone (command.Echo on) = true
stands_alone (command.Show x) = false
stands_alone (command.Wrong f) = true

-- before the first terminal a call, a show or the centre's batch number is an error
unfoldable pub line_error : Command → Bool → Left → ℕ
line_error c has-terminal l = cond (has-terminal || stands_alone c) (command_error c l) 1

-- what a line of words s that is obeyed does
abbrev pub command_done : Command → Line → ℕ → List ℕ → Rehearsal → Lent → Done
command_done command.Terminal line number s r lent = writes [] (begun line.settings r) lent
command_done (command.Call c k) line number s r lent = called (event_of c line.desk (bytes_in (word_at k s))) r lent
command_done (command.Reply a b amount good) line number s r lent =
    called (answers (bytes_of (reply (message_in (last r lent.message)) r.date r.batch (a ∷ b ∷ []) amount)) good) r lent
command_done (command.Reconcile digit) line number s r lent =
    called (answers (bytes_of (reconciliation (message_in (last r lent.message)) digit)) true) r lent
command_done (command.Date d) line number s r lent = writes [] (dated d r) lent
command_done (command.CentreBatch n) line number s r lent = writes [] (numbered n r) lent
command_done (command.Echo on) line number s r lent = writes [] (echoing on r) lent
command_done (command.Show x) line number s r lent = writes (shown x r lent) r lent
command_done (command.Wrong f) line number s r lent = writes (error_line number (fault_text f)) r lent

abbrev pub obeyed : ℕ → Line → ℕ → List ℕ → Rehearsal → Lent → Done
obeyed error line number s r lent =
    cond (eqb error 0) (command_done line.command line number s r lent) (writes (error_line number (row error errors)) r lent)

-- line number, of words s
unfoldable pub done : ℕ → List ℕ → Rehearsal → Lent → Done
done number s r lent =
    obeyed (line_error (parsed s).command r.begun (left_as (message_in (last r lent.message)).indicator)) (parsed s) number s r lent
