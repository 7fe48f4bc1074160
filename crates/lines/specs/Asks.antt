-- What a line asks for: a call or an error; the change of the rehearsal, and the bytes of a call.
use Rattle.std.specs.Prelude.{List, [], ◌∷◌, Bool, true, cond, ℕ, eqb, take, replicate}
use Rattle.message.specs.Message.{largest}
use Rattle.message.specs.declared.Message.{Message}
use Rattle.writing.specs.Writing.{write_message}
use Rattle.outgoing.specs.Outgoing.{length_of}
use Rattle.state.specs.declared.Settings.{Settings}
use Rattle.calls.specs.declared.Call.{Call}
use Rattle.calls.specs.declared.Call.TheVariants as call
use Rattle.hexadecimal.specs.Hexadecimal.{from_hex}
use Rattle.words.specs.Words.{word_at}
use Rattle.grammar.specs.Shapes.{is_bytes}
use Rattle.script.specs.declared.Command.{Command}
use Rattle.script.specs.declared.Command.TheVariants as command
use Rattle.centre.specs.Centre.{is_given, reply, reconciliation}
use Rattle.centre_types.specs.declared.Left.{Left}
use Rattle.centre_types.specs.declared.Left.TheVariants as left
use Rattle.stage.specs.declared.Rehearsal.{Rehearsal}
use Rattle.stage.specs.Stage.{begun, dated, numbered, echoing}
use Rattle.lines.specs.Asked.{Asked}
use Rattle.lines.specs.Asked as asked

-- reply answers what left last, unless that is a settlement; with an amount it answers a card request; reconcile answers a settlement
abbrev pub usual_error : Left → ℕ
usual_error left.Nothing = 2
usual_error left.Request = 0
usual_error left.Reversal = 0
usual_error left.Settlement = 3
usual_error left.Upload = 0
usual_error left.SignOn = 0

abbrev pub amount_error : Left → ℕ
amount_error left.Nothing = 2
amount_error left.Request = 0
amount_error left.Reversal = 5
amount_error left.Settlement = 5
amount_error left.Upload = 5
amount_error left.SignOn = 5

unfoldable pub reply_error : ℕ → Left → ℕ
reply_error amount l = cond (is_given amount) (amount_error l) (usual_error l)

abbrev pub reconcile_error : Left → ℕ
reconcile_error left.Nothing = 2
reconcile_error left.Request = 4
reconcile_error left.Reversal = 4
reconcile_error left.Settlement = 0
reconcile_error left.Upload = 4
reconcile_error left.SignOn = 4

-- the error of a line that needs a terminal
unfoldable pub error_after : Bool → ℕ → ℕ
error_after has-terminal error = cond has-terminal error 1

-- a call, unless there is an error
unfoldable pub call_or : ℕ → Call → Asked
call_or error c = cond (eqb error 0) (asked.Call c) (asked.Error error)

abbrev pub asked_by : Command → Bool → Left → Asked
asked_by command.Terminal has-terminal l = asked.Error 0
asked_by (command.Call c k) has-terminal l = call_or (error_after has-terminal 0) c
asked_by (command.Reply a b amount good) has-terminal l = call_or (error_after has-terminal (reply_error amount l)) (call.Answer good)
asked_by (command.Reconcile digit) has-terminal l = call_or (error_after has-terminal (reconcile_error l)) (call.Answer true)
asked_by (command.Date d) has-terminal l = asked.Error 0
asked_by (command.CentreBatch n) has-terminal l = asked.Error (error_after has-terminal 0)
asked_by (command.Echo on) has-terminal l = asked.Error 0
asked_by (command.Show x) has-terminal l = asked.Error (error_after has-terminal 0)
asked_by (command.Wrong f) has-terminal l = asked.Error 0

-- the rehearsal after a line that makes no call
abbrev pub changed_by : Command → Settings → Rehearsal → Rehearsal
changed_by command.Terminal x r = begun x r
changed_by (command.Call c k) x r = r
changed_by (command.Reply a b amount good) x r = r
changed_by (command.Reconcile digit) x r = r
changed_by (command.Date d) x r = dated d r
changed_by (command.CentreBatch n) x r = numbered n r
changed_by (command.Echo on) x r = echoing on r
changed_by (command.Show y) x r = r
changed_by (command.Wrong f) x r = r

-- an error changes nothing
unfoldable pub changed_after : ℕ → Command → Settings → Rehearsal → Rehearsal
changed_after error k x r = cond (eqb error 0) (changed_by k x r) r

-- the bytes of a message of the simulated centre
unfoldable pub bytes_of : Message → List ℕ
bytes_of a = take (length_of (write_message a (replicate largest 0)).outcome) (write_message a (replicate largest 0)).buffer

-- the bytes that word w says in hexadecimal, at most 2,048; another word, as - or none, says none
unfoldable pub bytes_in : List ℕ → List ℕ
bytes_in w = cond (is_bytes w) (from_hex w) []

-- the bytes of the call of a line s: the simulated centre's answer to m, with its date and its batch number, or those of a word
abbrev pub call_bytes : Command → List ℕ → Message → ℕ → ℕ → List ℕ
call_bytes command.Terminal s m date batch = []
call_bytes (command.Call c k) s m date batch = bytes_in (word_at k s)
call_bytes (command.Reply a b amount good) s m date batch = bytes_of (reply m date batch (a ∷ b ∷ []) amount)
call_bytes (command.Reconcile digit) s m date batch = bytes_of (reconciliation m digit)
call_bytes (command.Date d) s m date batch = []
call_bytes (command.CentreBatch n) s m date batch = []
call_bytes (command.Echo on) s m date batch = []
call_bytes (command.Show x) s m date batch = []
call_bytes (command.Wrong f) s m date batch = []
