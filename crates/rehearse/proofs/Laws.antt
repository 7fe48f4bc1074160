-- Laws of what a line of a script does.
use Rattle.std.specs.Prelude.{Ok, Some, Option, Result as Attempt}
use Rattle.std.proofs.Common.{◌≡◌, refl, sym, ap, subst, ◌∙◌, List, Bool, true, false, cond, ℕ, eqb}
use Rattle.message.specs.declared.Message.{Message}
use Rattle.state.specs.Calls.{Lent, Result}
use Rattle.calls.specs.declared.Call.{Call}
use Rattle.calls.specs.declared.Call.TheVariants.{Answer}
use Rattle.terminal.specs.Terminal.{step_result}
use Rattle.terminal.specs.declared.Step.{Step}
use Rattle.call_definitions.specs.Events.{event_of}
use Rattle.texts.specs.Text.{Text}
use Rattle.words.specs.Rows.{row}
use Rattle.script.specs.Script.{parsed}
use Rattle.script.specs.declared.Command.{Command}
use Rattle.script.specs.declared.Command.TheVariants.{Terminal, Call as Calls, Reply, Reconcile, Date, CentreBatch, Echo, Show as Shows, Wrong}
use Rattle.script.specs.declared.Line.{Line}
use Rattle.screen.specs.Outcomes.{error_line, outcome_line}
use Rattle.centre_types.specs.Types.{left_as}
use Rattle.centre_types.specs.declared.Left.{Left}
use Rattle.stage.specs.declared.Rehearsal.{Rehearsal}
use Rattle.stage.specs.Stage.{after_call}
use Rattle.lines.specs.Asks.{reply_error, reconcile_error, error_after, call_or, asked_by, changed_after, call_bytes}
use Rattle.lines.specs.Shows.{last, message_in, errors, said}
use Rattle.lines.specs.declared.asks.Unobeyed.{Unobeyed}
use Rattle.lines.specs.Asked.{Asked, asked_as}
use Rattle.lines.specs.Asked as asked
use Rattle.rehearse.specs.declared.commands.Acted.{Acted}
use Rattle.rehearse.specs.Rehearsal.{Done, Did, writes, resulted, called}
use Rattle.rehearse.specs.Commands.{line_error, command_done, done}

-- what a method gave, and what was told of it, is what the call does
pub did : (r : Rehearsal) (s : Step) {q : Result} {a : Acted} {lent : Lent} {o : List ℕ} → step_result s lent ≡ q
    → (a.rehearsal ≡ after_call s.outcome s.terminal.state r) × Text (outcome_line s.outcome lent.message) a.written o
    → Did (resulted q r) a lent o
did r s {q} {a} {lent} {o} e h =
    record {
      rehearsal_is = h.0 ∙ ap (λ (x : Result). after_call x.outcome x.state r) e;
      lent_is = ap (λ (x : Result). x.lent) e;
      text_is = subst (λ (x : Result). Text (outcome_line x.outcome x.lent.message) a.written o) e h.1;
    }

-- a line that only writes
pub wrote : {a : Acted} {r : Rehearsal} {w o : List ℕ} (lent : Lent) → a.rehearsal ≡ r → Text w a.written o
    → Did (writes w r lent) a lent o
wrote lent e t = record { rehearsal_is = e; lent_is = refl; text_is = t }

-- line number, of words s
module _ (number : ℕ) (s : List ℕ) (r : Rehearsal) (lent : Lent) where
  -- what it does by what it asks for
  abbrev done_as : Asked → Command → Line → Done
  done_as (asked.Call c) k line = called (event_of c line.desk (call_bytes k s (message_in (last r lent.message)) r.date r.batch)) r lent
  done_as (asked.Error e) k line = writes (said e number k r lent) (changed_after e k line.settings r) lent

  -- an answer of the simulated centre, or the error in its place
  answer_or : (k : Command) (line : Line) (c : Call) (e : ℕ) (t : Bool) → eqb e 0 ≡ t
      → command_done k line number s r lent ≡ done_as (asked.Call c) k line
      → cond (eqb e 0) (command_done k line number s r lent) (writes (error_line number (row e errors)) r lent) ≡ done_as (call_or e c) k line
  unfolding call_or changed_after said
  answer_or k line c e true q h = rw q h
  answer_or k line c e false q h = rw q (rw q)

  asked-done : (k : Command) (line : Line) (has-terminal : Bool) (l : Left)
      → cond (eqb (line_error k has-terminal l) 0) (command_done k line number s r lent) (writes (error_line number (row (line_error k has-terminal l) errors)) r lent)
      ≡ done_as (asked_by k has-terminal l) k line
  unfolding line_error error_after call_or changed_after said
  asked-done Terminal line true l = refl
  asked-done Terminal line false l = refl
  asked-done (Calls c w) line true l = refl
  asked-done (Calls c w) line false l = refl
  asked-done (Reply a b amount good) line true l =
      answer_or (Reply a b amount good) line (Answer good) (reply_error amount l) (eqb (reply_error amount l) 0) refl refl
  asked-done (Reply a b amount good) line false l = refl
  asked-done (Reconcile digit) line true l =
      answer_or (Reconcile digit) line (Answer true) (reconcile_error l) (eqb (reconcile_error l) 0) refl refl
  asked-done (Reconcile digit) line false l = refl
  asked-done (Date d) line true l = refl
  asked-done (Date d) line false l = refl
  asked-done (CentreBatch n) line true l = refl
  asked-done (CentreBatch n) line false l = refl
  asked-done (Echo on) line true l = refl
  asked-done (Echo on) line false l = refl
  asked-done (Shows x) line true l = refl
  asked-done (Shows x) line false l = refl
  asked-done (Wrong f) line true l = refl
  asked-done (Wrong f) line false l = refl

  -- the last message that left is x and left as l
  module _ (a : Attempt (Option Call) Unobeyed) {line : Line} {x : Message} {l : Left}
      (e : line ≡ parsed s) (h : x ≡ message_in (last r lent.message))
      (q : l ≡ left_as x.indicator) (t : asked_as a ≡ asked_by line.command r.begun l) where
    is-done : done number s r lent ≡ done_as (asked_as a) line.command line
    unfolding done
    is-done =
        asked-done (parsed s).command (parsed s) r.begun (left_as (message_in (last r lent.message)).indicator)
        ∙ ap (λ (z : Line). done_as (asked_by z.command r.begun (left_as (message_in (last r lent.message)).indicator)) z.command z) (sym e)
        ∙ ap (λ (z : Message). done_as (asked_by line.command r.begun (left_as z.indicator)) line.command line) (sym h)
        ∙ ap (λ (z : Left). done_as (asked_by line.command r.begun z) line.command line) (sym q)
        ∙ ap (λ (z : Asked). done_as z line.command line) (sym t)

    module _ {d : Acted} {o : List ℕ} where
      pub call-done : {c : Call} {b : List ℕ} {after : Lent} → a ≡ Ok (Some c) → b ≡ call_bytes line.command s x r.date r.batch
          → Did (called (event_of c line.desk b) r lent) d after o → Did (done number s r lent) d after o
      call-done {c} {b} {after} g p u =
          subst (λ (z : Done). Did z d after o)
          (ap (λ (y : List ℕ). called (event_of c line.desk y) r lent)
          (p ∙ ap (λ (z : Message). call_bytes line.command s z r.date r.batch) h)
          ∙ sym (is-done ∙ ap (λ (z : Attempt (Option Call) Unobeyed). done_as (asked_as z) line.command line) g))
          u

      pub no_call-done : (n : ℕ) → asked_as a ≡ asked.Error n → d.rehearsal ≡ changed_after n line.command line.settings r
          → Text (said n number line.command r lent) d.written o → Did (done number s r lent) d lent o
      no_call-done x g u v =
          subst (λ (z : Done). Did z d lent o) (sym (is-done ∙ ap (λ (z : Asked). done_as z line.command line) g)) (wrote lent u v)
