-- Document 01, "Calls": answer (bytes, MAC good or bad); no answer; power returned. Document 02, request 1: card agrees; card declines.
use Rattle.std.specs.Prelude.{List, [], ◌∷◌, ◌++◌, Bool, false, cond, not, ◌||◌, ℕ}
use Rattle.message.specs.declared.Message.{Message}
use Rattle.reading.specs.Reading.{read_message, ReadOutcome as Judgement, Read, Refused as Unread}
use Rattle.numbers.specs.declared.Trace.{Trace}
use Rattle.numbers.specs.declared.Batch.{Batch}
use Rattle.entry.specs.declared.Entry.{Entry}
use Rattle.journal.specs.Journal.{entries_of, entry_at}
use Rattle.state.specs.declared.Awaited.{Awaited}
use Rattle.state.specs.declared.Awaited.TheVariants as awaited
use Rattle.state.specs.declared.Phase.{Phase}
use Rattle.state.specs.declared.Phase.TheVariants.{Resting, Waiting, Pending, Settling, Uploading}
use Rattle.state.specs.declared.State.{State}
use Rattle.state.specs.State.{signed, signs_on, is_waiting}
use Rattle.checks.specs.Checks.{Rule, rule, first_broken}
use Rattle.state.specs.Calls.{Lent, with_journal, Result, judged, refused, quiet}
use Rattle.rules.specs.Rules.{rules12}
use Rattle.answer_match.specs.Match.{is_answer, is_sign_on_answer}
use Rattle.effect_definitions.specs.JournalEffects.{Changed, silent_in, unanswered, heard, agreed_in}

abbrev pub quietly : Changed → Lent → Result
quietly c lent = quiet c.state (with_journal c.journal lent)

abbrev pub no_answer_rules : State → Lent → List Rule
no_answer_rules s lent = rules12 s lent ++ (rule 14 (not (is_waiting s)) ∷ [])

unfoldable pub no_answer : State → Lent → Result
no_answer s lent = judged (first_broken (no_answer_rules s lent)) s lent (quietly (unanswered s lent.journal) lent)

-- power returned also signs off; what is awaited is then silent, as at no answer
abbrev pub without_power : Changed → Lent → Result
without_power c lent = quiet (signed false c.state) (with_journal c.journal lent)

unfoldable pub power_returned : State → Lent → Result
power_returned s lent = judged (first_broken (rules12 s lent)) s lent (without_power (unanswered s lent.journal) lent)

-- the card's word is awaited, and nothing from the centre
abbrev pub awaits_card : State → Bool
awaits_card s = s.chip.approved

abbrev pub card_rules : State → Lent → List Rule
card_rules s lent = rules12 s lent ++ (rule 14 (not (awaits_card s)) ∷ [])

unfoldable pub card_agrees : State → Lent → Result
card_agrees s lent = judged (first_broken (card_rules s lent)) s lent (quietly (agreed_in s.phase s lent.journal) lent)

-- a card that declines acts as one that is silent
unfoldable pub card_declines : State → Lent → Result
card_declines s lent = judged (first_broken (card_rules s lent)) s lent (quietly (silent_in s.phase s lent.journal) lent)

-- the trace that was sent; reversals and upload items reuse the original's
abbrev pub trace_sent : List Entry → Awaited → Trace
trace_sent es (awaited.Request q) = q.trace
trace_sent es (awaited.Reversal v) = v.request.trace
trace_sent es (awaited.Settlement x) = x
trace_sent es (awaited.Item i) = (entry_at es i).trace
trace_sent es (awaited.End x) = x

-- the batch number that was sent
abbrev pub batch_sent : State → Awaited → Batch
batch_sent s w = s.batch

-- the message answers what is awaited
abbrev pub answers_in : Phase → List Entry → State → Message → Bool
answers_in Resting es s a = false
answers_in (Waiting w) es s a = is_answer s.settings (batch_sent s w) (trace_sent es w) w a
answers_in (Pending v) es s a = false
answers_in Settling es s a = false
answers_in Uploading es s a = false

-- be it a sign-on (document 02, request 3)
abbrev pub answers_now : List Entry → State → Message → Bool
answers_now es s a = cond (signs_on s) (is_sign_on_answer s.settings s.sign_on a) (answers_in s.phase es s a)

-- 14 and 22, for a message that reads
abbrev pub answer_rules : Message → State → List ℕ → List Rule
answer_rules a s j =
    rule 14 (not (is_waiting s) || awaits_card s) ∷ rule 22 (not (answers_now (entries_of s.entries j) s a)) ∷ []

abbrev pub answer_in : Bool → Message → State → Lent → Result
answer_in good a s lent =
    judged (first_broken (answer_rules a s lent.journal)) s lent (quietly (heard good a s lent.journal) lent)

-- 3 to 9, 23 and 24: an answer that does not read is refused with the reading's own number
abbrev pub read_in : Judgement → Bool → Message → State → Lent → Result
read_in Read good a s lent = answer_in good a s lent
read_in (Unread n) good a s lent = refused n s lent

-- 1 and 2, then the reading's own, then 14 and 22
unfoldable pub answer : List ℕ → Bool → State → Lent → Result
answer b good s lent =
    judged (first_broken (rules12 s lent)) s lent (read_in (read_message b).outcome good (read_message b).message s lent)
