-- Document 01, "Calls": send next upload.
use Rattle.std.specs.Prelude.{List, [], ◌∷◌, ◌++◌, not, ℕ, Some, None, Option}
use Rattle.writing.specs.Writing.{message_bytes}
use Rattle.numbers.specs.declared.Trace.{Trace}
use Rattle.entry.specs.declared.Entry.{Entry}
use Rattle.journal.specs.Journal.{entries_of, entry_at, next_due, taken}
use Rattle.state.specs.declared.Awaited.TheVariants as awaited
use Rattle.state.specs.declared.Phase.{Phase}
use Rattle.state.specs.declared.Phase.TheVariants.{Resting, Waiting, Pending, Settling, Uploading}
use Rattle.state.specs.declared.State.{State}
use Rattle.state.specs.State.{in_phase, is_uploading}
use Rattle.checks.specs.Checks.{Rule, rule, first_broken}
use Rattle.state.specs.Calls.{Lent, with_journal, Result, judged, quiet, sends}
use Rattle.rules.specs.Rules.{idle_rules, due}
use Rattle.batch_messages.specs.BatchMessages.{item_message, end_message}
use Rattle.effect_definitions.specs.StateEffects.{ending}
use Rattle.effect_definitions.specs.JournalEffects.{resent}

abbrev pub send_next_upload_rules : State → Lent → List Rule
send_next_upload_rules s lent = idle_rules s lent ++ (rule 14 (not (is_uploading s)) ∷ [])

abbrev pub sends_item : ℕ → Entry → State → Lent → Result
sends_item i e s lent =
    sends (message_bytes (item_message s.settings s.batch e)) (in_phase (Waiting (awaited.Item i)) s) (with_journal (resent i e lent.journal) lent)

abbrev pub sends_end : Trace → State → Lent → Result
sends_end trace s lent = sends (message_bytes (end_message s.settings s.batch trace)) (ending s trace) lent

-- the first due entry of mark 0 or, where no due one is 0, of mark 1; where there is none, the end
abbrev pub sends_next : Option ℕ → State → Lent → Result
sends_next (Some i) s lent = sends_item i (entry_at (entries_of s.entries lent.journal) i) s lent
sends_next None s lent = sends_end (record { 0 = taken (entries_of s.entries lent.journal) s.next.0 }) s lent

-- the next item or the end leaves; the rules let no other phase pass
abbrev pub upload_from : Phase → State → Lent → Result
upload_from Resting s lent = quiet s lent
upload_from (Waiting a) s lent = quiet s lent
upload_from (Pending v) s lent = quiet s lent
upload_from Settling s lent = quiet s lent
upload_from Uploading s lent = sends_next (next_due (due Uploading) (entries_of s.entries lent.journal)) s lent

unfoldable pub send_next_upload : State → Lent → Result
send_next_upload s lent = judged (first_broken (send_next_upload_rules s lent)) s lent (upload_from s.phase s lent)
