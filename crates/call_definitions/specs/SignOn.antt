-- Document 02, request 3: sign on. It may go at rest, over a pending reversal, while settling and while uploading, signed on or off.
use Rattle.std.specs.Prelude.{List, [], ◌∷◌, ◌++◌}
use Rattle.writing.specs.Writing.{message_bytes}
use Rattle.numbers.specs.declared.Trace.{Trace}
use Rattle.journal.specs.Journal.{entries_of, taken}
use Rattle.state.specs.declared.State.{State}
use Rattle.state.specs.State.{is_waiting}
use Rattle.checks.specs.Checks.{Rule, rule, first_broken}
use Rattle.state.specs.Calls.{Lent, Result, judged, sends}
use Rattle.rules.specs.Rules.{rules12}
use Rattle.batch_messages.specs.BatchMessages.{sign_on_message}
use Rattle.effect_definitions.specs.StateEffects.{asks_sign_on}

abbrev pub sign_on_rules : State → Lent → List Rule
sign_on_rules s lent = rules12 s lent ++ (rule 11 (is_waiting s) ∷ [])

abbrev pub sign_on_now : State → Trace → Lent → Result
sign_on_now s trace lent = sends (message_bytes (sign_on_message s.settings s.batch trace)) (asks_sign_on s trace) lent

unfoldable pub sign_on : State → Lent → Result
sign_on s lent =
    judged (first_broken (sign_on_rules s lent)) s lent
    (sign_on_now s (record { 0 = taken (entries_of s.entries lent.journal) s.next.0 }) lent)
