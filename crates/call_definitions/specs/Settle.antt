-- Document 01, "Calls": settle. Document 02, request 2: it carries the sums that the state holds.
use Rattle.std.specs.Prelude.{List, [], ◌∷◌, ◌++◌}
use Rattle.writing.specs.Writing.{message_bytes}
use Rattle.numbers.specs.declared.Trace.{Trace}
use Rattle.journal.specs.Journal.{entries_of, taken}
use Rattle.state.specs.declared.State.{State}
use Rattle.state.specs.State.{is_pending, is_uploading}
use Rattle.checks.specs.Checks.{Rule, rule, first_broken}
use Rattle.state.specs.Calls.{Lent, Result, judged, sends}
use Rattle.rules.specs.Rules.{idle_rules}
use Rattle.batch_messages.specs.BatchMessages.{settlement_message}
use Rattle.effect_definitions.specs.StateEffects.{settles}

abbrev pub settle_rules : State → Lent → List Rule
settle_rules s lent = idle_rules s lent ++ (rule 12 (is_pending s) ∷ rule 13 (is_uploading s) ∷ [])

abbrev pub settle_now : State → Trace → Lent → Result
settle_now s trace lent = sends (message_bytes (settlement_message s.settings s.batch trace s.totals)) (settles s trace) lent

unfoldable pub settle : State → Lent → Result
settle s lent =
    judged (first_broken (settle_rules s lent)) s lent
    (settle_now s (record { 0 = taken (entries_of s.entries lent.journal) s.next.0 }) lent)
