-- Document 01, "Calls": send reversal.
use Rattle.std.specs.Prelude.{List, [], ◌∷◌, ◌++◌, not}
use Rattle.writing.specs.Writing.{message_bytes}
use Rattle.state.specs.declared.Reversal.{Reversal}
use Rattle.state.specs.declared.Awaited.TheVariants as awaited
use Rattle.state.specs.declared.Phase.{Phase}
use Rattle.state.specs.declared.Phase.TheVariants.{Resting, Waiting, Pending, Settling, Uploading}
use Rattle.state.specs.declared.State.{State}
use Rattle.state.specs.State.{in_phase, is_pending}
use Rattle.checks.specs.Checks.{Rule, rule, first_broken}
use Rattle.state.specs.Calls.{Lent, Result, judged, quiet, sends}
use Rattle.rules.specs.Rules.{idle_rules}
use Rattle.outgoing.specs.Outgoing.{reversal_message}
use Rattle.effect_definitions.specs.StateEffects.{again}

abbrev pub send_reversal_rules : State → Lent → List Rule
send_reversal_rules s lent = idle_rules s lent ++ (rule 14 (not (is_pending s)) ∷ [])

abbrev pub sends_reversal : Reversal → State → Lent → Result
sends_reversal v s lent =
    sends (message_bytes (reversal_message s.settings s.batch s.chip v)) (in_phase (Waiting (awaited.Reversal v)) s) lent

-- the pending reversal leaves; the rules let no other phase pass
abbrev pub send_from : Phase → State → Lent → Result
send_from Resting s lent = quiet s lent
send_from (Waiting a) s lent = quiet s lent
send_from (Pending v) s lent = sends_reversal (again v) s lent
send_from Settling s lent = quiet s lent
send_from Uploading s lent = quiet s lent

unfoldable pub send_reversal : State → Lent → Result
send_reversal s lent = judged (first_broken (send_reversal_rules s lent)) s lent (send_from s.phase s lent)
