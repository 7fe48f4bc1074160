-- What the private functions of this crate ask for and promise.
use Rattle.std.specs.Prelude.{◌≡◌, List, cond, ℕ}
use Rattle.message.specs.declared.Message.{Message}
use Rattle.state.specs.declared.Called.{Called}
use Rattle.state.specs.declared.Outcome.TheVariants.{Quiet, Refused}
use Rattle.state.specs.declared.State.{State}
use Rattle.state.specs.Calls.{Lent, with_journal, Result, result_of}
use Rattle.answer_match.specs.Match.{is_sign_on_answer}
use Rattle.effect_definitions.specs.StateEffects.{on_sign_on}

-- a call that is lent the journal j and leaves k there has this result, whatever else is lent; that stays
abbrev pub Gives : Called → List ℕ → List ℕ → (Lent → Result) → Type 0
Gives r j k result = (lent : Lent) → result_of r (with_journal k lent) ≡ result (with_journal j lent)

-- a message, where the answer to a sign-on is awaited
unfoldable pub sign_on_answer : Message → State → Called
sign_on_answer a s =
    cond (is_sign_on_answer s.settings s.sign_on a)
    (record { outcome = Quiet; state = on_sign_on a s })
    (record { outcome = Refused 22; state = s })
