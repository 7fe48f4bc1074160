-- The statements of specs/Theorems.antt.
use mathlib.Core.Path.{◌≡◌, refl, ap, sym}
use mathlib.Core.List.{List}
use mathlib.Core.Bool.{Bool, true, false, cond, not, or-true}
use Prim.Native.Nat.{ℕ}
use native.Mathlib.Omega.{arith}
use Rattle.checks.specs.Checks.{first_broken}
use Rattle.checks.proofs.Choices.{last-broken, last-kept}
use Rattle.rules.specs.Rules.{rules12}
use Rattle.effect_definitions.specs.JournalEffects.{changed, silent, silent_in, unanswered, approved, agreed}
use Rattle.effect_definitions.proofs.Theorems.{silence_keeps_sums}
use Rattle.effect_definitions.specs.StateEffects.{sign_on_ended, pending_or_unanswered}
use Rattle.state.specs.Calls.{Lent, Result, judged}
use Rattle.state.specs.State.{signs_on, is_waiting}
use Rattle.state.specs.declared.Phase.{Phase}
use Rattle.state.specs.declared.Phase.TheVariants.{Resting, Waiting, Pending, Settling, Uploading}
use Rattle.state.specs.declared.State.{State}
use Rattle.call_definitions.specs.Answer.{answer, power_returned, awaits_card, card_rules, card_agrees, card_declines}
use Rattle.call_definitions.specs.SendReversal.{send_reversal}
use Rattle.call_definitions.specs.SignOn.{sign_on}
use Rattle.call_definitions.specs.Start.{start}
use Rattle.call_definitions.specs.Theorems.{LateAnswerRefused, AnswerToCardRefused, LateCardRefused, ConsentAddsEntry, PowerMakesReversal, PowerSignsOff, PowerKeepsSums, StartTakesTrace, SignOnTakesTrace, SignOnPasses, ReversalOfRequest}
use Rattle.call_definitions.proofs.Quietly.{none-signs_on}

pub late-answer_refused : LateAnswerRefused
unfolding answer judged first_broken
late-answer_refused b good s lent h r w = rw (h, r, w)

pub answer_to_card-refused : AnswerToCardRefused
unfolding answer judged first_broken
answer_to_card-refused b good s lent h r w = rw (h, r, w, or-true (not (is_waiting s)))

-- the rules of the card's word, once 1 and 2 pass
module _ (s : State) (lent : Lent) (h : first_broken (rules12 s lent) ≡ 0) where
  card-refused : awaits_card s ≡ false → first_broken (card_rules s lent) ≡ 14
  card-refused w = sym (last-broken (rules12 s lent) (first_broken (rules12 s lent)) refl refl h 14 (not (awaits_card s)) (rw w))

  card-heard : awaits_card s ≡ true → first_broken (card_rules s lent) ≡ 0
  card-heard w = sym (last-kept (rules12 s lent) (first_broken (rules12 s lent)) refl refl h 14 (not (awaits_card s)) (rw w))

pub late-card-refused : LateCardRefused
unfolding card_agrees card_declines judged
late-card-refused d b s lent h w = (rw (card-refused s lent h w), rw (card-refused s lent h w))

pub consent_adds-entry : ConsentAddsEntry
unfolding card_agrees judged agreed approved
consent_adds-entry q s lent h w p = (rw (card-heard s lent h w, p) (omega arith), rw (card-heard s lent h w, p))

pub power_makes_reversal : PowerMakesReversal
unfolding power_returned judged unanswered silent pending_or_unanswered
power_makes_reversal q s lent h p w n = rw (h, none-signs_on s lent h (rw p), p, w, n)

pub power_signs_off : PowerSignsOff
unfolding power_returned judged
power_signs_off d b s lent h = rw h

-- silence leaves the sums in every phase
silence_keeps : (p : Phase) (s : State) (j : List ℕ) → (silent_in p s j).state.totals ≡ s.totals
silence_keeps Resting s j = refl
silence_keeps (Waiting a) s j = silence_keeps_sums a s j
silence_keeps (Pending v) s j = refl
silence_keeps Settling s j = refl
silence_keeps Uploading s j = refl

unanswered_keeps : (s : State) (j : List ℕ) → (unanswered s j).state.totals ≡ s.totals
unfolding unanswered
unanswered_keeps s j = go (signs_on s)
  where
    go : (b : Bool) → (cond b (changed (sign_on_ended s) j) (silent_in s.phase s j)).state.totals ≡ s.totals
    go true = refl
    go false = silence_keeps s.phase s j

pub power_keeps_sums : PowerKeepsSums
unfolding power_returned judged
power_keeps_sums d b s lent h = rw h (unanswered_keeps s lent.journal)

-- a call that breaks no rule does what is said
done : (n : ℕ) (s : State) (lent : Lent) (r : Result) → n ≡ 0 → judged n s lent r ≡ r
unfolding judged
done n s lent r h = rw h

pub start-takes-trace : StartTakesTrace
unfolding start
start-takes-trace d b s lent h = ap (λ r. r.state.next.0) (done _ s lent _ h)

pub sign_on-takes-trace : SignOnTakesTrace
unfolding sign_on
sign_on-takes-trace s lent h =
    (ap (λ r. r.state.next.0) (done _ s lent _ h), ap (λ r. r.state.sign_on.0) (done _ s lent _ h))

pub sign_on-passes : SignOnPasses
sign_on-passes s lent h w = sym (last-kept (rules12 s lent) (first_broken (rules12 s lent)) refl refl h 11 (is_waiting s) w)

pub reversal_of-request : ReversalOfRequest
unfolding send_reversal judged
reversal_of-request v s lent h p = rw (h, p)
