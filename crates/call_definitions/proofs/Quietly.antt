-- A quiet change of state and journal, and the room for it that rules 1 and 2 give.
use mathlib.Core.Path.{◌≡◌, refl, sym, ◌∙◌}
use mathlib.Core.List.{List, ◌++◌}
use mathlib.Core.Bool.{Bool, true, false, not, ◌||◌, or-false, true≢false}
use Prim.Native.Nat.{ℕ, ◌<◌}
use lib.Dec.{eqb}
use borrow.Author.Tests.{eqb-true, not-false}
use Rattle.message.specs.declared.Message.{Message}
use Rattle.journal.specs.Journal.{entries_of}
use Rattle.checks.specs.Checks.{Rule, first_broken}
use Rattle.checks.proofs.Choices.{first-none, passed}
use Rattle.state.specs.declared.Called.{Called}
use Rattle.state.specs.declared.Outcome.TheVariants.{Quiet}
use Rattle.state.specs.declared.State.{State}
use Rattle.state.specs.State.{Bookable, waits, signs_on, is_waiting}
use Rattle.state.specs.Calls.{Lent, with_journal, result_of}
use Rattle.state_rules.proofs.Holds.{none_over_wait}
use Rattle.rules.specs.Rules.{rules12}
use Rattle.rules.proofs.InOrder.{Fit, fit, bookable}
use Rattle.effect_definitions.specs.JournalEffects.{Changed, changed}
use Rattle.call_definitions.specs.Answer.{quietly, answers_in, answers_now, answer_rules}

pub changes : (d : Changed) (r : Called) (t : State) (k : List ℕ) (lent : Lent) → r ≡ record { outcome = Quiet; state = t } → changed t k ≡ d
    → result_of r (with_journal k lent) ≡ quietly d lent
changes d r t k lent e h = rw (e, ← h)

-- over a wait no sign-on is awaited
pub none-signs_on : (s : State) (lent : Lent) → first_broken (rules12 s lent) ≡ 0 → waits s.phase ≡ true → signs_on s ≡ false
none-signs_on s lent h w = rw (none_over_wait s.phase s.sign_on w (fit s lent h).order.state.sign_on)

-- rule 11 passes: the phase is no wait, and no sign-on is awaited
pub idle : (s : State) → is_waiting s ≡ false → (waits s.phase ≡ false) × (s.sign_on.0 ≡ 0)
idle s h = go (waits s.phase) (eqb s.sign_on.0 0) refl h
  where
    go : (a b : Bool) → eqb s.sign_on.0 0 ≡ b → (a || not b) ≡ false → (a ≡ false) × (s.sign_on.0 ≡ 0)
    go true b e q = absurd (true≢false q)
    go false true e q = (refl, eqb-true s.sign_on.0 0 e)
    go false false e q = absurd (true≢false q)

-- an answer that 14 and 22 let pass, where no sign-on is awaited
pub plainly : (a : Message) (s : State) (j : List ℕ) → first_broken (answer_rules a s j) ≡ 0 → signs_on s ≡ false
    → ((not (waits s.phase) || s.chip.approved) ≡ false) × (answers_in s.phase (entries_of s.entries j) s a ≡ true)
plainly a s j z e =
    let rs = answer_rules a s j in
    (rw (e, or-false (waits s.phase)) at (passed 14 rs refl z), rw e at (not-false (answers_now (entries_of s.entries j) s a) (passed 22 rs refl z)))

-- where none of a call's rules is broken, rules 1 and 2 have passed
pub fit_first : (s : State) (lent : Lent) (qs : List Rule) (n : ℕ) → n ≡ first_broken (rules12 s lent ++ qs) → n ≡ 0 → Fit s lent
fit_first s lent qs n e z = fit s lent (first-none (rules12 s lent) qs refl (sym e ∙ z))

-- and there is room for one more
pub roomy : (s : State) (lent : Lent) (qs : List Rule) (n : ℕ) → n ≡ first_broken (rules12 s lent ++ qs) → n ≡ 0
    → (amount : ℕ) → amount < 1000000000000 → Bookable amount s
roomy s lent qs n e z = bookable s lent (fit_first s lent qs n e z)
