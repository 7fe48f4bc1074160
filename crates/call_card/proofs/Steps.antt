-- The card's word, where it is not refused: it changes state and journal.
use mathlib.Core.Path.{◌≡◌, refl, sym}
use mathlib.Core.List.{List, [], ◌∷◌}
use mathlib.Core.Bool.{true, not}
use Prim.Native.Nat.{ℕ, ◌<◌}
use native.Mathlib.Omega.{arith}
use borrow.Author.Tests.{not-false}
use Rattle.checks.specs.Checks.{Rule, rule, first_broken}
use Rattle.checks.proofs.Choices.{passed}
use Rattle.state.specs.declared.Called.{Called}
use Rattle.state.specs.declared.Outcome.TheVariants.{Quiet}
use Rattle.state.specs.declared.State.{State}
use Rattle.state.specs.State.{Bookable}
use Rattle.state.specs.Calls.{Lent, with_journal, result_of, judged}
use Rattle.state.proofs.Judged.{goes}
use Rattle.effect_definitions.specs.JournalEffects.{Changed, changed}
use Rattle.call_definitions.specs.Answer.{quietly, awaits_card, card_rules}
use Rattle.call_definitions.proofs.Quietly.{changes, fit_first, roomy}
use Rattle.state_rules.proofs.Holds.{amount_small, consent_holds}

abbrev last : State → List Rule
last s = rule 14 (not (awaits_card s)) ∷ []

-- none of the rules refuses
module _ (s : State) (lent : Lent) (z : 0 ≡ first_broken (card_rules s lent)) where
  -- the amount that the card's word is awaited for
  small : s.chip.amount < 1000000000000
  small =
      let o = (fit_first s lent (last s) 0 z refl).order.state in
      let y : s.chip.approved ≡ true = not-false s.chip.approved (passed 14 (card_rules s lent) refl (sym z)) in
      omega (arith, (consent_holds s.phase s.chip o.chip y).may.1.most, amount_small s.phase o.phase_form)

  pub word_taken : (r : Called) (d : Changed) (t : State) (k : List ℕ) → (Bookable s.chip.amount s → changed t k ≡ d)
      → r ≡ record { outcome = Quiet; state = t }
      → result_of r (with_journal k lent) ≡ judged (first_broken (card_rules s lent)) s lent (quietly d lent)
  word_taken r d t k h q = goes 0 _ s lent _ _ z refl (changes d r t k lent q (h (roomy s lent (last s) 0 z refl s.chip.amount small)))
