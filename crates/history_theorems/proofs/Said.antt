-- What a call leaves and gives: where the rules after 1 and 2 give a number.
use mathlib.Core.Path.{◌≡◌, refl, ap, ◌∙◌}
use mathlib.Core.List.{List, ◌++◌}
use mathlib.Core.Bool.{Bool, true, false, cond, not}
use Prim.Native.Nat.{ℕ}
use lib.Dec.{eqb}
use borrow.Author.Tests.{eqb-true, eqb-false}
use Rattle.journal.specs.Journal.{entries_of}
use Rattle.state.specs.declared.State.{State}
use Rattle.state.specs.Calls.{Lent, Result, judged, refused}
use Rattle.checks.specs.Checks.{Rule, first_broken}
use Rattle.rules.specs.Rules.{rules12, too_short, keeps_rule2}
use Rattle.rules.proofs.InOrder.{Fit, fit}
use Rattle.call_definitions.specs.Events.{Event}
use Rattle.history.specs.History as history
use Rattle.history.specs.History.{Given}
use Rattle.history.specs.Demand.{given_by}
use Rattle.history_theorems.specs.Standing.{Standing, when_given}
use Rattle.history_theorems.specs.Judged.{Gives, JudgedBy}
use Rattle.history_theorems.proofs.Stands.{Stands}

-- what a call gave, with its result
abbrev pub given_in : Result → Given
given_in r = given_by r.outcome r.lent.message

-- the invariant is kept, and what was given is as the number says
pub record Said (e : Event) (y : Standing) (n : ℕ) (r : Result) : Type 0 where
  pub stands : Stands r.state r.lent.journal (when_given (given_in r) e y)
  pub is_judged : (given_in r ≡ history.refused 1 → ⊥) → (given_in r ≡ history.refused 2 → ⊥) → JudgedBy n e y (given_in r)

-- rules 1 and 2, then these: what holds of the result, by how it is refused, or of what is done
pub judged_as : (P : Result → Type 0) (s : State) (lent : Lent) (qs : List Rule) (done : Result) → P (refused 1 s lent) → P (refused 2 s lent)
    → (Fit s lent → (first_broken qs ≡ 0 → ⊥) → P (refused (first_broken qs) s lent))
    → (first_broken qs ≡ 0 → first_broken (rules12 s lent ++ qs) ≡ 0 → Fit s lent → P done)
    → P (judged (first_broken (rules12 s lent ++ qs)) s lent done)
unfolding first_broken judged
judged_as P s lent qs done one two f g = go (too_short s lent) (keeps_rule2 s (entries_of s.entries lent.journal)) refl refl
  where
    go : (a b : Bool) → too_short s lent ≡ a → keeps_rule2 s (entries_of s.entries lent.journal) ≡ b
        → P (cond (eqb (cond a 1 (cond (not b) 2 (first_broken qs))) 0) done (refused (cond a 1 (cond (not b) 2 (first_broken qs))) s lent))
    go true b p q = one
    go false false p q = two
    go false true p q = last (eqb (first_broken qs) 0) refl
      where
        fits : Fit s lent
        fits = fit s lent (rw (p, q))

        last : (t : Bool) → eqb (first_broken qs) 0 ≡ t → P (cond t done (refused (first_broken qs) s lent))
        last true t = let z = eqb-true (first_broken qs) 0 t in g z (rw (p, q) z) fits
        last false t = f fits (eqb-false (first_broken qs) 0 t)

module _ (e : Event) (y : Standing) (n : ℕ) where
  -- a call that goes
  pub goes : (r : Result) → n ≡ 0 → Stands r.state r.lent.journal (when_given (given_in r) e y) → Gives e y (given_in r) → Said e y n r
  goes r z h g = record { stands = h; is_judged = λ p q. record { refuses = λ f. absurd (f z); gives = λ u. g } }

  module _ (s : State) (lent : Lent) (h : Stands s lent.journal y) where
    -- one that is refused by its number
    pub refused-said : (k : ℕ) → JudgedBy n e y (history.refused k) → Said e y n (refused k s lent)
    refused-said k g = record { stands = h; is_judged = λ p q. g }

    -- rules 1 and 2, then these
    pub judged-said : (qs : List Rule) (done : Result) → ((first_broken qs ≡ 0 → ⊥) → JudgedBy n e y (history.refused (first_broken qs)))
        → (first_broken qs ≡ 0 → first_broken (rules12 s lent ++ qs) ≡ 0 → Fit s lent → Said e y n done)
        → Said e y n (judged (first_broken (rules12 s lent ++ qs)) s lent done)
    judged-said qs done f g =
        judged_as (Said e y n) s lent qs done (record { stands = h; is_judged = λ u v. absurd (u refl) })
        (record { stands = h; is_judged = λ u v. absurd (v refl) }) (λ fits z. refused-said (first_broken qs) (f z)) g

-- the number of the rules is that of the history
pub same_number : (e : Event) (y : Standing) (n k : ℕ) → k ≡ n → (k ≡ 0 → ⊥) → JudgedBy n e y (history.refused k)
same_number e y n k p f = record { refuses = λ g. ap history.refused p; gives = λ z. absurd (f (p ∙ z)) }
