-- What is refused: by a first part of the rules, by a call.
use Rattle.std.specs.Prelude.{ℕ, Result, Ok, Err}
use Rattle.std.specs.Result.{IsErrAnd}
use mathlib.Core.Path.{◌≡◌, sym}
use mathlib.Core.List.{List, ◌++◌}
use mathlib.Core.Bool.{true≢false}
use Rattle.checks.specs.Checks.{Rule, first_broken, check_order}
use Rattle.checks.specs.Refusals.{number_of, refused_by}
use Rattle.checks.specs.declared.Refusal.{Refusal}
use Rattle.state.specs.declared.State.{State}
use Rattle.state.specs.Calls.{Lent, Result as Done, judged, refused}
use Rattle.state.proofs.Judged.{refuses}
use Rattle.checks.proofs.Refusals.{numbers_checked}
use Rattle.checks.proofs.Choices.{first_stops}

-- no refusal has the number 0
pub numbered_not_0 : (e : Refusal) → number_of e ≡ 0 → ⊥
unfolding check_order
numbered_not_0 e z = true≢false (sym (rw z at (numbers_checked e)))

-- what leaves by a `?` has the number of its refusal
pub leaves_by : (r : Result Unit Refusal) (e : Refusal) (n : ℕ) → IsErrAnd r (λ d. d ≡ e) → number_of e ≡ n → refused_by r ≡ n
leaves_by (Ok x) e n is h = absurd is
leaves_by (Err d) e n is h = rw is h

-- what one of the first rules refuses is refused by all
pub stops : (rs qs : List Rule) (r : Result Unit Refusal) (e : Refusal) → IsErrAnd r (λ d. d ≡ e) → number_of e ≡ first_broken rs
    → refused_by r ≡ first_broken (rs ++ qs)
stops rs qs r e is h = leaves_by r e (first_broken (rs ++ qs)) is (first_stops rs qs (number_of e) h (numbered_not_0 e))

-- a call that is refused
pub refuses_by : (why : Refusal) (n : ℕ) (s : State) (lent : Lent) (done : Done) → number_of why ≡ n
    → refused (number_of why) s lent ≡ judged n s lent done
refuses_by why n s lent done e = refuses (number_of why) n s lent done e (numbered_not_0 why)

-- by one of its first rules
pub first_refuses : (rs qs : List Rule) (why : Refusal) (s : State) (lent : Lent) (done : Done) → number_of why ≡ first_broken rs
    → refused (number_of why) s lent ≡ judged (first_broken (rs ++ qs)) s lent done
first_refuses rs qs why s lent done e =
    refuses_by why (first_broken (rs ++ qs)) s lent done (first_stops rs qs (number_of why) e (numbered_not_0 why))
