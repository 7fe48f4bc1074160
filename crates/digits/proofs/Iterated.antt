-- What `all` over the elements of a list says of the list's places.
use Rattle.std.proofs.Common.{◌≡◌, Bool, true, false, ℕ, List, Option, length, get_or, sym, ◌∙◌}
use Rattle.std.proofs.lemmas.Iterator.{YieldsList}
use Rattle.std.proofs.lemmas.Iterator.Search.{all_from_yields_List}
use Rattle.std.specs.Fn.{Called}
use Rattle.std.specs.Iterator.{YieldsThen}
use Rattle.std.specs.List.{FoldsTo}
use Rattle.std.specs.Option.{MatchOption}
use denote.Param.Members.{Mut}
use Rattle.digits.specs.Lists.{all}
use Rattle.digits.proofs.Lists.{all_of_list}

-- `s.iter().all(..)` answers whether the test holds at each place of s, and so does `all` on what a chain yields:
-- `all_places test _ _ _ c.all.ensures.ran (YieldsList-from_slice c.args.s.now cc) (λ x b q k. search (rules, tests))`
pub all_places : {S A F : Type 0} {steps : S → Option A → S → Type 0} {v : A → ℕ} {g : Mut F (A × Unit {0}) Bool} {s : S} {xs : List ℕ}
    (test : ℕ → Bool) (u : S) (f : F) (r : Bool)
    → (ys : List A) × (o : Option A) × (j : F) × YieldsThen steps s ys o u × FoldsTo (λ p x q. Called g p (x, tt) true q) f ys j
    × MatchOption o (r ≡ true) (λ x. (r ≡ false) × ((h : F) × Called g j (x, tt) false h))
    → YieldsList steps v s xs → ((x : A) (b : Bool) (q : F) → Called g f (x, tt) b q → (q ≡ f) × (b ≡ test (v x)))
    → r ≡ all (length xs) (λ i. test (get_or xs i 0))
all_places {xs} test u f r ran e k = all_from_yields_List test u f r ran e k ∙ sym (all_of_list test xs)
