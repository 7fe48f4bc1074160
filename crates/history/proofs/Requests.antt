-- Laws of the card requests of a batch: what has ended changes no more.
use mathlib.Core.Path.{◌≡◌, refl}
use mathlib.Core.List.{List, [], ◌∷◌}
use mathlib.Core.Bool.{Bool, false, true≢false}
use Prim.Native.Nat.{ℕ, ◌≤◌}
use Rattle.history.specs.History.{Fate, deciding, consenting, pending, out, ended, Request, when_silent, when_heard, when_agreed, when_declined, by_fate, is_waiting, in_reversal}
use Rattle.history.specs.Demand.{EachRequest, waiting, in_reversals}
use Rattle.history.specs.Consent.{is_consenting, consents}

-- a request that has ended, its reversal having been sent at most l times
pub record Done (l : ℕ) (r : Request) : Type 0 where
  pub has_ended : is_waiting r.fate ≡ false
  pub few : r.sendings ≤ l

abbrev pub AllDone : ℕ → List Request → Type 0
AllDone l rs = EachRequest (Done l) rs

-- what has ended changes no more
pub silent-ended : (l : ℕ) (f : Fate) (r : Request) → is_waiting f ≡ false → when_silent l f r ≡ r
unfolding when_silent
silent-ended l deciding r e = absurd (true≢false e)
silent-ended l consenting r e = absurd (true≢false e)
silent-ended l pending r e = absurd (true≢false e)
silent-ended l (out v) r e = absurd (true≢false e)
silent-ended l (ended x) r e = refl

pub heard-ended : (l : ℕ) (good : Bool) (b : List ℕ) (f : Fate) (r : Request) → is_waiting f ≡ false → when_heard l good b f r ≡ r
unfolding when_heard
heard-ended l good b deciding r e = absurd (true≢false e)
heard-ended l good b consenting r e = absurd (true≢false e)
heard-ended l good b pending r e = absurd (true≢false e)
heard-ended l good b (out v) r e = absurd (true≢false e)
heard-ended l good b (ended x) r e = refl

pub agreed-ended : (f : Fate) (r : Request) → is_waiting f ≡ false → when_agreed f r ≡ r
unfolding when_agreed
agreed-ended deciding r e = absurd (true≢false e)
agreed-ended consenting r e = absurd (true≢false e)
agreed-ended pending r e = absurd (true≢false e)
agreed-ended (out v) r e = absurd (true≢false e)
agreed-ended (ended x) r e = refl

pub declined-ended : (f : Fate) (r : Request) → is_waiting f ≡ false → when_declined f r ≡ r
unfolding when_declined
declined-ended deciding r e = absurd (true≢false e)
declined-ended consenting r e = absurd (true≢false e)
declined-ended pending r e = absurd (true≢false e)
declined-ended (out v) r e = absurd (true≢false e)
declined-ended (ended x) r e = refl

pub all_same : (f : Fate → Request → Request) → ((x : Fate) (r : Request) → is_waiting x ≡ false → f x r ≡ r)
    → (l : ℕ) (rs : List Request) → AllDone l rs → by_fate f rs ≡ rs
all_same f h l [] d = refl
all_same f h l (r ∷ rs) d = rw (h r.fate r d.0.has_ended, all_same f h l rs d.1)

pub silent-same : (k l : ℕ) (rs : List Request) → AllDone l rs → by_fate (when_silent k) rs ≡ rs
silent-same k l rs d = all_same (when_silent k) (silent-ended k) l rs d

pub heard-same : (k : ℕ) (good : Bool) (b : List ℕ) (l : ℕ) (rs : List Request) → AllDone l rs → by_fate (when_heard k good b) rs ≡ rs
heard-same k good b l rs d = all_same (when_heard k good b) (heard-ended k good b) l rs d

-- nothing waits where all have ended
pub none-waits : (l : ℕ) (rs : List Request) → AllDone l rs → waiting rs ≡ 0
none-waits l [] d = refl
none-waits l (r ∷ rs) d = rw (d.0.has_ended, none-waits l rs d.1)

not_reversing : (f : Fate) → is_waiting f ≡ false → in_reversal f ≡ false
not_reversing deciding e = refl
not_reversing consenting e = refl
not_reversing pending e = e
not_reversing (out v) e = e
not_reversing (ended x) e = refl

pub none-reversing : (l : ℕ) (rs : List Request) → AllDone l rs → in_reversals rs ≡ 0
none-reversing l [] d = refl
none-reversing l (r ∷ rs) d = rw (not_reversing r.fate d.0.has_ended, none-reversing l rs d.1)

not_consenting : (f : Fate) → is_waiting f ≡ false → is_consenting f ≡ false
not_consenting deciding e = refl
not_consenting consenting e = e
not_consenting pending e = refl
not_consenting (out v) e = refl
not_consenting (ended x) e = refl

pub none_consenting : (l : ℕ) (rs : List Request) → AllDone l rs → consents rs ≡ 0
none_consenting l [] d = refl
none_consenting l (r ∷ rs) d = rw (not_consenting r.fate d.0.has_ended, none_consenting l rs d.1)

-- no reversal was sent too often
pub all-few : (l : ℕ) (rs : List Request) → AllDone l rs → EachRequest (λ q. q.sendings ≤ l) rs
all-few l [] d = tt
all-few l (r ∷ rs) d = (d.0.few, all-few l rs d.1)
