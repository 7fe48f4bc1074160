-- What a call leaves: the invariant for the account with the call, and what demand 3 says of a message sent.
use mathlib.Core.Path.{◌≡◌, refl, sym, ◌∙◌}
use mathlib.Core.List.{List, ◌∷◌}
use mathlib.Core.Bool.{Bool, true, false, cond, not, ◌||◌, or-true, true≢false}
use Prim.Native.Nat.{ℕ}
use lib.Dec.{eqb}
use borrow.Author.Tests.{eqb-true}
use Rattle.message.specs.declared.Message.{Message}
use Rattle.numbers.specs.declared.Batch.{Batch}
use Rattle.state.specs.declared.Chip.{Chip}
use Rattle.state.specs.declared.Phase.{Phase}
use Rattle.state.specs.declared.Phase.TheVariants.{Resting, Waiting, Pending, Settling, Uploading}
use Rattle.state.specs.declared.Settings.{Settings}
use Rattle.state.specs.declared.State.{State}
use Rattle.state.specs.State.{waits, pends}
use Rattle.state.specs.Calls.{Lent, Result, refused, judged}
use Rattle.call_definitions.specs.Events.{Event}
use Rattle.history.specs.Words.{message_in, is_request, is_reversal, is_settlement, is_sign_on}
use Rattle.history.specs.History as history
use Rattle.history.specs.History.{Given, sent, Request, Account, asked, with_reversal, when_sent, when_given}
use Rattle.history.specs.Demand.{given_by, in_reversals, Carries}
use Rattle.history.specs.Consent.{consents}
use Rattle.history.proofs.Sent.{Typed, SignsOn}
use Rattle.history.proofs.Requests.{AllDone}
use Rattle.history.proofs.Tied.{Shape, Tied}

-- what demand 3 says of a message sent, with the account up to then
pub record LawfulMessage (m : Message) (a : Account) : Type 0 where
  pub settlements : is_settlement m ≡ true → Carries m a.requests
  pub no_request : is_request m ≡ true → in_reversals a.requests ≡ 0
  pub no_settlement : is_settlement m ≡ true → in_reversals a.requests ≡ 0
  pub reversals : is_reversal m ≡ true → in_reversals a.requests ≡ 1
  pub no_consent : is_request m ≡ true → consents a.requests ≡ 0
  pub no_consent_settling : is_settlement m ≡ true → consents a.requests ≡ 0
  pub alone : not (is_reversal m || is_sign_on m) ≡ true → in_reversals a.requests ≡ 0

-- of what a call gave
abbrev pub Lawful : Given → Account → Type 0
Lawful (sent b) a = LawfulMessage (message_in b) a
Lawful history.quiet a = Unit {0}
Lawful (history.refused n) a = Unit {0}

-- after a call
pub record After (l : ℕ) (e : Event) (a : Account) (r : Result) : Type 0 where
  pub tied : Tied l r.state (when_given l (given_by r.outcome r.lent.message) e a)
  pub lawful : Lawful (given_by r.outcome r.lent.message) a

pub refused-after : (l : ℕ) (e : Event) (a : Account) (n : ℕ) (s : State) (lent : Lent) → Tied l s a → After l e a (refused n s lent)
refused-after l e a n s lent h = record { tied = h; lawful = tt }

pub judged-after : (l : ℕ) (e : Event) (a : Account) (n : ℕ) (s : State) (lent : Lent) (done : Result) → Tied l s a
    → (n ≡ 0 → After l e a done) → After l e a (judged n s lent done)
unfolding judged
judged-after l e a n s lent done h d = go (eqb n 0) refl
  where
    go : (b : Bool) → eqb n 0 ≡ b → After l e a (cond b done (refused n s lent))
    go true e = d (eqb-true n 0 e)
    go false q = refused-after l e a n s lent h

-- a type that a message has not
pub no : {t : Bool} {A : Type 0} → t ≡ false → t ≡ true → A
no e h = absurd (true≢false (sym h ∙ e))

-- a message is sent, by its type
module _ (e : Event) (m : Message) (rs : List Request) where
  pub sent-request : Typed true false false false m → when_sent e m rs ≡ asked e m ∷ rs
  unfolding when_sent
  sent-request t = rw t.is_request

  pub sent-reversal : Typed false true false false m → when_sent e m rs ≡ with_reversal m rs
  unfolding when_sent
  sent-reversal t = rw (t.is_request, t.is_reversal)

  pub sent_other : (c d : Bool) → Typed false false c d m → when_sent e m rs ≡ rs
  unfolding when_sent
  sent_other c d t = rw (t.is_request, t.is_reversal)

-- a sign-on changes no request
pub sent-sign_on : (e : Event) (m : Message) (rs : List Request) → SignsOn m → when_sent e m rs ≡ rs
unfolding when_sent
sent-sign_on e m rs t = rw (t.is_request, t.is_reversal)

-- a reversal and a sign-on leave between a reversal's cause and its end
pub reversal-alone : (m : Message) {A : Type 0} → is_reversal m ≡ true → not (is_reversal m || is_sign_on m) ≡ true → A
reversal-alone m e h = absurd (true≢false (sym h ∙ rw e))

pub sign_on-alone : (m : Message) {A : Type 0} → is_sign_on m ≡ true → not (is_reversal m || is_sign_on m) ≡ true → A
sign_on-alone m e h = absurd (true≢false (sym h ∙ rw (e, or-true (is_reversal m))))

-- nothing is awaited and no reversal is pending: no request waits
pub idle : (l : ℕ) (x : Settings) (batch : Batch) (c : Chip) (a : Account) (p : Phase) → waits p ≡ false → pends p ≡ false
    → Shape l x batch c p a → AllDone l a.requests
idle l x batch c a Resting u v h = h
idle l x batch c a (Waiting w) u v h = absurd (true≢false u)
idle l x batch c a (Pending r) u v h = absurd (true≢false v)
idle l x batch c a Settling u v h = h
idle l x batch c a Uploading u v h = h
