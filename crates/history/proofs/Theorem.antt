-- Demand 3, the stored sums, and that the card has the last word, for every settings value, every journal and message buffer lent, and every list of the ten
-- calls.
use mathlib.Core.Path.{◌≡◌, refl, ap, sym, subst}
use mathlib.Core.List.{List, [], ◌∷◌}
use mathlib.Core.Bool.{Bool, true, not, ◌||◌, true≢false}
use Prim.Native.Nat.{ℕ, ◌≤◌}
use Rattle.message.specs.declared.Message.{Message}
use Rattle.kinds.specs.declared.Totals.{Totals}
use Rattle.state.specs.declared.Settings.{Settings}
use Rattle.state.specs.Calls.{lend}
use Rattle.call_definitions.specs.Events.{call}
use Rattle.call_definitions.specs.Shapes.{SettingsShaped, EventShaped}
use Rattle.history.specs.Words.{message_in, is_request, is_reversal, is_settlement, is_sign_on}
use Rattle.history.specs.History.{Given, quiet, History, Request, Account, account, batch_of}
use Rattle.history.specs.Demand.{Invocation, Run, recorded, runs, begun, InvocationsShaped, Each, EachSent, EachRequest, in_reversals, Carries, Demand3For, Demand3}
use Rattle.history.specs.Consent.{consents, is_decline, DeclineIsReversed}
use Rattle.history.specs.Totals.{SumsOf, StoredSums}
use Rattle.history.proofs.Books.{request_sums, balanced, no_books}
use Rattle.history.proofs.Tied.{Tied, bounded}
use Rattle.history.proofs.After.{LawfulMessage, Lawful}
use Rattle.history.proofs.Events.{Signing, call-after, signing-after}
use Rattle.history.proofs.Declined.{Declined, declined-call}

-- what holds after each call
pub record Holds (l : ℕ) (r : Run) : Type 0 where
  pub tied : Tied l r.state (account l r.history)
  pub lawful : Each (λ c h. Lawful c.given (account l h)) r.history
  pub limited : Each (λ c h. EachRequest (λ q. q.sendings ≤ l) (batch_of l (c ∷ h))) r.history
  pub signing : Signing r.state (account l r.history)
  pub declined : Each (λ c h. Declined c.event c.given l (account l h)) r.history

begun-holds : (x : Settings) (j : List ℕ) → SettingsShaped x → Holds x.sendings (begun x j)
begun-holds x j w =
    record { tied = record { kept = record { sendings_set = refl; shaped = w; books = no_books }; shape = tt }; lawful = tt; limited = tt; signing = λ e. absurd (true≢false (sym e)); declined = tt }

one_holds : (l : ℕ) (t : Invocation) (r : Run) → EventShaped t.event → Holds l r
    → Holds l (recorded t r (call t.event r.state (lend r.journal t.message)))
one_holds l t r w h =
    let k = call-after t.event l r.state (lend r.journal t.message) (account l r.history) w h.tied h.signing in
    record {
      tied = k.tied;
      lawful = (k.lawful, h.lawful);
      limited = ((bounded k.tied).few, h.limited);
      signing = signing-after t.event l r.state (lend r.journal t.message) (account l r.history) h.tied h.signing;
      declined = (declined-call t.event _ l r.state (account l r.history) h.tied, h.declined);
    }

all_hold : (ts : List Invocation) (l : ℕ) (r : Run) → InvocationsShaped ts → Holds l r → Holds l (runs ts r)
all_hold [] l r w h = h
all_hold (t ∷ ts) l r w h = all_hold ts l _ w.1 (one_holds l t r w.0 h)

-- what holds of what a call gave holds of the message that it sent
of-sent : (l : ℕ) (p : Message → Bool) (P : Message → List Request → Type 0)
    → ((m : Message) (a : Account) → LawfulMessage m a → p m ≡ true → P m a.requests)
    → (h : History) → Each (λ c h. Lawful c.given (account l h)) h → EachSent l p P h
of-sent l p P f [] w = tt
of-sent l p P f (c ∷ h) w =
    (λ b e. f (message_in b) (account l h) (subst (λ (g : Given). Lawful g (account l h)) e w.0), of-sent l p P f h w.1)

stands : (l : ℕ) (r : Run) → Holds l r → Demand3For l r
stands l r h =
    record {
      settlements = of-sent l is_settlement Carries (λ m a w. w.settlements) r.history h.lawful;
      counts = h.tied.kept.books.counted;
      balance = balanced (batch_of l r.history);
      one_waits = (bounded h.tied).one_waits;
      no_request = of-sent l is_request (λ m rs. in_reversals rs ≡ 0) (λ m a w. w.no_request) r.history h.lawful;
      no_settlement = of-sent l is_settlement (λ m rs. in_reversals rs ≡ 0) (λ m a w. w.no_settlement) r.history h.lawful;
      alone =
          of-sent l (λ m. not (is_reversal m || is_sign_on m)) (λ m rs. in_reversals rs ≡ 0) (λ m a w. w.alone) r.history h.lawful;
      reversals = of-sent l is_reversal (λ m rs. in_reversals rs ≡ 1) (λ m a w. w.reversals) r.history h.lawful;
      limited = h.limited;
    }

pub every_holds : (x : Settings) (j : List ℕ) (ts : List Invocation) → SettingsShaped x → InvocationsShaped ts
    → Holds x.sendings (runs ts (begun x j))
every_holds x j ts w v = all_hold ts x.sendings (begun x j) v (begun-holds x j w)

pub demand3 : Demand3
demand3 x j ts w v = stands x.sendings (runs ts (begun x j)) (every_holds x j ts w v)

-- sums that are those of the requests
sums_of : {rs : List Request} {t : Totals} → t ≡ request_sums rs → SumsOf rs t
sums_of e =
    record {
      debit_amount = ap (λ (t : Totals). t.debit) e;
      debit_count = ap (λ (t : Totals). t.debits) e;
      credit_amount = ap (λ (t : Totals). t.credit) e;
      credit_count = ap (λ (t : Totals). t.credits) e;
    }

pub stored-sums : StoredSums
stored-sums x j ts w v = sums_of (every_holds x j ts w v).tied.kept.books.summed

declines : (l : ℕ) (h : History) → Each (λ c h. Declined c.event c.given l (account l h)) h
    → Each (λ c h. consents (batch_of l h) ≡ 1 → is_decline c.event ≡ true → c.given ≡ quiet → in_reversals (batch_of l (c ∷ h)) ≡ 1) h
declines l [] w = tt
declines l (c ∷ h) w = (w.0, declines l h w.1)

pub decline_is-reversed : DeclineIsReversed
decline_is-reversed x j ts w v =
    let r = runs ts (begun x j) in
    let l = x.sendings in
    let h = every_holds x j ts w v in
    let d = stands l r h in
    record {
      causes = declines l r.history h.declined;
      no_request = d.no_request;
      no_settlement = d.no_settlement;
      no_request_before = of-sent l is_request (λ m rs. consents rs ≡ 0) (λ m a w. w.no_consent) r.history h.lawful;
      no_settlement_before = of-sent l is_settlement (λ m rs. consents rs ≡ 0) (λ m a w. w.no_consent_settling) r.history h.lawful;
    }
