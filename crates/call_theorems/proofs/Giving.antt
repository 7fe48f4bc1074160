-- L failed sendings give a reversal up.
use mathlib.Core.Path.{◌≡◌, refl, ap, ◌∙◌}
use mathlib.Core.Bool.{true, false}
use Prim.Native.Nat.{ℕ, zero, suc, ◌+◌, ◌≤◌, ◌<◌}
use native.Mathlib.Numerals.{add-one}
use native.Mathlib.Omega.{arith}
use lib.ListN.{length}
use Rattle.writing.specs.Writing.{message_bytes}
use Rattle.state.specs.declared.Reversal.{Reversal}
use Rattle.state.specs.declared.Phase.TheVariants.{Resting, Pending}
use Rattle.state.specs.State.{signs_on}
use Rattle.state.specs.Calls.{Result}
use Rattle.outgoing.specs.Outgoing.{reversal_message}
use Rattle.call_definitions.specs.SendReversal.{send_reversal}
use Rattle.effect_definitions.specs.StateEffects.{again}
use Rattle.call_theorems.specs.Ready.{Ready}
use Rattle.call_theorems.proofs.Back.{ready-fits}
use Rattle.call_theorems.specs.Facts.{silenced, failures, sent_times, GivenUp}
use Rattle.call_theorems.proofs.Failing.{Pends, sends, pends-again, gives_up, stays_ready}

-- after k failures of the reversal v from r: it pends, and settings and counts are as before
record Failed (k : ℕ) (v : Reversal) (r x : Result) : Type 0 where
  pends : Pends (sent_times k v) x.state x.lent
  most : x.state.settings.sendings ≡ r.state.settings.sendings
  given : x.state.counts.given_up ≡ r.state.counts.given_up

-- one failure more
abbrev next : Result → Result
next x = silenced (send_reversal x.state x.lent)

none-failed : (v : Reversal) (r : Result) → Ready r.state r.lent → r.state.signed_on ≡ true
    → r.state.phase ≡ Pending v → signs_on r.state ≡ false → v.sendings ≡ 0 → Failed 0 v r r
none-failed v r h o p a z = record { pends = record { ready = h; on = o; phase = p ∙ rw (← z); alone = a }; most = refl; given = refl }

one-failed : (k : ℕ) (v : Reversal) (r x : Result) → suc k < r.state.settings.sendings → Failed k v r x → Failed (suc k) v r (next x)
one-failed k v r x l f =
    let e = pends-again (sent_times k v) x.state x.lent f.pends (omega (arith, f.most)) in
    record {
      pends =
          record {
            ready = stays_ready (sent_times k v) x.state x.lent f.pends;
            on = rw e f.pends.on;
            phase = rw (e, add-one);
            alone = rw e f.pends.alone;
          };
      most = rw e f.most;
      given = rw e f.given;
    }

all-failed : (k : ℕ) (v : Reversal) (r : Result) → Failed 0 v r r → k < r.state.settings.sendings → Failed k v r (failures k r)
all-failed zero v r f l = f
all-failed (suc k) v r f l = one-failed k v r (failures k r) l (all-failed k v r f (omega arith))

-- after the last of l
record Ended (r x : Result) : Type 0 where
  free : x.state.phase ≡ Resting
  counted : x.state.counts.given_up ≡ r.state.counts.given_up + 1

last-failed : (k : ℕ) (v : Reversal) (r x : Result) → suc k ≡ r.state.settings.sendings → Failed k v r x → Ended r (next x)
last-failed k v r x l f =
    let e = gives_up (sent_times k v) x.state x.lent f.pends (omega (arith, f.most)) in
    record { free = rw e; counted = rw (e, f.given) }

ended : (l : ℕ) (v : Reversal) (r : Result) → l ≡ r.state.settings.sendings → 1 ≤ l → Failed 0 v r r → Ended r (failures l r)
ended zero v r e h f = absurd (omega arith)
ended (suc k) v r e h f = last-failed k v r (failures k r) e (all-failed k v r f (omega arith))

pub given_up : (r : Result) (v : Reversal) → Ready r.state r.lent → r.state.signed_on ≡ true
    → r.state.phase ≡ Pending v → signs_on r.state ≡ false → v.sendings ≡ 0 → GivenUp r v
given_up r v h o p a z =
    let none = none-failed v r h o p a z in
    let fits = ready-fits r.state r.lent h in
    let last = ended r.state.settings.sendings v r refl fits.order.state.settings.sendings_least none in
    record {
      leaves = λ k l.
          let x = failures k r in
          let f = all-failed k v r none l in (
            length (message_bytes (reversal_message x.state.settings x.state.batch x.state.chip (again (sent_times k v)))),
            ap (λ (y : Result). y.outcome) (sends (sent_times k v) x.state x.lent f.pends),
          );
      pending = λ k l. (all-failed k v r none l).pends.phase;
      free = last.free;
      counted = last.counted;
    }
