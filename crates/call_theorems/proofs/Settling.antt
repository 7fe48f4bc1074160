-- The call settle keeps rules 1 and 2.
use mathlib.Core.Path.{◌≡◌, refl}
use mathlib.Core.Bool.{false, true≢false}
use Prim.Native.Nat.{◌≤◌}
use Rattle.numbers.specs.Limits.{last_number}
use Rattle.numbers.specs.Numbers.{following}
use Rattle.writing.specs.Writing.{message_bytes}
use Rattle.numbers.specs.declared.Trace.{Trace}
use Rattle.journal.specs.Journal.{entries_of, taken}
use Rattle.traces.proofs.Free.{taken_range, following_range}
use Rattle.state.specs.declared.Awaited.TheVariants as awaited
use Rattle.state.specs.declared.Phase.{Phase}
use Rattle.state.specs.declared.Phase.TheVariants.{Resting, Waiting, Pending, Settling, Uploading}
use Rattle.state.specs.declared.State.{State}
use Rattle.state.specs.State.{in_phase, waits, pends, uploads}
use Rattle.state.specs.Calls.{Lent}
use Rattle.checks.specs.Checks.{first_broken}
use Rattle.checks.proofs.Choices.{passed}
use Rattle.state_rules.proofs.Holds.{chip_stays}
use Rattle.rules.proofs.InOrder.{Fit}
use Rattle.call_definitions.specs.Settle.{settle_rules, settle}
use Rattle.call_definitions.proofs.Quietly.{idle}
use Rattle.batch_messages.specs.BatchMessages.{settlement_message}
use Rattle.effect_definitions.specs.StateEffects.{settles}
use Rattle.numbers.proofs.Bounds.{within_yes}
use Rattle.call_theorems.proofs.Refusing.{Fits, judged-fits, sent-fits}
use Rattle.call_theorems.proofs.Phases.{moved, next_fit}

-- a settlement leaves a terminal that rests or settles; rules 11, 12 and 13 leave no other phase
settles-from : (p : Phase) → waits p ≡ false → pends p ≡ false → uploads p ≡ false
    → (s : State) (lent : Lent) (x : Trace) → 1 ≤ x.0 → x.0 ≤ last_number → s.sign_on.0 ≡ 0 → Fit (in_phase p s) lent
    → Fit (in_phase (Waiting (awaited.Settlement x)) s) lent
settles-from Resting w v u s lent x a b z h =
    moved (Waiting (awaited.Settlement x)) s.chip s.counts (in_phase Resting s) lent h
    (record {
      sent_same = refl;
      approved_same = refl;
      phase_form = within_yes 1 x.0 last_number a b;
      chip = chip_stays Resting (Waiting (awaited.Settlement x)) s.chip refl refl h.order.state.chip;
      journal = h.order.journal;
      balance = h.order.state.balance;
      phase_kept = refl;
      alone = z;
    })
settles-from (Waiting y) w v u s lent x a b z h = absurd (true≢false w)
settles-from (Pending r) w v u s lent x a b z h = absurd (true≢false v)
settles-from Settling w v u s lent x a b z h =
    moved (Waiting (awaited.Settlement x)) s.chip s.counts (in_phase Settling s) lent h
    (record {
      sent_same = refl;
      approved_same = refl;
      phase_form = within_yes 1 x.0 last_number a b;
      chip = chip_stays Settling (Waiting (awaited.Settlement x)) s.chip refl refl h.order.state.chip;
      journal = h.order.journal;
      balance = h.order.state.balance;
      phase_kept = refl;
      alone = z;
    })
settles-from Uploading w v u s lent x a b z h = absurd (true≢false u)

settled-fits : (s : State) (lent : Lent) (x : Trace) → 1 ≤ x.0 → x.0 ≤ last_number → Fit s lent
    → first_broken (settle_rules s lent) ≡ 0 → Fit (settles s x) lent
settled-fits s lent x a b h z =
    let rs = settle_rules s lent in
    let n = following_range x.0 in
    let i = idle s (passed 11 rs refl z) in
    next_fit (in_phase (Waiting (awaited.Settlement x)) s) lent (record { 0 = following x.0 }) n.0 n.1
    (settles-from s.phase i.0 (passed 12 rs refl z) (passed 13 rs refl z) s lent x a b i.1 h)

pub settle-fits : (s : State) (lent : Lent) → Fit s lent → Fits (settle s lent)
unfolding settle
settle-fits s lent h =
    let es = entries_of s.entries lent.journal in
    let x : Trace = record { 0 = taken es s.next.0 } in
    let t = taken_range es s.next.0 h.order.state.next_least h.order.state.next_most in
    judged-fits (first_broken (settle_rules s lent)) s lent _ h
    (λ z. sent-fits (message_bytes (settlement_message s.settings s.batch x s.totals)) (settles s x) lent
    (settled-fits s lent x t.0 t.1 h z))
