-- The calls sign on and send reversal keep rules 1 and 2, and so does the answer to a sign-on.
use mathlib.Core.Path.{◌≡◌, refl}
use mathlib.Core.Bool.{Bool, true, false, cond, ◌&&◌, or-true, and-eq-true_iff}
use Prim.Native.Nat.{◌≤◌}
use lib.Dec.{eqb}
use Rattle.numbers.specs.Limits.{last_number}
use Rattle.numbers.specs.Numbers.{within, following, is_number}
use Rattle.field.specs.Bitmap.{names}
use Rattle.message.specs.declared.Message.{Message}
use Rattle.writing.specs.Writing.{message_bytes}
use Rattle.numbers.specs.declared.Batch.{Batch}
use Rattle.numbers.specs.declared.Trace.{Trace}
use Rattle.numbers.proofs.Bounds.{within-bounds, within_yes}
use Rattle.journal.specs.Journal.{entries_of, taken}
use Rattle.traces.proofs.Free.{taken_range, following_range}
use Rattle.state.specs.declared.Phase.{Phase}
use Rattle.state.specs.declared.Phase.TheVariants.{Resting, Waiting, Pending, Settling, Uploading}
use Rattle.state.specs.declared.Settings.{Settings}
use Rattle.state.specs.declared.State.{State}
use Rattle.state.specs.State.{no_sign_on, in_phase, with_next, waits}
use Rattle.state.specs.Calls.{Lent}
use Rattle.checks.specs.Checks.{first_broken}
use Rattle.checks.proofs.Choices.{passed}
use Rattle.state_rules.specs.StateRules.{sign_on_kept}
use Rattle.state_rules.proofs.Holds.{no_sign_on_lem}
use Rattle.rules.proofs.InOrder.{Fit}
use Rattle.answer_match.specs.Match.{repeats, approves, batch_in, sign_on_holds, is_sign_on_answer}
use Rattle.outgoing.specs.Outgoing.{reversal_message}
use Rattle.batch_messages.specs.BatchMessages.{sign_on_message}
use Rattle.call_definitions.specs.SignOn.{sign_on_rules, sign_on}
use Rattle.call_definitions.proofs.Quietly.{idle}
use Rattle.effect_definitions.specs.StateEffects.{adopts, asks_sign_on, sign_on_ended, on, on_sign_on, again}
use Rattle.call_definitions.specs.SendReversal.{send_from, send_reversal_rules, send_reversal}
use Rattle.call_theorems.proofs.Refusing.{Fits, judged-fits, sent-fits}
use Rattle.call_theorems.proofs.Phases.{next_fit, sign_on_fit, signed_fit, again_fit}

-- a trace in its range is awaited over a phase that is no wait
over_no_wait : (p : Phase) (x : Trace) → waits p ≡ false → 1 ≤ x.0 → x.0 ≤ last_number → sign_on_kept p x ≡ true
unfolding sign_on_kept
over_no_wait p x w a b = rw (w, within_yes 1 x.0 last_number a b) (or-true (eqb x.0 0))

pub sign_on-fits : (s : State) (lent : Lent) → Fit s lent → Fits (sign_on s lent)
unfolding sign_on
sign_on-fits s lent h =
    let es = entries_of s.entries lent.journal in
    let x : Trace = record { 0 = taken es s.next.0 } in
    let t = taken_range es s.next.0 h.order.state.next_least h.order.state.next_most in
    let n = following_range x.0 in
    let next : Trace = record { 0 = following x.0 } in
    let rs = sign_on_rules s lent in
    judged-fits (first_broken rs) s lent _ h
    (λ z. sent-fits (message_bytes (sign_on_message s.settings s.batch x)) (asks_sign_on s x) lent
    (sign_on_fit (with_next next s) lent x (over_no_wait s.phase x (idle s (passed 11 rs refl z)).0 t.0 t.1)
    (next_fit s lent next n.0 n.1 h)))

-- a sign-on ends
pub ended_fit : (s : State) (lent : Lent) → Fit s lent → Fit (sign_on_ended s) lent
ended_fit s lent h = sign_on_fit s lent no_sign_on (no_sign_on_lem s.phase no_sign_on refl) h

-- a batch number in its range, adopted or not
on_fit : (b : Bool) (batch : Batch) (s : State) (lent : Lent) → Fit s lent → within 1 batch.0 last_number ≡ true
    → Fit (on (cond b batch s.batch) s) lent
on_fit true batch s lent h w =
    let r = within-bounds 1 batch.0 last_number w in
    signed_fit s lent true batch r.0 r.1 h
on_fit false batch s lent h w = signed_fit s lent true s.batch h.order.state.batch_least h.order.state.batch_most h

-- the batch number that a 00 to a sign-on brings is in its range
brings_number : (x : Settings) (trace : Trace) (a : Message) → is_sign_on_answer x trace a ≡ true → approves a ≡ true → is_number (batch_in a).0 ≡ true
unfolding is_sign_on_answer sign_on_holds
brings_number x trace a h e =
    let t = ((and-eq-true_iff (repeats x 0x0800 trace a && names a.bitmap 39) _).0 h).1 in
    ((and-eq-true_iff (is_number (batch_in a).0) (names a.bitmap 62)).0 (rw e at t)).0

pub answered-sign_on : (a : Message) (s : State) (lent : Lent) → Fit s lent → is_sign_on_answer s.settings s.sign_on a ≡ true
    → Fit (on_sign_on a s) lent
unfolding on_sign_on
answered-sign_on a s lent h e = go (approves a) refl
  where
    go : (b : Bool) → approves a ≡ b → Fit (cond b (on (cond (adopts s) (batch_in a) s.batch) (sign_on_ended s)) (sign_on_ended s)) lent
    go true y = on_fit (adopts s) (batch_in a) (sign_on_ended s) lent (ended_fit s lent h) (brings_number s.settings s.sign_on a e y)
    go false y = ended_fit s lent h

send_from_lem : (p : Phase) (s : State) (lent : Lent) → s.sign_on.0 ≡ 0 → Fit (in_phase p s) lent → Fits (send_from p (in_phase p s) lent)
send_from_lem Resting s lent z h = h
send_from_lem (Waiting a) s lent z h = h
send_from_lem (Pending v) s lent z h =
    sent-fits (message_bytes (reversal_message s.settings s.batch s.chip (again v))) _ lent (again_fit s lent v z h)
send_from_lem Settling s lent z h = h
send_from_lem Uploading s lent z h = h

pub send_reversal-fits : (s : State) (lent : Lent) → Fit s lent → Fits (send_reversal s lent)
unfolding send_reversal
send_reversal-fits s lent h =
    let rs = send_reversal_rules s lent in
    judged-fits (first_broken rs) s lent (send_from s.phase s lent) h
    (λ z. send_from_lem s.phase s lent (idle s (passed 11 rs refl z)).1 h)
