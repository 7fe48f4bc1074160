-- No entry without the card's consent where field 55 left.
use mathlib.Core.Path.{◌≡◌, refl, sym, ◌∙◌}
use mathlib.Core.Bool.{Bool, true, false, cond, not, true≢false, and-eq-true_iff}
use Prim.Native.Nat.{ℕ, ◌+◌, ◌≤◌, ◌<◌}
use native.Mathlib.Omega.{arith}
use Rattle.message.specs.declared.Message.{Message}
use Rattle.numbers.specs.declared.Batch.{Batch}
use Rattle.reading.specs.Reading.{read_message}
use Rattle.state.specs.declared.Awaited.{Awaited}
use Rattle.state.specs.declared.Awaited.TheVariants as awaited
use Rattle.state.specs.declared.Chip.{Chip}
use Rattle.state.specs.declared.Phase.{Phase}
use Rattle.state.specs.declared.Phase.TheVariants.{Resting, Waiting, Pending, Settling, Uploading}
use Rattle.state.specs.declared.Settings.{Settings}
use Rattle.state.specs.declared.State.{State}
use Rattle.state.specs.State.{has_chip}
use Rattle.state.specs.Calls.{lend}
use Rattle.call_definitions.specs.Events.{Event, sign_on_event, starts, answers, no_answer_event, power_returned_event, card_agrees_event, card_declines_event, send_reversal_event, settles, send_next_upload_event}
use Rattle.call_theorems.specs.JournalRest.{approves_in, is_approval}
use Rattle.call_theorems.proofs.Unchanged.{entries_by_approval}
use Rattle.history.specs.History.{Account, account}
use Rattle.history.specs.Demand.{runs, begun}
use Rattle.history.specs.Consent.{last_carries_chip, NoEntryWithoutConsent}
use Rattle.history.proofs.Tied.{AwaitedShape, Shape, Tied}
use Rattle.history.proofs.Theorem.{every_holds}

-- an answer that approves is for a request, which carries field 55 where there is a chip
approves_request : (p : Phase) (l : ℕ) (x : Settings) (batch : Batch) (c : Chip) (a : Account) (good : Bool) (m : Message)
    → approves_in p good m ≡ true → Shape l x batch c p a → last_carries_chip a.requests ≡ has_chip c
approves_request Resting l x batch c a good m e h = absurd (true≢false (sym e))
approves_request (Waiting w) l x batch c a good m e h = go w e h
  where
    go : (w : Awaited) → approves_in (Waiting w) good m ≡ true → AwaitedShape l x batch c w a → last_carries_chip a.requests ≡ has_chip c
    go (awaited.Request q) e d = rw d.latest.requests_are d.chip_is
    go (awaited.Reversal v) e d = absurd (true≢false (sym e))
    go (awaited.Settlement t) e d = absurd (true≢false (sym e))
    go (awaited.Item i) e d = absurd (true≢false (sym e))
    go (awaited.End t) e d = absurd (true≢false (sym e))
approves_request (Pending v) l x batch c a good m e h = absurd (true≢false (sym e))
approves_request Settling l x batch c a good m e h = absurd (true≢false (sym e))
approves_request Uploading l x batch c a good m e h = absurd (true≢false (sym e))

-- what adds an entry after a request with a chip is the card's consent
adds-entry : (e : Event) (l : ℕ) (s : State) (a : Account) → Tied l s a → last_carries_chip a.requests ≡ true
    → is_approval e s ≡ true → e ≡ card_agrees_event
adds-entry sign_on_event l s a h c y = absurd (true≢false (sym y))
adds-entry (starts d b) l s a h c y = absurd (true≢false (sym y))
adds-entry (answers b good) l s a h c y =
    let t = (and-eq-true_iff (approves_in s.phase good (read_message b).message) (not (has_chip s.chip))).0 y in
    let k = approves_request s.phase l s.settings s.batch s.chip a good (read_message b).message t.0 h.shape in
    let n : not true ≡ true = rw (sym k ∙ c) at t.1 in
    absurd (true≢false (sym n))
adds-entry no_answer_event l s a h c y = absurd (true≢false (sym y))
adds-entry power_returned_event l s a h c y = absurd (true≢false (sym y))
adds-entry card_agrees_event l s a h c y = refl
adds-entry card_declines_event l s a h c y = absurd (true≢false (sym y))
adds-entry send_reversal_event l s a h c y = absurd (true≢false (sym y))
adds-entry settles l s a h c y = absurd (true≢false (sym y))
adds-entry send_next_upload_event l s a h c y = absurd (true≢false (sym y))

one_more : (b : Bool) (n m : ℕ) → m ≤ n + cond b 1 0 → n < m → b ≡ true
one_more true n m h l = refl
one_more false n m h l = absurd (omega arith)

pub no_entry_without_consent : NoEntryWithoutConsent
no_entry_without_consent x j ts t w v g c =
    let r = runs ts (begun x j) in
    let h = every_holds x j ts w v in
    let k = entries_by_approval t.event r.state (lend r.journal t.message) in
    adds-entry t.event x.sendings r.state (account x.sendings r.history) h.tied c
    (one_more (is_approval t.event r.state) _ _ k g)
