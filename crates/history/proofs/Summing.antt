-- A settlement that leaves carries the journal's five sums.
use Rattle.std.specs.Prelude.{Some}
use mathlib.Core.Path.{◌≡◌, refl, ap, sym, ◌∙◌}
use mathlib.Core.List.{List, ◌++◌}
use mathlib.Core.Bool.{Bool, true, false, cond}
use Prim.Native.Nat.{ℕ}
use native.Mathlib.Omega.{arith}
use lib.Dec.{eqb}
use lib.ListN.{length, take, drop}
use borrow.Author.Tests.{eqb-true}
use Rattle.kinds.specs.Sums.{together}
use Rattle.kinds.specs.declared.sums.Sums.{Sums}
use Rattle.message.specs.declared.Message.{Message}
use Rattle.writing.specs.Writing.{message_bytes}
use Rattle.numbers.specs.declared.Trace.{Trace}
use Rattle.numbers.specs.declared.Batch.{Batch}
use Rattle.entry.specs.declared.Entry.{Entry}
use Rattle.journal.specs.Journal.{entries_of, batch_sums, taken}
use Rattle.journal.specs.Reordered.{Reordered}
use Rattle.journal.proofs.Reordered.{totals_in_any_order}
use Rattle.kinds.specs.declared.Totals.{Totals}
use Rattle.state.specs.declared.Outcome.TheVariants.{Send}
use Rattle.state.specs.declared.Settings.{Settings}
use Rattle.state.specs.declared.State.{State}
use Rattle.state.specs.Calls.{Lent, judged, refused}
use Rattle.checks.specs.Checks.{first_broken}
use Rattle.batch_messages.specs.BatchMessages.{settlement_message}
use Rattle.call_definitions.specs.Settle.{settle_rules, settle_now, settle}
use Rattle.call_definitions.specs.Shapes.{SettingsShaped}
use Rattle.call_definitions.proofs.Quietly.{fit_first}
use Rattle.history.specs.Words.{message_in}
use Rattle.history.specs.Summing.{CarriesSums, SettlementCarriesSums}
use Rattle.history.proofs.Sent.{Settles, settlement_settles}
use Rattle.history.proofs.Settles.{shaped-held, sayable}

carries : {x : Settings} {batch : Batch} {trace : Trace} {t : Totals} {m : Message} {y : Sums} → Settles x batch trace t m → t ≡ together y
    → CarriesSums m y
carries w h =
    record {
      debit_amount = w.debit_amount ∙ ap (λ (t : Totals). Some t.debit) h;
      debit_count = w.debit_count ∙ ap (λ (t : Totals). Some t.debits) h;
      credit_amount = w.credit_amount ∙ ap (λ (t : Totals). Some t.credit) h;
      credit_count = w.credit_count ∙ ap (λ (t : Totals). Some t.credits) h;
    }

module _ (s : State) (lent : Lent) (fs : List Entry) (shaped : SettingsShaped s.settings)
    (r : Reordered (entries_of s.entries lent.journal) fs) where
  trace : Trace
  trace = record { 0 = taken (entries_of s.entries lent.journal) s.next.0 }

  bytes : List ℕ
  bytes = message_bytes (settlement_message s.settings s.batch trace s.totals)

  number : ℕ
  number = first_broken (settle_rules s lent)

  leaves : number ≡ 0 → (n : ℕ) → length bytes ≡ n → CarriesSums (message_in (take n (bytes ++ drop (length bytes) lent.message))) (batch_sums fs)
  unfolding trace bytes number
  leaves z n e =
      let f = fit_first s lent _ _ refl z in
      rw (← e)
      (carries
      (settlement_settles s.settings s.batch lent.message f.message_room f.order.state.batch_most trace s.totals
      (shaped-held s lent shaped f) (sayable s lent f))
      (f.order.state.totals ∙ sym (totals_in_any_order (entries_of s.entries lent.journal) fs r)))

  carries_if : (b : Bool) → eqb number 0 ≡ b → (n : ℕ) → (cond b (settle_now s trace lent) (refused number s lent)).outcome ≡ Send n
      → CarriesSums (message_in (take n (cond b (settle_now s trace lent) (refused number s lent)).lent.message)) (batch_sums fs)
  unfolding trace bytes
  carries_if true q n e = leaves (eqb-true number 0 q) n (let z : length bytes ≡ n = cc in z)
  carries_if false q n e = let z : ◌≡◌ {A = ℕ} 0 1 = cc in absurd (omega arith)

pub settlement_carries-sums : SettlementCarriesSums
unfolding settle judged trace number
settlement_carries-sums s lent fs n shaped e r =
    carries_if s lent fs shaped r (eqb (number s lent fs shaped r) 0) refl n e
