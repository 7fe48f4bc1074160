-- What follows from rules 1 and 2 having passed, extracted once for the calls.
use Rattle.std.specs.Prelude.{Option}
use mathlib.Core.Path.{◌≡◌, refl}
use mathlib.Core.List.{List}
use mathlib.Core.Bool.{Bool, true, false, cond, not, ◌&&◌, ◌||◌, and-eq-true_iff, true≢false}
use Prim.Native.Nat.{ℕ, ◌*◌, ◌≤◌, ◌<◌}
use native.Mathlib.Omega.{arith}
use lib.Dec.{leb, ltb}
use lib.ListN.{length}
use borrow.Author.Tests.{leb-true, ltb-false}
use Rattle.numbers.specs.Limits.{largest_total}
use Rattle.message.specs.Message.{largest}
use Rattle.entry.specs.Entry.{entry_size}
use Rattle.entry.specs.Form.{in_form, keeps_voided, keeps_unmarked, keeps_resends, keeps_silent}
use Rattle.entry.specs.declared.Entry.{Entry}
use Rattle.journal.specs.Journal.{entries_of, every, totals_of, distinct, is_at}
use Rattle.journal.proofs.Entries.{length-entries_le}
use Rattle.journal.proofs.Sums.{debits-few, credits-few}
use Rattle.state.specs.declared.State.{State}
use Rattle.state.specs.Calls.{Lent}
use Rattle.checks.specs.Checks.{first_broken}
use Rattle.state.specs.State.{Bookable}
use Rattle.state_rules.proofs.Holds.{StateHolds, each, state-holds, room_for_one}
use Rattle.rules.specs.Rules.{too_short, journal_clauses, journal_kept, in_upload, due, awaited_item, phase_kept, keeps_rule2, rules12}
use Rattle.state_rules.specs.StateRules.{state_kept, sums_kept}

-- rule 2 of the journal
pub record JournalHolds (l : ℕ) (due : Entry → Bool) (uploading : Bool) (item : Option ℕ) (es : List Entry) : Type 0 where
  pub form : every (λ i e. in_form e) 0 es ≡ true
  pub apart : distinct es ≡ true
  pub voided : every (λ i e. keeps_voided e) 0 es ≡ true
  pub debit_most : (totals_of es).debit ≤ largest_total
  pub credit_most : (totals_of es).credit ≤ largest_total
  pub unmarked : every (λ i e. keeps_unmarked due uploading e) 0 es ≡ true
  pub resends : every (λ i e. keeps_resends l e) 0 es ≡ true
  pub silent : every (λ i e. keeps_silent l (is_at item i) e) 0 es ≡ true

-- rule 2 whole
pub record InOrder (s : State) (es : List Entry) : Type 0 where
  pub state : StateHolds s (totals_of es)
  pub journal : JournalHolds s.settings.sendings (due s.phase) (in_upload s.phase) (awaited_item s.phase) es
  pub phase_kept : phase_kept s.settings s.entries es s.phase ≡ true

pub journal-holds : (l : ℕ) (due : Entry → Bool) (uploading : Bool) (item : Option ℕ) (es : List Entry)
    → journal_kept l due uploading item es ≡ true → JournalHolds l due uploading item es
unfolding journal_kept sums_kept
journal-holds l due uploading item es e =
    let a = each (journal_clauses l due uploading item es) e in
    let t = (and-eq-true_iff (leb (totals_of es).debit largest_total) (leb (totals_of es).credit largest_total)).0 a.1.1.1.0 in
    record {
      form = a.0;
      apart = a.1.0;
      voided = a.1.1.0;
      debit_most = leb-true (totals_of es).debit largest_total t.0;
      credit_most = leb-true (totals_of es).credit largest_total t.1;
      unmarked = a.1.1.1.1.0;
      resends = a.1.1.1.1.1.0;
      silent = a.1.1.1.1.1.1.0;
    }

pub keeps_rule2_lem : (s : State) (es : List Entry) → keeps_rule2 s es ≡ true → InOrder s es
unfolding keeps_rule2
keeps_rule2_lem s es e =
    let journal = journal_kept s.settings.sendings (due s.phase) (in_upload s.phase) (awaited_item s.phase) es in
    let a = (and-eq-true_iff (state_kept s (totals_of es) && journal) (phase_kept s.settings s.entries es s.phase)).0 e in
    let b = (and-eq-true_iff (state_kept s (totals_of es)) journal).0 a.0 in
    record { state = state-holds s (totals_of es) b.0; journal = journal-holds _ _ _ _ es b.1; phase_kept = a.1 }

-- the buffers are long enough
pub record Fit (s : State) (lent : Lent) : Type 0 where
  pub message_room : largest ≤ length lent.message
  pub journal_room : entry_size * s.settings.limit ≤ length lent.journal
  pub order : InOrder s (entries_of s.entries lent.journal)

or-false : (a b : Bool) → (a || b) ≡ false → (a ≡ false) × (b ≡ false)
or-false true b e = absurd (true≢false e)
or-false false b e = (refl, e)

pub fit : (s : State) (lent : Lent) → first_broken (rules12 s lent) ≡ 0 → Fit s lent
unfolding first_broken too_short
fit s lent e = go (too_short s lent) (keeps_rule2 s (entries_of s.entries lent.journal)) refl refl e
  where
    go : (a b : Bool) → too_short s lent ≡ a → keeps_rule2 s (entries_of s.entries lent.journal) ≡ b → ◌≡◌ {A = ℕ} (cond a 1 (cond (not b) 2 0)) 0 → Fit s lent
    go true b p q e = absurd (omega arith)
    go false false p q e = absurd (omega arith)
    go false true p q e =
        let h = or-false (ltb (length lent.message) largest) (ltb (length lent.journal) (entry_size * s.settings.limit)) p in
        record {
          message_room = ltb-false (length lent.message) largest h.0;
          journal_room = ltb-false (length lent.journal) (entry_size * s.settings.limit) h.1;
          order = keeps_rule2_lem s (entries_of s.entries lent.journal) q;
        }

-- the totals stored are the journal's, so they have room for an amount of twelve digits
pub bookable : (s : State) (lent : Lent) → Fit s lent → (amount : ℕ) → amount < 1000000000000 → Bookable amount s
bookable s lent f amount small =
    let es = entries_of s.entries lent.journal in
    let n = length-entries_le s.entries lent.journal in
    let o = f.order.state in
    record {
      counts = room_for_one s o;
      totals =
          rw o.totals
          (record {
            debit_small = omega (arith, f.order.journal.debit_most);
            credit_small = omega (arith, f.order.journal.credit_most);
            debits_small = omega (arith, debits-few es, o.few, o.settings.limit_most);
            credits_small = omega (arith, credits-few es, o.few, o.settings.limit_most);
            amount_small = small;
          });
    }
