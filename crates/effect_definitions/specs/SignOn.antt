-- Document 02, request 3: what is proved of a sign-on, by what it leaves.
use Rattle.std.specs.Prelude.{◌≡◌, Bool, true, false, List, ℕ}
use Rattle.numbers.specs.Numbers.{following}
use Rattle.numbers.specs.declared.Trace.{Trace}
use Rattle.message.specs.declared.Message.{Message}
use Rattle.answer_match.specs.Match.{approves, batch_in}
use Rattle.state.specs.State.{signs_on, is_resting}
use Rattle.state.specs.declared.State.{State}
use Rattle.effect_definitions.specs.StateEffects.{asks_sign_on, on_sign_on}
use Rattle.effect_definitions.specs.JournalEffects.{Changed, changed, unanswered, heard}

-- the phase is what it was, with every sending of a reversal; nothing is counted, summed, entered or marked, and no chip is forgotten
pub record LeavesAll (s : State) (j : List ℕ) (c : Changed) : Type 0 where
  pub phase_stays : c.state.phase ≡ s.phase
  pub counts_stay : c.state.counts ≡ s.counts
  pub totals_stay : c.state.totals ≡ s.totals
  pub entries_stay : c.state.entries ≡ s.entries
  pub chip_stays : c.state.chip ≡ s.chip
  pub journal_stays : c.journal ≡ j

-- a sign-on that leaves takes a new trace, and leaves all else
abbrev pub AskingLeavesAll : Type 0
AskingLeavesAll = (s : State) (x : Trace) (j : List ℕ)
    → LeavesAll s j (changed (asks_sign_on s x) j) × ((asks_sign_on s x).sign_on ≡ x) × ((asks_sign_on s x).next.0 ≡ following x.0)

-- however it ends, by any answer or by silence, it leaves all else, and is no longer awaited
abbrev pub EndingLeavesAll : Type 0
EndingLeavesAll = (good : Bool) (a : Message) (s : State) (j : List ℕ) → signs_on s ≡ true
    → (LeavesAll s j (heard good a s j) × (signs_on (heard good a s j).state ≡ false))
    × (LeavesAll s j (unanswered s j) × (signs_on (unanswered s j).state ≡ false))

-- only 00 signs on, and no other answer signs off, nor silence
abbrev pub OnlyApprovalSignsOn : Type 0
OnlyApprovalSignsOn = (good : Bool) (a : Message) (s : State) (j : List ℕ) → signs_on s ≡ true
    → (approves a ≡ true → (heard good a s j).state.signed_on ≡ true)
    × (approves a ≡ false → (heard good a s j).state.signed_on ≡ s.signed_on)
    × ((unanswered s j).state.signed_on ≡ s.signed_on)

-- the batch number that a 00 brings is adopted where the phase under the sign-on is resting and no card request has left in this batch
abbrev pub AdoptedAtRest : Type 0
AdoptedAtRest = (a : Message) (s : State) → approves a ≡ true → is_resting s ≡ true → s.counts.sent ≡ 0 → (on_sign_on a s).batch ≡ batch_in a

-- and nowhere else: not over a pending reversal, while settling or while uploading
abbrev pub KeptUnlessResting : Type 0
KeptUnlessResting = (a : Message) (s : State) → is_resting s ≡ false → (on_sign_on a s).batch ≡ s.batch
