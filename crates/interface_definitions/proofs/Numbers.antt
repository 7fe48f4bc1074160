-- The number by which each call is refused: one of its rules' numbers, or the reading's own.
use Rattle.std.specs.Prelude.{Some, None, Option}
use mathlib.Core.Path.{◌≡◌, refl, sym}
use mathlib.Core.List.{List, [], ◌∷◌}
use mathlib.Core.Bool.{Bool, true, false, cond, ◌&&◌, and-eq-true_iff, true≢false}
use Prim.Native.Nat.{ℕ, zero, suc}
use native.Mathlib.Omega.{arith}
use lib.Dec.{leb, eqb}
use borrow.Author.Tests.{leb-true, eqb-false}
use Rattle.checks.specs.Checks.{Rule, first_broken}
use Rattle.field.specs.Table.{among}
use Rattle.field.proofs.Formats.{among_below}
use Rattle.message.specs.declared.Message.{Message}
use Rattle.reading.specs.Reading.{read_message, ReadOutcome as Judgement, Read, Refused as Unread}
use Rattle.message_theorems.specs.Order.{reading_rules}
use Rattle.message_theorems.proofs.Order.{read-judged_by}
use Rattle.journal.specs.Journal.{entries_of, next_due}
use Rattle.state.specs.declared.State.{State}
use Rattle.state.specs.declared.Phase.{Phase}
use Rattle.state.specs.declared.Phase.TheVariants.{Resting, Waiting, Pending, Settling, Uploading}
use Rattle.state.specs.declared.Outcome.{Outcome}
use Rattle.state.specs.declared.Outcome.TheVariants.{Send, Quiet, Refused}
use Rattle.state.specs.Calls.{Lent, Result, judged, refused}
use Rattle.rules.specs.Rules.{rules12, due}
use Rattle.call_definitions.specs.SignOn.{sign_on_rules, sign_on}
use Rattle.call_definitions.specs.Start.{original_of, entry_of, start_rules, start}
use Rattle.desk.specs.declared.Desk.{Desk}
use Rattle.call_definitions.specs.Answer.{no_answer_rules, no_answer, power_returned, card_rules, card_agrees, card_declines, answer_rules, read_in, answer}
use Rattle.call_definitions.specs.SendReversal.{send_reversal_rules, send_from, send_reversal}
use Rattle.call_definitions.specs.Settle.{settle_rules, settle}
use Rattle.call_definitions.specs.SendNextUpload.{send_next_upload_rules, sends_next, upload_from, send_next_upload}
use Rattle.call_definitions.specs.Events.{Event, call, sign_on_event, starts, answers, no_answer_event, power_returned_event, card_agrees_event, card_declines_event, send_reversal_event, settles, send_next_upload_event}
use Rattle.interface_definitions.specs.Theorems.{last, Numbered, NumbersApart}

-- an outcome that is no refusal, or is one by such a number
abbrev Apart : Outcome → Type 0
Apart (Send k) = Unit {0}
Apart Quiet = Unit {0}
Apart (Refused n) = Numbered n

-- rules of such numbers
abbrev listed : List Rule → Bool
listed [] = true
listed (r ∷ rs) = leb 1 r.number && leb r.number last && listed rs

first-listed : (rs : List Rule) → listed rs ≡ true → (first_broken rs ≡ 0 → ⊥) → Numbered (first_broken rs)
unfolding first_broken
first-listed [] w z = absurd (z refl)
first-listed (r ∷ rs) w z =
    let a = (and-eq-true_iff (leb 1 r.number && leb r.number last) (listed rs)).0 w in
    let k = (and-eq-true_iff (leb 1 r.number) (leb r.number last)).0 a.0 in
    go r.broken (leb-true 1 r.number k.0, leb-true r.number last k.1) (first-listed rs a.1) z
  where
    go : (b : Bool) → Numbered r.number → ((first_broken rs ≡ 0 → ⊥) → Numbered (first_broken rs))
        → (cond b r.number (first_broken rs) ≡ 0 → ⊥) → Numbered (cond b r.number (first_broken rs))
    go true h k z = h
    go false h k z = k z

module _ (s : State) (lent : Lent) where
  judged-apart : (rs : List Rule) (done : Result) → listed rs ≡ true → Apart done.outcome → Apart (judged (first_broken rs) s lent done).outcome
  unfolding judged
  judged-apart rs done w h = go (eqb (first_broken rs) 0) refl
    where
      go : (b : Bool) → eqb (first_broken rs) 0 ≡ b → Apart (cond b done (refused (first_broken rs) s lent)).outcome
      go true e = h
      go false e = first-listed rs w (eqb-false (first_broken rs) 0 e)

  -- bytes that do not read are refused by a number of the reading
  reading_numbered : (n : ℕ) → among n reading_rules ≡ true → Numbered n
  reading_numbered zero h = absurd (true≢false (sym h))
  reading_numbered (suc n) h = (omega arith, omega (arith, among_below (suc n) 25 reading_rules h refl))

  read-apart : (o : Judgement) (good : Bool) (a : Message) → ((n : ℕ) → o ≡ Unread n → among n reading_rules ≡ true)
      → Apart (read_in o good a s lent).outcome
  read-apart Read good a h = judged-apart (answer_rules a s lent.journal) _ refl tt
  read-apart (Unread n) good a h = reading_numbered n (h n refl)

  send_apart : (p : Phase) → Apart (send_from p s lent).outcome
  send_apart Resting = tt
  send_apart (Waiting w) = tt
  send_apart (Pending v) = tt
  send_apart Settling = tt
  send_apart Uploading = tt

  next-apart : (f : Option ℕ) → Apart (sends_next f s lent).outcome
  next-apart (Some i) = tt
  next-apart None = tt

  upload-apart : (p : Phase) → Apart (upload_from p s lent).outcome
  upload-apart Resting = tt
  upload-apart (Waiting w) = tt
  upload-apart (Pending v) = tt
  upload-apart Settling = tt
  upload-apart Uploading = next-apart (next_due (due Uploading) (entries_of s.entries lent.journal))

  start-apart : (d : Desk) (b : List ℕ) → Apart (start d b s lent).outcome
  unfolding start
  start-apart d b =
      let es = entries_of s.entries lent.journal in
      judged-apart (start_rules d b s es (entry_of (original_of d es) es) lent) _ refl tt

  call-apart : (e : Event) → Apart (call e s lent).outcome
  unfolding sign_on answer no_answer power_returned card_agrees card_declines send_reversal settle send_next_upload
  call-apart sign_on_event = judged-apart (sign_on_rules s lent) _ refl tt
  call-apart (starts d b) = start-apart d b
  call-apart (answers b good) =
      judged-apart (rules12 s lent) _ refl (read-apart (read_message b).outcome good (read_message b).message (read-judged_by b))
  call-apart no_answer_event = judged-apart (no_answer_rules s lent) _ refl tt
  call-apart power_returned_event = judged-apart (rules12 s lent) _ refl tt
  call-apart card_agrees_event = judged-apart (card_rules s lent) _ refl tt
  call-apart card_declines_event = judged-apart (card_rules s lent) _ refl tt
  call-apart send_reversal_event = judged-apart (send_reversal_rules s lent) _ refl (send_apart s.phase)
  call-apart settles = judged-apart (settle_rules s lent) _ refl tt
  call-apart send_next_upload_event = judged-apart (send_next_upload_rules s lent) _ refl (upload-apart s.phase)

pub numbers_apart : NumbersApart
numbers_apart e s lent n h = rw h at (call-apart s lent e)
