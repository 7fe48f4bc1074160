-- From a fresh terminal with settings in range and buffers large enough, no call is refused by rules 1 or 2.
use Rattle.std.specs.Prelude.{Some, None, Option}
use mathlib.Core.Path.{◌≡◌, refl}
use mathlib.Core.List.{List, [], ◌∷◌, ◌++◌}
use mathlib.Core.Bool.{Bool, true, false, cond, ◌&&◌, and-eq-true_iff}
use Prim.Native.Nat.{ℕ, ◌*◌, ◌≤◌}
use native.Mathlib.Omega.{arith}
use lib.Dec.{leb, eqb}
use lib.ListN.{length, drop}
use borrow.Author.Tests.{leb-true, eqb-false}
use Rattle.message.specs.Message.{largest}
use Rattle.message.specs.declared.Message.{Message}
use Rattle.reading.specs.Reading.{read_message, ReadOutcome as Judgement, Read, Refused as Unread}
use Rattle.message_theorems.specs.Order.{reading_rules}
use Rattle.message_theorems.proofs.Numbers.{among-each}
use Rattle.message_theorems.proofs.Order.{read-judged_by}
use Rattle.effect_definitions.specs.JournalEffects.{heard}
use Rattle.entry.specs.Entry.{entry_size}
use Rattle.kinds.specs.Sums.{together}
use Rattle.journal.specs.Journal.{entries_of, next_due, sums_of}
use Rattle.state.specs.State.{no_sign_on, fresh}
use Rattle.checks.specs.Checks.{Rule, first_broken}
use Rattle.state.specs.Calls.{Lent, lend, with_message, Result, judged, refused}
use Rattle.state.specs.declared.Outcome.{Outcome}
use Rattle.state.specs.declared.Outcome.TheVariants.{Send, Quiet, Refused}
use Rattle.state.specs.declared.Phase.{Phase}
use Rattle.state.specs.declared.Phase.TheVariants.{Resting, Waiting, Pending, Settling, Uploading}
use Rattle.state.specs.declared.Settings.{Settings}
use Rattle.state.specs.declared.State.{State}
use Rattle.rules.specs.Rules.{rules12, due}
use Rattle.state_rules.specs.StateRules.{settings_in_form}
use Rattle.rules.proofs.InOrder.{Fit}
use Rattle.state_rules.proofs.Holds.{settings_hold, no_chip_lem, no_sign_on_lem}
use Rattle.call_definitions.specs.SignOn.{sign_on_rules, sign_on}
use Rattle.call_definitions.specs.Start.{original_of, entry_of, start_rules, start}
use Rattle.call_definitions.specs.SendReversal.{send_reversal_rules, send_from, send_reversal}
use Rattle.call_definitions.specs.Settle.{settle_rules, settle}
use Rattle.call_definitions.specs.SendNextUpload.{send_next_upload_rules, sends_next, upload_from, send_next_upload}
use Rattle.call_definitions.specs.Answer.{quietly, no_answer_rules, no_answer, power_returned, card_rules, card_agrees, card_declines, answer_rules, answer_in, read_in, answer}
use Rattle.call_theorems.specs.Ready.{Ready}
use Rattle.call_theorems.proofs.Back.{ready-fits, fit_ready}
use Rattle.call_theorems.proofs.Keeping.{keeping}
use Rattle.call_definitions.specs.Events.{Event, sign_on_event, starts, answers, no_answer_event, power_returned_event, card_agrees_event, card_declines_event, send_reversal_event, settles, send_next_upload_event, call}
use Rattle.history.specs.History.{refused as declined, Call, History}
use Rattle.history.specs.Demand.{Invocation, Run, given_by, recorded, runs, begun, Each}
use Rattle.history.specs.NotEmpty.{BuffersSuffice, NeverRefusedByRules12}

-- a refusal number is above 2
abbrev JudgementAbove : Judgement → Type 0
JudgementAbove Read = Unit {0}
JudgementAbove (Unread n) = 3 ≤ n

abbrev Above : Outcome → Type 0
Above (Send n) = Unit {0}
Above Quiet = Unit {0}
Above (Refused n) = 3 ≤ n

-- of a reading
pub reading_above : (s : List ℕ) → JudgementAbove (read_message s).outcome
reading_above s = go (read_message s).outcome refl
  where
    go : (o : Judgement) → (read_message s).outcome ≡ o → JudgementAbove o
    go Read e = tt
    go (Unread n) e = leb-true 3 n (among-each (λ x. leb 3 x) n reading_rules refl (read-judged_by s n e))

-- of a list of rules: every number is above 2
abbrev all_above : List Rule → Bool
all_above [] = true
all_above (r ∷ rs) = leb 3 r.number && all_above rs

first_above : (rs : List Rule) → all_above rs ≡ true → (first_broken rs ≡ 0 → ⊥) → 3 ≤ first_broken rs
unfolding first_broken
first_above [] w h = absurd (h refl)
first_above (r ∷ rs) w h =
    let a = (and-eq-true_iff (leb 3 r.number) (all_above rs)).0 w in
    go r.broken (leb-true 3 r.number a.0) (first_above rs a.1) h
  where
    go : (b : Bool) → 3 ≤ r.number → ((first_broken rs ≡ 0 → ⊥) → 3 ≤ first_broken rs)
        → (cond b r.number (first_broken rs) ≡ 0 → ⊥) → 3 ≤ cond b r.number (first_broken rs)
    go true l ih h = l
    go false l ih h = ih h

module _ (s : State) (lent : Lent) (ready : Ready s lent) where
  -- rules 1 and 2 pass, and the others are asked
  rules12_pass : (qs : List Rule) → first_broken (rules12 s lent ++ qs) ≡ first_broken qs
  unfolding first_broken
  rules12_pass qs = rw (ready.long, ready.order)

  judged_above : (qs : List Rule) (done : Result) → all_above qs ≡ true → Above done.outcome
      → Above (judged (first_broken (rules12 s lent ++ qs)) s lent done).outcome
  unfolding judged
  judged_above qs done w h = rw (rules12_pass qs) (go (eqb (first_broken qs) 0) refl)
    where
      go : (b : Bool) → eqb (first_broken qs) 0 ≡ b → Above (cond b done (refused (first_broken qs) s lent)).outcome
      go true e = h
      go false e = first_above qs w (eqb-false (first_broken qs) 0 e)

-- what a call does once its rules have passed
send_above : (p : Phase) (s : State) (lent : Lent) → Above (send_from p s lent).outcome
send_above Resting s lent = tt
send_above (Waiting a) s lent = tt
send_above (Pending v) s lent = tt
send_above Settling s lent = tt
send_above Uploading s lent = tt

next_above : (f : Option ℕ) (s : State) (lent : Lent) → Above (sends_next f s lent).outcome
next_above (Some i) s lent = tt
next_above None s lent = tt

upload_above : (p : Phase) (s : State) (lent : Lent) → Above (upload_from p s lent).outcome
upload_above Resting s lent = tt
upload_above (Waiting a) s lent = tt
upload_above (Pending v) s lent = tt
upload_above Settling s lent = tt
upload_above Uploading s lent = next_above (next_due (due Uploading) (entries_of s.entries lent.journal)) s lent

answer_above : (good : Bool) (a : Message) (s : State) (lent : Lent) → Above (answer_in good a s lent).outcome
unfolding judged
answer_above good a s lent = go (eqb (first_broken (answer_rules a s lent.journal)) 0) refl
  where
    go : (b : Bool) → eqb (first_broken (answer_rules a s lent.journal)) 0 ≡ b
        → Above (cond b (quietly (heard good a s lent.journal) lent) (refused (first_broken (answer_rules a s lent.journal)) s lent)).outcome
    go true e = tt
    go false e = first_above (answer_rules a s lent.journal) refl (eqb-false (first_broken (answer_rules a s lent.journal)) 0 e)

read_above : (o : Judgement) → JudgementAbove o → (good : Bool) (a : Message) (s : State) (lent : Lent)
    → Above (read_in o good a s lent).outcome
read_above Read h good a s lent = answer_above good a s lent
read_above (Unread n) h good a s lent = h

-- a call of a terminal in order is not refused by 1 or 2
call_above : (e : Event) (s : State) (lent : Lent) → Ready s lent → Above (call e s lent).outcome
unfolding sign_on start answer no_answer power_returned card_agrees card_declines send_reversal settle send_next_upload
call_above sign_on_event s lent h = judged_above s lent h (drop 2 (sign_on_rules s lent)) _ refl tt
call_above (starts d b) s lent h =
    let es = entries_of s.entries lent.journal in
    judged_above s lent h (drop 2 (start_rules d b s es (entry_of (original_of d es) es) lent)) _ refl tt
call_above (answers b good) s lent h =
    judged_above s lent h [] (read_in (read_message b).outcome good (read_message b).message s lent) refl
    (read_above (read_message b).outcome (reading_above b) good (read_message b).message s lent)
call_above no_answer_event s lent h = judged_above s lent h (drop 2 (no_answer_rules s lent)) _ refl tt
call_above power_returned_event s lent h = judged_above s lent h [] _ refl tt
call_above card_agrees_event s lent h = judged_above s lent h (drop 2 (card_rules s lent)) _ refl tt
call_above card_declines_event s lent h = judged_above s lent h (drop 2 (card_rules s lent)) _ refl tt
call_above send_reversal_event s lent h =
    judged_above s lent h (drop 2 (send_reversal_rules s lent)) (send_from s.phase s lent) refl (send_above s.phase s lent)
call_above settles s lent h = judged_above s lent h (drop 2 (settle_rules s lent)) _ refl tt
call_above send_next_upload_event s lent h =
    judged_above s lent h (drop 2 (send_next_upload_rules s lent)) (upload_from s.phase s lent) refl (upload_above s.phase s lent)

-- with any message buffer that has room
abbrev AlwaysReady : Run → Type 0
AlwaysReady r = (m : List ℕ) → largest ≤ length m → Ready r.state (lend r.journal m)

ready-again : (s : State) (lent : Lent) (n : List ℕ) → Ready s lent → largest ≤ length n → Ready s (with_message n lent)
ready-again s lent n h l =
    let f = ready-fits s lent h in
    fit_ready s (with_message n lent) (record { message_room = l; journal_room = f.journal_room; order = f.order })

fresh-fits : (x : Settings) (lent : Lent) → settings_in_form x ≡ true → entry_size * x.limit ≤ length lent.journal → largest ≤ length lent.message
    → Fit (fresh x) lent
unfolding sums_of together
fresh-fits x lent f r l =
    record {
      message_room = l;
      journal_room = r;
      order =
          record {
            state =
                record {
                  settings = settings_hold x f;
                  batch_least = omega arith;
                  batch_most = omega arith;
                  next_least = omega arith;
                  next_most = omega arith;
                  sent_most = omega arith;
                  phase_form = refl;
                  chip = no_chip_lem Resting;
                  sign_on = no_sign_on_lem Resting no_sign_on refl;
                  few = omega arith;
                  balance = refl;
                  approvals = refl;
                  totals = refl;
                };
            journal =
                record {
                  form = refl;
                  apart = refl;
                  voided = refl;
                  debit_most = omega arith;
                  credit_most = omega arith;
                  unmarked = refl;
                  resends = refl;
                  silent = refl;
                };
            phase_kept = refl;
          };
    }

-- what a call of the history gave
abbrev NotUnfit : Call → History → Type 0
NotUnfit c h = (c.given ≡ declined 1 → ⊥) × (c.given ≡ declined 2 → ⊥)

given_above : (o : Outcome) (m : List ℕ) → Above o → (given_by o m ≡ declined 1 → ⊥) × (given_by o m ≡ declined 2 → ⊥)
given_above (Send n) m h =
    (λ e. let z : ◌≡◌ {A = ℕ} 0 1 = cc in omega arith, λ e. let z : ◌≡◌ {A = ℕ} 0 1 = cc in omega arith)
given_above Quiet m h =
    (λ e. let z : ◌≡◌ {A = ℕ} 0 1 = cc in omega arith, λ e. let z : ◌≡◌ {A = ℕ} 0 1 = cc in omega arith)
given_above (Refused n) m h = (λ e. let z : n ≡ 1 = cc in omega arith, λ e. let z : n ≡ 2 = cc in omega arith)

runs_fit : (ts : List Invocation) (r : Run) → BuffersSuffice ts → AlwaysReady r → Each NotUnfit r.history → Each NotUnfit (runs ts r).history
runs_fit [] r w h g = g
runs_fit (t ∷ ts) r w h g =
    let q = call t.event r.state (lend r.journal t.message) in
    let p = h t.message w.0 in
    let k = keeping t.event r.state (lend r.journal t.message) p in
    runs_fit ts (recorded t r q) w.1 (λ m l. ready-again q.state q.lent m k l)
    (given_above q.outcome q.lent.message (call_above t.event r.state (lend r.journal t.message) p), g)

pub never_first-refusal : NeverRefusedByRules12
never_first-refusal x j ts f r w = runs_fit ts (begun x j) w (λ m l. fit_ready (fresh x) (lend j m) (fresh-fits x (lend j m) f r l)) tt
