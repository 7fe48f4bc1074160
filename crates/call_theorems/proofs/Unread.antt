-- Bytes after the last entry are not read.
use Rattle.std.specs.Prelude.{Some, None, Option}
use mathlib.Core.Path.{◌≡◌, refl}
use mathlib.Core.List.{List}
use mathlib.Core.Bool.{Bool, true, false, cond}
use Prim.Native.Nat.{ℕ, ◌+◌, ◌*◌, ◌≤◌}
use native.Mathlib.Omega.{arith}
use lib.Dec.{eqb}
use lib.ListN.{length}
use borrow.Author.Tests.{eqb-true, not-false}
use Rattle.message.specs.declared.Message.{Message}
use Rattle.reading.specs.Reading.{read_message, ReadOutcome as Judgement, Read, Refused as Unread}
use Rattle.entry.specs.Entry.{entry_size}
use Rattle.entry.specs.Theorems.{Shaped}
use Rattle.entry.specs.declared.Entry.{Entry}
use Rattle.entry.proofs.Theorems.{length-encode}
use Rattle.journal.specs.Journal.{entries_of, next_due}
use Rattle.journal.proofs.Entries.{entries-same}
use Rattle.state.specs.declared.Awaited.{Awaited}
use Rattle.state.specs.declared.Awaited.TheVariants as awaited
use Rattle.state.specs.declared.Phase.{Phase}
use Rattle.state.specs.declared.Phase.TheVariants.{Resting, Waiting, Pending, Settling, Uploading}
use Rattle.state.specs.declared.Reason.TheVariants.{BadMac}
use Rattle.state.specs.declared.Request.{Request}
use Rattle.state.specs.declared.State.{State}
use Rattle.state.specs.declared.Count.TheVariants.{Declined}
use Rattle.state.specs.State.{has_chip, approved_by, approval_in, with_chip, signs_on}
use Rattle.state.specs.Calls.{lend, Result, refused, judged}
use Rattle.checks.proofs.Choices.{first-none, passed}
use Rattle.rules.specs.Rules.{too_short, rules12, phase_kept, due}
use Rattle.state_rules.proofs.Holds.{ApprovalHolds, consent_holds}
use Rattle.rules.proofs.InOrder.{Fit, fit}
use Rattle.answer_match.specs.Match.{approves_request, good_mac}
use Rattle.approval.specs.Approval.{approval_of, approved_entry}
use Rattle.approval.proofs.Approval.{shaped}
use Rattle.effect_definitions.specs.StateEffects.{sign_on_ended, on_sign_on, ended, pending_or_unanswered, silence_of}
use Rattle.effect_definitions.specs.JournalEffects.{Changed, changed, silent, silent_in, unanswered, heard, answered_in, original_voided, approved, granted, on_request, agreed, agreed_in, on_item, answered}
use Rattle.call_definitions.specs.SignOn.{sign_on}
use Rattle.call_definitions.specs.Start.{start}
use Rattle.call_definitions.specs.Answer.{quietly, no_answer, without_power, power_returned, awaits_card, card_rules, card_agrees, card_declines, read_in, answer}
use Rattle.call_definitions.specs.SendReversal.{send_from, send_reversal}
use Rattle.call_definitions.specs.Settle.{settle}
use Rattle.call_definitions.specs.SendNextUpload.{sends_next, upload_from, send_next_upload}
use Rattle.call_definitions.specs.Events.{Event, call, sign_on_event, starts, answers, no_answer_event, power_returned_event, card_agrees_event, card_declines_event, send_reversal_event, settles, send_next_upload_event}
use Rattle.call_theorems.specs.JournalRest.{up_to, SameButRest, UnusedNotRead}
use Rattle.call_theorems.proofs.Approving.{left}
use Rattle.call_theorems.proofs.Rest.{answer-shaped, fewer_agree, set_agree, resent_agree, voided_agree, voided-length, put_agree}
use Rattle.call_theorems.proofs.Unwritten.{Few, pending-few, failed-few, reversal-few, settlement_few, end_few, sign_on-few}

-- two changes leave the same state, and the same bytes up to the last entry
record Agree (c d : Changed) : Type 0 where
  state_is : c.state ≡ d.state
  entries_are : up_to c.state.entries c.journal ≡ up_to c.state.entries d.journal

abbrev same : {r q : Result} → r.outcome ≡ q.outcome → r.state ≡ q.state → r.lent.message ≡ q.lent.message
    → up_to r.state.entries r.lent.journal ≡ up_to r.state.entries q.lent.journal → SameButRest r q
same a b c d = record { outcome_is = a; state_is = b; message_is = c; entries_are = d }

module _ (s : State) (i j : List ℕ) (l : length i ≡ length j) (e : up_to s.entries i ≡ up_to s.entries j) where
  one : entries_of s.entries i ≡ entries_of s.entries j
  one = entries-same s.entries i j e

  -- what silence and an answer leave
  few_agree : {t : State} → Few s t → Agree (changed t i) (changed t j)
  few_agree {t} h = record { state_is = refl; entries_are = fewer_agree s.entries i j e t.entries h.few }

  silent_agree : (w : Awaited) → Agree (silent w s i) (silent w s j)
  unfolding silent
  silent_agree (awaited.Request q) = few_agree (pending-few s (silence_of s) q)
  silent_agree (awaited.Reversal v) = few_agree (failed-few s v)
  silent_agree (awaited.Settlement x) = few_agree (record { few = omega arith })
  silent_agree (awaited.Item k) = rw one (record { state_is = refl; entries_are = set_agree s.entries i j e k 2 _ })
  silent_agree (awaited.End x) = few_agree (record { few = omega arith })

  silent_in_lem : (p : Phase) → Agree (silent_in p s i) (silent_in p s j)
  silent_in_lem Resting = few_agree (record { few = omega arith })
  silent_in_lem (Waiting w) = silent_agree w
  silent_in_lem (Pending v) = few_agree (record { few = omega arith })
  silent_in_lem Settling = few_agree (record { few = omega arith })
  silent_in_lem Uploading = few_agree (record { few = omega arith })

  unanswered_agree : Agree (unanswered s i) (unanswered s j)
  unfolding unanswered
  unanswered_agree = go (signs_on s)
    where
      go : (b : Bool) → Agree (cond b (changed (sign_on_ended s) i) (silent_in s.phase s i)) (cond b (changed (sign_on_ended s) j) (silent_in s.phase s j))
      go true = few_agree (record { few = omega arith })
      go false = silent_in_lem s.phase

  -- an entry is written only where it has a place
  written_agree : (q : Request) (x : Entry) → Shaped x → entry_size * s.entries + entry_size ≤ length j → Agree (approved q x s i) (approved q x s j)
  unfolding approved
  written_agree q x w h =
      let n = s.entries in
      let es = entries_of n j in
      rw one
      (record {
        state_is = refl;
        entries_are =
            put_agree n (original_voided q es i) (original_voided q es j) (voided_agree n i j e q es) x (length-encode x w)
            (rw (voided-length n q i es) (omega arith)) (rw (voided-length n q j es) h);
      })

  granted_agree : (q : Request) (a : Message) → entry_size * s.entries + entry_size ≤ length j → Agree (granted a q s i) (granted a q s j)
  unfolding granted
  granted_agree q a h = go (has_chip s.chip)
    where
      go : (b : Bool) → Agree
          (cond b (changed (with_chip (approved_by (approval_of a) s.chip) s) i) (approved q (approved_entry q (approval_of a)) s i))
          (cond b (changed (with_chip (approved_by (approval_of a) s.chip) s) j) (approved q (approved_entry q (approval_of a)) s j))
      go true = few_agree (record { few = omega arith })
      go false = written_agree q (approved_entry q (approval_of a)) (answer-shaped q a) h

  request_agree : (q : Request) (good : Bool) (a : Message) → entry_size * s.entries + entry_size ≤ length j
      → Agree (on_request good a q s i) (on_request good a q s j)
  unfolding on_request
  request_agree q good a h = go (approves_request q.kind a) (good_mac good a)
    where
      go : (x y : Bool) → Agree
          (cond x (cond y (granted a q s i) (changed (pending_or_unanswered BadMac q s) i)) (changed (ended Declined s) i))
          (cond x (cond y (granted a q s j) (changed (pending_or_unanswered BadMac q s) j)) (changed (ended Declined s) j))
      go true true = granted_agree q a h
      go true false = few_agree (pending-few s BadMac q)
      go false y = few_agree (record { few = omega arith })

  module _ (room : entry_size * s.settings.limit ≤ length j) where
    place : (q : Request) → phase_kept s.settings s.entries (entries_of s.entries j) (Waiting (awaited.Request q)) ≡ true
        → entry_size * s.entries + entry_size ≤ length j
    place q h = omega (arith, (left s.settings.limit s.entries (entries_of s.entries j) q h).place)

    answered_agree : (w : Awaited) (good : Bool) (a : Message) → phase_kept s.settings s.entries (entries_of s.entries j) (Waiting w) ≡ true
        → Agree (answered good a w s i) (answered good a w s j)
    unfolding answered on_item
    answered_agree (awaited.Request q) good a h = request_agree q good a (place q h)
    answered_agree (awaited.Reversal v) good a h = few_agree (reversal-few s good a v)
    answered_agree (awaited.Settlement x) good a h = few_agree (settlement_few s a)
    answered_agree (awaited.Item k) good a h = record { state_is = refl; entries_are = set_agree s.entries i j e k 2 _ }
    answered_agree (awaited.End x) good a h = few_agree (end_few s a)

    answered_in_lem : (p : Phase) (good : Bool) (a : Message) → phase_kept s.settings s.entries (entries_of s.entries j) p ≡ true
        → Agree (answered_in p good a s i) (answered_in p good a s j)
    answered_in_lem Resting good a h = few_agree (record { few = omega arith })
    answered_in_lem (Waiting w) good a h = answered_agree w good a h
    answered_in_lem (Pending v) good a h = few_agree (record { few = omega arith })
    answered_in_lem Settling good a h = few_agree (record { few = omega arith })
    answered_in_lem Uploading good a h = few_agree (record { few = omega arith })

    heard_agree : (good : Bool) (a : Message) → phase_kept s.settings s.entries (entries_of s.entries j) s.phase ≡ true
        → Agree (heard good a s i) (heard good a s j)
    unfolding heard
    heard_agree good a h = go (signs_on s)
      where
        go : (b : Bool) → Agree (cond b (changed (on_sign_on a s) i) (answered_in s.phase good a s i))
            (cond b (changed (on_sign_on a s) j) (answered_in s.phase good a s j))
        go true = few_agree (sign_on-few s a)
        go false = answered_in_lem s.phase good a h

    -- what the card's consent leaves
    module _ (c : ApprovalHolds (approval_in s.chip)) where
      agreed_agree : (w : Awaited) → phase_kept s.settings s.entries (entries_of s.entries j) (Waiting w) ≡ true
          → Agree (agreed w s i) (agreed w s j)
      unfolding agreed
      agreed_agree (awaited.Request q) h =
          written_agree q (approved_entry q (approval_in s.chip)) (shaped q (approval_in s.chip) c) (place q h)
      agreed_agree (awaited.Reversal v) h = few_agree (record { few = omega arith })
      agreed_agree (awaited.Settlement x) h = few_agree (record { few = omega arith })
      agreed_agree (awaited.Item k) h = few_agree (record { few = omega arith })
      agreed_agree (awaited.End x) h = few_agree (record { few = omega arith })

      agreed_in_lem : (p : Phase) → phase_kept s.settings s.entries (entries_of s.entries j) p ≡ true → Agree (agreed_in p s i) (agreed_in p s j)
      agreed_in_lem Resting h = few_agree (record { few = omega arith })
      agreed_in_lem (Waiting w) h = agreed_agree w h
      agreed_in_lem (Pending v) h = few_agree (record { few = omega arith })
      agreed_in_lem Settling h = few_agree (record { few = omega arith })
      agreed_in_lem Uploading h = few_agree (record { few = omega arith })

  -- what the calls give
  module _ (m : List ℕ) where
    short : too_short s (lend i m) ≡ too_short s (lend j m)
    unfolding too_short
    short = rw l

    judged-same : {k n : ℕ} {x y : Result} → k ≡ n → (n ≡ 0 → SameButRest x y) → SameButRest (judged k s (lend i m) x) (judged n s (lend j m) y)
    unfolding judged
    judged-same {k} {n} {x} {y} q h = rw q (go (eqb n 0) refl)
      where
        go : (b : Bool) → eqb n 0 ≡ b → SameButRest (cond b x (refused n s (lend i m))) (cond b y (refused n s (lend j m)))
        go true z = h (eqb-true n 0 z)
        go false z = same refl refl refl e

    quiet_same : {c d : Changed} → Agree c d → SameButRest (quietly c (lend i m)) (quietly d (lend j m))
    quiet_same h = same refl h.state_is refl h.entries_are

    off_same : {c d : Changed} → Agree c d → SameButRest (without_power c (lend i m)) (without_power d (lend j m))
    off_same h = same refl (rw h.state_is) refl h.entries_are

    read_same : (o : Judgement) (good : Bool) (a : Message) → Fit s (lend j m) → SameButRest (read_in o good a s (lend i m)) (read_in o good a s (lend j m))
    read_same Read good a h = judged-same (rw one) (λ z. quiet_same (heard_agree h.journal_room good a h.order.phase_kept))
    read_same (Unread n) good a h = same refl refl refl e

    agrees_same : Fit s (lend j m) → awaits_card s ≡ true
        → SameButRest (quietly (agreed_in s.phase s i) (lend i m)) (quietly (agreed_in s.phase s j) (lend j m))
    agrees_same h y =
        quiet_same (agreed_in_lem h.journal_room (consent_holds s.phase s.chip h.order.state.chip y).may.0 s.phase h.order.phase_kept)

    send_same : (p : Phase) → SameButRest (send_from p s (lend i m)) (send_from p s (lend j m))
    send_same Resting = same refl refl refl e
    send_same (Waiting w) = same refl refl refl e
    send_same (Pending v) = same refl refl refl e
    send_same Settling = same refl refl refl e
    send_same Uploading = same refl refl refl e

    next-same : (f : Option ℕ) → SameButRest (sends_next f s (lend i m)) (sends_next f s (lend j m))
    next-same (Some k) = rw one (same refl refl refl (resent_agree s.entries i j e k _))
    next-same None = rw one (same refl refl refl e)

    upload-same : (p : Phase) → SameButRest (upload_from p s (lend i m)) (upload_from p s (lend j m))
    upload-same Resting = same refl refl refl e
    upload-same (Waiting w) = same refl refl refl e
    upload-same (Pending v) = same refl refl refl e
    upload-same Settling = same refl refl refl e
    upload-same Uploading = rw one (next-same (next_due (due Uploading) (entries_of s.entries j)))

    call_same : (c : Event) → SameButRest (call c s (lend i m)) (call c s (lend j m))
    unfolding sign_on start answer no_answer power_returned card_agrees card_declines send_reversal settle send_next_upload
    call_same sign_on_event = rw one (judged-same (rw short) (λ z. same refl refl refl e))
    call_same (starts d b) = rw one (judged-same (rw short) (λ z. same refl refl refl e))
    call_same (answers b good) =
        judged-same (rw (short, one)) (λ z. read_same (read_message b).outcome good (read_message b).message (fit s (lend j m) z))
    call_same no_answer_event = judged-same (rw (short, one)) (λ z. quiet_same unanswered_agree)
    call_same power_returned_event = judged-same (rw (short, one)) (λ z. off_same unanswered_agree)
    call_same card_agrees_event =
        let rs = card_rules s (lend j m) in
        judged-same (rw (short, one))
        (λ z. agrees_same (fit s (lend j m) (first-none (rules12 s (lend j m)) _ refl z)) (not-false (awaits_card s) (passed 14 rs refl z)))
    call_same card_declines_event = judged-same (rw (short, one)) (λ z. quiet_same (silent_in_lem s.phase))
    call_same send_reversal_event = judged-same (rw (short, one)) (λ z. send_same s.phase)
    call_same settles = rw one (judged-same (rw short) (λ z. same refl refl refl e))
    call_same send_next_upload_event = judged-same (rw (short, one)) (λ z. upload-same s.phase)

pub unused_not_read : UnusedNotRead
unused_not_read c s i j m l e = call_same s i j l e m c
