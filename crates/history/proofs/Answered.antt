-- An answer that is accepted keeps the invariant.
use mathlib.Core.Path.{◌≡◌, refl, sym, ◌∙◌}
use mathlib.Core.List.{List, [], ◌∷◌}
use mathlib.Core.Bool.{Bool, true, false, cond, and-false}
use Prim.Native.Nat.{ℕ}
use Rattle.message.specs.declared.Message.{Message}
use Rattle.reading.specs.Reading.{read_message, Read}
use Rattle.numbers.specs.declared.Trace.{Trace}
use Rattle.journal.specs.Journal.{entries_of}
use Rattle.state.specs.declared.Approval.{Approval}
use Rattle.state.specs.declared.Request.{Request as Asked}
use Rattle.state.specs.declared.Reason.TheVariants.{BadMac}
use Rattle.state.specs.declared.Reversal.{Reversal}
use Rattle.state.specs.declared.Awaited.{Awaited}
use Rattle.state.specs.declared.Awaited.TheVariants as awaited
use Rattle.state.specs.declared.Phase.TheVariants.{Waiting, Uploading}
use Rattle.state.specs.declared.State.{State}
use Rattle.state.specs.declared.Count.TheVariants.{Declined, Reversed}
use Rattle.state.specs.State.{has_chip, approved_by, in_phase, with_chip, closed}
use Rattle.answer_match.specs.Match as terminal
use Rattle.answer_match.specs.Match.{is_answer, approves, approves_request, good_mac, ends_reversal}
use Rattle.approval.specs.Approval.{approval_of, approved_entry}
use Rattle.effect_definitions.specs.JournalEffects as effects
use Rattle.call_definitions.specs.Answer.{trace_sent}
use Rattle.effect_definitions.specs.JournalEffects.{changed, granted, on_request, on_item, answered}
use Rattle.effect_definitions.specs.StateEffects as state-effects
use Rattle.effect_definitions.specs.StateEffects.{pending_or_unanswered, failed, on_reversal, on_settlement, on_end}
use Rattle.history.specs.Words.{message_in, amount_in, is_matching, closes_batch}
use Rattle.history.specs.History as history
use Rattle.history.specs.History.{declined, reversed, Fate, deciding, consenting, out, approved, ended, Request, Account, becomes, approved_for, is_waiting, by_fate, when_heard, decided, after_answer}
use Rattle.history.proofs.Sent.{reversal-typed, settlement_typed, end_typed}
use Rattle.history.proofs.Matching.{request-accepted, reversal-accepted, settlement_accepted, end_accepted, request_alike, mac_alike, ends_alike, settlement_closes, end_closes}
use Rattle.history.proofs.Requests.{AllDone, heard-ended, heard-same}
use Rattle.history.proofs.Books.{no_books, one_waits, one-approved}
use Rattle.history.proofs.Tied.{account_of, NeverCloses, Latest, latest-changed, Deciding, fate-of, Kept, Tied}
use Rattle.history.proofs.Silence.{TiedAfter, head-waits, head_few, open_books, ended-tied, pending_or_unanswered-tied, failed-tied}
use Rattle.history.proofs.Approved.{approved-kind, approved_amount}

-- the account after an answer that was accepted
abbrev pub after_heard : ℕ → Bool → List ℕ → Account → Account
after_heard l good b a = account_of (after_answer l good b a) a.last

pub not_closed : (l : ℕ) (good : Bool) (b : List ℕ) (a : Account) → NeverCloses a.last
    → after_answer l good b a ≡ by_fate (when_heard l good b) a.requests
unfolding after_answer
not_closed l good b a n = rw (n (message_in b), and-false)

maybe_closed : (l : ℕ) (good : Bool) (b : List ℕ) (a : Account) → is_matching a.last b ≡ true → AllDone l a.requests
    → after_answer l good b a ≡ cond (closes_batch a.last (message_in b)) [] a.requests
unfolding after_answer
maybe_closed l good b a n d = rw (n, heard-same l good b l a.requests d)

-- a request that waits is approved, by the answer or by the card after it
module _ (l : ℕ) (s : State) (j : List ℕ) (a : Account) (q : Asked)
    (kept : Kept l s.settings s.counts s.totals a.requests)
    (f : Fate) (waits : is_waiting f ≡ true) (d : Deciding l s.settings s.batch s.chip f q a) where
  pub approved-tied : (v : Approval) (x : ℕ) → v.amount ≡ x
      → TiedAfter l (effects.approved q (approved_entry q v) s j) (account_of (approved_for x (ended approved) d.latest.head ∷ d.latest.rest) a.last)
  unfolding effects.approved
  approved-tied v x e =
      let latest = d.latest in
      let k = approved-kind q v ∙ sym d.asks.kind_is in
      let w = approved_amount q v ∙ e in
      record {
        kept =
            record {
              sendings_set = kept.sendings_set;
              shaped = kept.shaped;
              books =
                  one-approved s.counts s.totals latest.rest latest.head (head-waits l s a f 0 waits kept latest)
                  (open_books l s a f 0 waits kept latest) (approved_entry q v).kind (approved_entry q v).amount x k w;
            };
        shape = (record { has_ended = refl; few = head_few l s a f 0 waits kept latest }, latest.done);
      }

-- the amount that an answer approves, as the terminal and as the history reads it
pub answered_alike : (a : Message) → (approval_of a).amount ≡ amount_in a
unfolding approval_of amount_in
answered_alike a = refl

-- an answer to a card request
module _ (l : ℕ) (good : Bool) (b : List ℕ) (read : (read_message b).outcome ≡ Read) (s : State) (j : List ℕ) (a : Account) (q : Asked)
    (kept : Kept l s.settings s.counts s.totals a.requests)
    (d : Deciding l s.settings s.batch s.chip deciding q a) (phase : s.phase ≡ Waiting (awaited.Request q)) where
  abbrev latest : Latest l deciding 0 a
  latest = d.latest

  abbrev head : Request
  head = latest.head

  -- with a chip the card has the last word
  consenting_tied : (v : Approval) (x : ℕ) → v.amount ≡ x
      → Tied l (with_chip (approved_by v s.chip) s) (account_of (approved_for x consenting head ∷ latest.rest) a.last)
  consenting_tied v x e =
      record {
        kept =
            record {
              sendings_set = kept.sendings_set;
              shaped = kept.shaped;
              books =
                  one_waits s.counts _ latest.rest head (head-waits l s a deciding 0 refl kept latest)
                  (open_books l s a deciding 0 refl kept latest) (approved_for x consenting head) refl;
            };
        shape =
            rw phase
            (record {
              latest =
                  record {
                    head = approved_for x consenting head;
                    rest = latest.rest;
                    requests_are = refl;
                    fate_is = refl;
                    sendings_are = latest.sendings_are;
                    few = latest.few;
                    done = latest.done;
                  };
              asks = d.asks;
              chip_is = d.chip_is;
              approved_for = λ y. e;
              never_closes = d.never_closes;
            });
      }

  request-decided : TiedAfter l (on_request good (message_in b) q s j) (account_of (decided good (message_in b) head ∷ latest.rest) a.last)
  unfolding on_request granted decided
  request-decided =
      rw (request_alike head.message d.asks.kind_is (message_in b), mac_alike good (message_in b), d.chip_is)
      (go (approves_request q.kind (message_in b)) (good_mac good (message_in b)) (has_chip s.chip))
    where
      v : Approval
      v = approval_of (message_in b)

      x : ℕ
      x = amount_in (message_in b)

      same : v.amount ≡ x
      same = answered_alike (message_in b)

      go : (w y z : Bool) → TiedAfter l
          (cond w
          (cond y
          (cond z (changed (with_chip (approved_by v s.chip) s) j) (effects.approved q (approved_entry q v) s j))
          (changed (pending_or_unanswered BadMac q s) j))
          (changed (state-effects.ended Declined s) j))
          (account_of
          (cond w (cond y (approved_for x (cond z consenting (ended approved)) head) (history.pending_or_unanswered head)) (becomes (ended declined) head)
          ∷ latest.rest)
          a.last)
      go true true true = consenting_tied v x same
      go true true false = approved-tied l s j a q kept deciding refl d v x same
      go true false z = pending_or_unanswered-tied l s a deciding 0 refl kept latest BadMac q refl d.asks.kind_is
      go false y z = ended-tied l s a deciding 0 refl kept latest declined refl

  request-answered : is_answer s.settings s.batch q.trace (awaited.Request q) (message_in b) ≡ true
      → TiedAfter l (on_request good (message_in b) q s j) (after_heard l good b a)
  unfolding when_heard
  request-answered e =
      rw (
        not_closed l good b a d.never_closes,
        latest-changed latest (when_heard l good b) (heard-ended l good b),
        request-accepted b d.asks read e,
      )
      request-decided

-- an answer to a reversal
module _ (l : ℕ) (good : Bool) (b : List ℕ) (read : (read_message b).outcome ≡ Read) (s : State) (a : Account) (v : Reversal)
    (h : Tied l (in_phase (Waiting (awaited.Reversal v)) s) a) where
  reversal-decided : (let d = h.shape.latest in Tied l (on_reversal good (message_in b) v s)
      (account_of (cond (ends_reversal good (message_in b)) (becomes (ended reversed) d.head) (history.failed l d.head) ∷ d.rest) a.last))
  unfolding on_reversal
  reversal-decided = go (ends_reversal good (message_in b))
    where
      d : Latest l (out h.shape.reversal) v.sendings a
      d = h.shape.latest

      go : (x : Bool) → Tied l (cond x (state-effects.ended Reversed s) (failed v s))
          (account_of (cond x (becomes (ended reversed) d.head) (history.failed l d.head) ∷ d.rest) a.last)
      go true = ended-tied l s a (out h.shape.reversal) v.sendings refl h.kept d reversed refl
      go false = failed-tied l s a (out h.shape.reversal) v.sendings refl h.kept d v refl

  reversal-answered : is_answer s.settings s.batch v.request.trace (awaited.Reversal v) (message_in b) ≡ true
      → Tied l (on_reversal good (message_in b) v s) (after_heard l good b a)
  unfolding when_heard
  reversal-answered e =
      let d = h.shape in
      rw (
        not_closed l good b a d.never_closes,
        latest-changed d.latest (when_heard l good b) (heard-ended l good b),
        reversal-accepted v b d.said (reversal-typed d.reversal d.said.indicator) read e,
        ends_alike good (message_in b),
      )
      reversal-decided

-- a closing: nothing remains of the batch
closed-tied : (l : ℕ) (s : State) (a : Account) (x : Bool)
    → Kept l s.settings s.counts s.totals a.requests → AllDone l a.requests
    → Tied l (cond x (closed s) (in_phase Uploading s)) (account_of (cond x [] a.requests) a.last)
closed-tied l s a true k d =
    record { kept = record { sendings_set = k.sendings_set; shaped = k.shaped; books = no_books }; shape = tt }
closed-tied l s a false k d = record { kept = k; shape = d }

module _ (l : ℕ) (good : Bool) (b : List ℕ) (read : (read_message b).outcome ≡ Read) (s : State) (a : Account)
    (trace : Trace) where
  settlement_answered : Tied l (in_phase (Waiting (awaited.Settlement trace)) s) a
      → is_answer s.settings s.batch trace (awaited.Settlement trace) (message_in b) ≡ true
      → Tied l (on_settlement (message_in b) s) (after_heard l good b a)
  unfolding on_settlement
  settlement_answered h e =
      let d = h.shape in
      let t = settlement_typed a.last d.said.indicator in
      rw (
        maybe_closed l good b a (settlement_accepted trace b d.said t read e) d.done,
        settlement_closes t (message_in b),
      )
      (closed-tied l s a (terminal.closes_batch (message_in b)) h.kept d.done)

  end_answered : Tied l (in_phase (Waiting (awaited.End trace)) s) a
      → is_answer s.settings s.batch trace (awaited.End trace) (message_in b) ≡ true
      → Tied l (on_end (message_in b) s) (after_heard l good b a)
  unfolding on_end
  end_answered h e =
      let d = h.shape in
      let t = end_typed a.last d.said.indicator d.said.code_number in
      rw (
        maybe_closed l good b a (end_accepted trace b d.said t read e) d.done,
        end_closes t (message_in b),
      )
      (closed-tied l s a (approves (message_in b)) h.kept d.done)

item-answered : (l : ℕ) (good : Bool) (b : List ℕ) (s : State) (a : Account) (i : ℕ)
    → Tied l (in_phase (Waiting (awaited.Item i)) s) a → Tied l (in_phase Uploading s) (after_heard l good b a)
unfolding on_item
item-answered l good b s a i h =
    let d = h.shape in
    rw (not_closed l good b a d.never_closes, heard-same l good b l a.requests d.done)
    (record { kept = h.kept; shape = d.done })

pub answered-tied : (w : Awaited) (l : ℕ) (good : Bool) (b : List ℕ) → (read_message b).outcome ≡ Read
    → (s : State) (j : List ℕ) (a : Account) → Tied l (in_phase (Waiting w) s) a
    → s.phase ≡ Waiting w → s.chip.approved ≡ false
    → is_answer s.settings s.batch (trace_sent (entries_of s.entries j) w) w (message_in b) ≡ true
    → TiedAfter l (answered good (message_in b) w s j) (after_heard l good b a)
unfolding answered
answered-tied (awaited.Request q) l good b r s j a h p c e =
    request-answered l good b r s j a q h.kept (fate-of l s.settings s.batch s.chip q a false c h.shape) p e
answered-tied (awaited.Reversal v) l good b r s j a h p c e = reversal-answered l good b r s a v h e
answered-tied (awaited.Settlement trace) l good b r s j a h p c e = settlement_answered l good b r s a trace h e
answered-tied (awaited.Item i) l good b r s j a h p c e = item-answered l good b s a i h
answered-tied (awaited.End trace) l good b r s j a h p c e = end_answered l good b r s a trace h e
