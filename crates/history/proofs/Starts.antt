-- Start and send reversal keep the invariant, and what leaves is lawful.
use mathlib.Core.Path.{◌≡◌, refl, sym}
use mathlib.Core.List.{List}
use mathlib.Core.Bool.{Bool, true, false, cond, and-eq-true_iff, true≢false}
use Prim.Native.Nat.{ℕ, ◌≤◌}
use native.Mathlib.Omega.{arith}
use lib.ListN.{length}
use borrow.Author.Tests.{ltb-true}
use Rattle.writing.specs.Writing.{message_bytes}
use Rattle.journal.specs.Journal.{entries_of, taken}
use Rattle.elements.specs.Elements.{chip_in_form}
use Rattle.kinds.specs.Kinds.{sends_chip}
use Rattle.state.specs.declared.Chip.{Chip}
use Rattle.state.specs.declared.Request.{Request as Asked}
use Rattle.state.specs.declared.Reversal.{Reversal}
use Rattle.state.specs.declared.Awaited.TheVariants as awaited
use Rattle.state.specs.declared.Phase.{Phase}
use Rattle.state.specs.declared.Phase.TheVariants.{Resting, Waiting, Pending, Settling, Uploading}
use Rattle.state.specs.declared.State.{State}
use Rattle.state.specs.State.{no_chip, chip_of, chip_bytes, has_chip, in_phase}
use Rattle.checks.specs.Checks.{first_broken}
use Rattle.state.specs.Calls.{Lent, judged}
use Rattle.checks.proofs.Choices.{passed}
use Rattle.state_rules.specs.StateRules.{request_in_form}
use Rattle.rules.proofs.InOrder.{Fit}
use Rattle.state_rules.proofs.Holds.{request-holds, reversal-holds}
use Rattle.outgoing.specs.Held.{CardHeld}
use Rattle.outgoing.specs.Outgoing.{request_message, reversal_message}
use Rattle.call_definitions.proofs.Quietly.{idle as resting, fit_first}
use Rattle.call_definitions.specs.Start.{original_of, entry_of, named_by, start_rules, start}
use Rattle.desk.specs.DeskRules.{sends_field55, chip_from, request_of}
use Rattle.effect_definitions.specs.StateEffects.{requested, again}
use Rattle.desk.specs.declared.Desk.{Desk}
use Rattle.call_definitions.proofs.Refusals.{unbroken}
use Rattle.call_definitions.proofs.Held.{may_send}
use Rattle.call_definitions.specs.SendReversal.{send_from, send_reversal_rules, send_reversal}
use Rattle.call_theorems.proofs.Starting.{start_fits}
use Rattle.call_definitions.specs.Events.{Event, starts, send_reversal_event}
use Rattle.history.specs.Words.{message_in, carries_chip}
use Rattle.history.specs.History.{sent, pending, out, Account, asked, with_sending, when_given}
use Rattle.history.proofs.Said.{handed_out, Says}
use Rattle.history.proofs.Sent.{Typed, reversal-typed, Asks, request-carries, request-asks, reversal-says}
use Rattle.history.proofs.Matching.{other_closes}
use Rattle.history.proofs.Requests.{AllDone, none-reversing, none_consenting}
use Rattle.history.proofs.Books.{one-sent, one_waits}
use Rattle.history.proofs.Tied.{reversal-latest, Tied, one-reversing}
use Rattle.history.proofs.After.{reversal-alone, LawfulMessage, After, judged-after, no, sent-request, sent-reversal, idle}

-- a request leaves a terminal at which none waits
module _ (l : ℕ) (e : Event) (s : State) (a : Account) (c : Chip) (q : Asked) (b : List ℕ) (h : Tied l s a)
    (done : AllDone l a.requests) (asks : Asks s.settings s.batch q (message_in b)) (fresh : c.approved ≡ false)
    (chip_is : carries_chip (message_in b) ≡ has_chip c) where
  request-tied : Tied l (requested s c q) (when_given l (sent b) e a)
  request-tied =
      rw (sent-request e (message_in b) a.requests asks.typed)
      (record {
        kept =
            record {
              sendings_set = h.kept.sendings_set;
              shaped = h.kept.shaped;
              books = one-sent s.counts _ a.requests e (message_in b) h.kept.books;
            };
        shape =
            rw fresh
            (record {
              latest =
                  record {
                    head = asked e (message_in b);
                    rest = a.requests;
                    requests_are = refl;
                    fate_is = refl;
                    sendings_are = refl;
                    few = omega arith;
                    done = done;
                  };
              asks = asks;
              chip_is = chip_is;
              approved_for = λ y. absurd (true≢false (sym y));
              never_closes = other_closes asks.typed;
            });
      })

  request-lawful : LawfulMessage (message_in b) a
  request-lawful =
      let t = asks.typed in
      record {
        settlements = no t.is_settlement;
        no_request = λ x. none-reversing l a.requests done;
        no_settlement = no t.is_settlement;
        reversals = no t.is_reversal;
        no_consent = λ x. none_consenting l a.requests done;
        no_consent_settling = no t.is_settlement;
        alone = λ x. none-reversing l a.requests done;
      }

-- the card's word is not awaited as a request leaves
pub sent-unapproved : (d : Desk) (b : List ℕ) → (chip_from d b).approved ≡ false
sent-unapproved d b = go (sends_field55 d)
  where
    go : (t : Bool) → (cond t (chip_of b) no_chip).approved ≡ false
    go true = refl
    go false = refl

module _ (l : ℕ) (d : Desk) (chip : List ℕ) (s : State) (lent : Lent) (a : Account) (h : Tied l s a)
    (authorisation : length d.authorisation ≡ 6) (reference : length d.reference ≡ 12) where
  pub request-form : (let es = entries_of s.entries lent.journal in let e = entry_of (original_of d es) es in
      first_broken (start_rules d chip s es e lent) ≡ 0 → Fit s lent → request_in_form (request_of d e (taken es s.next.0)) ≡ true)
  unfolding start judged
  request-form z f = (rw z at (start_fits d chip s lent f)).order.state.phase_form

  pub start_after : After l (starts d chip) a (start d chip s lent)
  unfolding start
  start_after =
      let es = entries_of s.entries lent.journal in
      let e = entry_of (original_of d es) es in
      let c = chip_from d chip in
      let q = request_of d e (taken es s.next.0) in
      let o = named_by d s.batch e in
      let rs = start_rules d chip s es e lent in
      judged-after l (starts d chip) a (first_broken rs) s lent _ h
      (λ z.
      let u = unbroken d chip s e lent z in
      let w = may_send d chip s lent h.kept.shaped.terminal_length h.kept.shaped.merchant_length reference authorisation
      (taken es s.next.0) u in
      let f = u.fits in
      let asks = request-asks s.settings s.batch lent.message f.message_room f.order.state.batch_most c q o w.card w.original
      (request-holds q (request-form z f)) in
      let carries = request-carries s.settings s.batch lent.message f.message_room f.order.state.batch_most c q o w.card w.original in
      let done = idle l s.settings s.batch s.chip a s.phase (resting s (passed 11 rs refl z)).0 (passed 12 rs refl z) h.shape in
      let b = handed_out (message_bytes (request_message s.settings s.batch c q o)) lent.message in
      record {
        tied = request-tied l (starts d chip) s a c q b h done asks (sent-unapproved d chip) carries;
        lawful = request-lawful l (starts d chip) s a c q b h done asks (sent-unapproved d chip) carries;
      })

-- a pending reversal leaves
module _ (l : ℕ) (s : State) (lent : Lent) (a : Account) (v : Reversal) (h : Tied l (in_phase (Pending v) s) a)
    (f : Fit (in_phase (Pending v) s) lent) where
  pub card-held : CardHeld s.settings s.chip v.request
  card-held =
      let w = reversal-holds v f.order.state.phase_form in
      let x = f.order.state.settings in
      record {
        card_low = w.card_least;
        card_high = w.card_most;
        terminal_length = h.kept.shaped.terminal_length;
        merchant_length = h.kept.shaped.merchant_length;
        terminal_printable = x.terminal_printable;
        merchant_printable = x.merchant_printable;
        chip_form = λ y. ((and-eq-true_iff (sends_chip v.request.kind) (chip_in_form (chip_bytes s.chip))).0 (f.order.state.chip.sent y)).1;
      }

  few-more : (again v).sendings ≤ l
  few-more = let k = ltb-true v.sendings s.settings.sendings f.order.phase_kept in let t = h.kept.sendings_set in omega arith

  reversal-tied : (b : List ℕ) → Says s.settings s.batch v.request.trace 0x0400 v.request.kind 0 (message_in b)
      → Tied l (in_phase (Waiting (awaited.Reversal (again v))) s) (when_given l (sent b) send_reversal_event a)
  reversal-tied b said =
      let d = h.shape in
      let t = reversal-typed (message_in b) said.indicator in
      let r = with_sending (out (message_in b)) d.head in
      rw (sent-reversal send_reversal_event (message_in b) a.requests t, reversal-latest d (message_in b))
      (record {
        kept =
            record {
              sendings_set = h.kept.sendings_set;
              shaped = h.kept.shaped;
              books = one_waits s.counts _ d.rest d.head (rw d.fate_is) (rw d.requests_are at h.kept.books) r refl;
            };
        shape =
            record {
              reversal = message_in b;
              latest =
                  record {
                    head = r;
                    rest = d.rest;
                    requests_are = refl;
                    fate_is = refl;
                    sendings_are = rw d.sendings_are;
                    few = few-more;
                    done = d.done;
                  };
              said = said;
              never_closes = other_closes t;
            };
      })

  reversal-lawful : (b : List ℕ) → Typed false true false false (message_in b) → LawfulMessage (message_in b) a
  reversal-lawful b t =
      record {
        settlements = no t.is_settlement;
        no_request = no t.is_request;
        no_settlement = no t.is_settlement;
        reversals = λ x. one-reversing l a pending v.sendings refl h.shape;
        no_consent = no t.is_request;
        no_consent_settling = no t.is_settlement;
        alone = reversal-alone (message_in b) t.is_reversal;
      }

  reversal-after : After l send_reversal_event a (send_from (Pending v) (in_phase (Pending v) s) lent)
  reversal-after =
      let said = reversal-says s.settings s.batch lent.message f.message_room f.order.state.batch_most s.chip (again v) card-held
      (reversal-holds v f.order.state.phase_form) in
      let b = handed_out (message_bytes (reversal_message s.settings s.batch s.chip (again v))) lent.message in
      record { tied = reversal-tied b said; lawful = reversal-lawful b (reversal-typed (message_in b) said.indicator) }

send_from_lem : (p : Phase) (l : ℕ) (s : State) (lent : Lent) (a : Account) → Tied l (in_phase p s) a → Fit (in_phase p s) lent
    → After l send_reversal_event a (send_from p (in_phase p s) lent)
send_from_lem Resting l s lent a h f = record { tied = h; lawful = tt }
send_from_lem (Waiting w) l s lent a h f = record { tied = h; lawful = tt }
send_from_lem (Pending v) l s lent a h f = reversal-after l s lent a v h f
send_from_lem Settling l s lent a h f = record { tied = h; lawful = tt }
send_from_lem Uploading l s lent a h f = record { tied = h; lawful = tt }

pub reverse-after : (l : ℕ) (s : State) (lent : Lent) (a : Account) → Tied l s a → After l send_reversal_event a (send_reversal s lent)
unfolding send_reversal
reverse-after l s lent a h =
    let rs = send_reversal_rules s lent in
    judged-after l send_reversal_event a (first_broken rs) s lent (send_from s.phase s lent) h
    (λ z. send_from_lem s.phase l s lent a h (fit_first s lent _ _ refl z))
