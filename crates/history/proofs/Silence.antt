-- Silence: a request without a decision, a failed sending, and what else is awaited keep the invariant.
use mathlib.Core.Path.{◌≡◌, refl, sym, subst, ◌∙◌}
use mathlib.Core.List.{List, ◌∷◌}
use mathlib.Core.Bool.{Bool, true, false, cond, true≢false, and-eq-true_iff}
use Prim.Native.Nat.{ℕ, ◌≤◌}
use native.Mathlib.Omega.{arith}
use lib.Dec.{leb, eqb}
use borrow.Author.Tests.{eqb-true}
use Rattle.elements.specs.Elements.{chip_in_form}
use Rattle.kinds.specs.Kinds.{is_never_reversed, sends_chip}
use Rattle.state.specs.declared.Chip.{Chip}
use Rattle.state.specs.declared.Request.{Request as Asked}
use Rattle.state.specs.declared.Reason.{Reason}
use Rattle.state.specs.declared.Reason.TheVariants.{Silence, CardDeclined}
use Rattle.state.specs.declared.Reversal.{Reversal}
use Rattle.state.specs.declared.Awaited.{Awaited}
use Rattle.state.specs.declared.Awaited.TheVariants as awaited
use Rattle.state.specs.declared.Phase.TheVariants.{Waiting, Pending}
use Rattle.state.specs.declared.State.{State}
use Rattle.state.specs.declared.Count.TheVariants.{GivenUp, Unanswered}
use Rattle.state.specs.State.{chip_bytes, as_sent, in_phase, with_chip}
use Rattle.state_rules.proofs.Holds.{ChipHolds, consent_holds}
use Rattle.effect_definitions.specs.JournalEffects.{Changed, silent}
use Rattle.effect_definitions.specs.StateEffects as effects
use Rattle.effect_definitions.specs.StateEffects.{pending_or_unanswered, failed}
use Rattle.history.specs.Words.{kind_in}
use Rattle.history.specs.History as history
use Rattle.history.specs.History.{Ending, approved, given_up, unanswered, Fate, deciding, consenting, pending, out, ended, Request, Account, becomes, ended_as, is_waiting, by_fate, when_silent}
use Rattle.history.proofs.Requests.{silent-ended, silent-same}
use Rattle.history.proofs.Books.{Books, count_of, one_waits, one_ended}
use Rattle.history.proofs.Tied.{account_of, Latest, latest-changed, awaited_fate, Deciding, Kept, Tied}

abbrev pub TiedAfter : ℕ → Changed → Account → Type 0
TiedAfter l c a = Tied l c.state a

-- the latest request waits
module _ (l : ℕ) (s : State) (a : Account) (f : Fate) (n : ℕ) (waits : is_waiting f ≡ true)
    (kept : Kept l s.settings s.counts s.totals a.requests) (latest : Latest l f n a) where
  abbrev head : Request
  head = latest.head

  abbrev rest : List Request
  rest = latest.rest

  pub head-waits : is_waiting head.fate ≡ true
  head-waits = rw latest.fate_is waits

  pub head_few : head.sendings ≤ l
  head_few = let e = latest.few in let k = latest.sendings_are in omega arith

  pub open_books : Books s.counts s.totals (head ∷ rest)
  open_books = rw latest.requests_are at kept.books

  -- it ends, and is not approved
  pub ended-tied : (e : Ending) → ended_as approved (ended e) ≡ false
      → Tied l (effects.ended (count_of e) s) (account_of (becomes (ended e) head ∷ rest) a.last)
  ended-tied e u =
      record {
        kept =
            record {
              sendings_set = kept.sendings_set;
              shaped = kept.shaped;
              books = one_ended s.counts _ rest head head-waits open_books e u;
            };
        shape = (record { has_ended = refl; few = head_few }, latest.done);
      }

  -- its reversal is pending
  pub pending-tied : (v : Reversal) (c : Chip) → v.sendings ≡ n
      → Tied l (in_phase (Pending v) (with_chip c s)) (account_of (becomes pending head ∷ rest) a.last)
  pending-tied v c e =
      record {
        kept =
            record {
              sendings_set = kept.sendings_set;
              shaped = kept.shaped;
              books = one_waits s.counts _ rest head head-waits open_books (becomes pending head) refl;
            };
        shape =
            record {
              head = becomes pending head;
              rest = rest;
              requests_are = refl;
              fate_is = refl;
              sendings_are = latest.sendings_are ∙ sym e;
              few = rw e latest.few;
              done = latest.done;
            };
      }

  pub pending_or_unanswered-tied : (r : Reason) (q : Asked) → n ≡ 0 → kind_in head.message ≡ q.kind
      → Tied l (pending_or_unanswered r q s) (account_of (history.pending_or_unanswered head ∷ rest) a.last)
  unfolding pending_or_unanswered history.pending_or_unanswered
  pending_or_unanswered-tied r q z k = rw k (go (eqb q.kind 25))
    where
      go : (b : Bool) → Tied l
          (cond b (effects.ended Unanswered s)
          (in_phase (Pending (record { request = q; reason = r; sendings = 0 })) (with_chip (as_sent s.chip) s)))
          (account_of (becomes (cond b (ended unanswered) pending) head ∷ rest) a.last)
      go true = ended-tied unanswered refl
      go false = pending-tied (record { request = q; reason = r; sendings = 0 }) (as_sent s.chip) (sym z)

  -- a kind that is reversed
  pub reversed-tied : (r : Reason) (q : Asked) → n ≡ 0 → is_never_reversed q.kind ≡ false
      → Tied l (pending_or_unanswered r q s) (account_of (becomes pending head ∷ rest) a.last)
  unfolding pending_or_unanswered
  reversed-tied r q z k = rw k (pending-tied (record { request = q; reason = r; sendings = 0 }) (as_sent s.chip) (sym z))

  pub failed-tied : (v : Reversal) → v.sendings ≡ n
      → Tied l (failed v s) (account_of (history.failed l head ∷ rest) a.last)
  unfolding failed history.failed
  failed-tied v z =
      let e : leb l head.sendings ≡ leb s.settings.sendings v.sendings = rw (kept.sendings_set, latest.sendings_are, z) in
      subst (λ (b : Bool). Tied l (failed v s) (account_of (becomes (cond b (ended given_up) pending) head ∷ rest) a.last)) (sym e)
      (go (leb s.settings.sendings v.sendings))
    where
      go : (b : Bool) → Tied l
          (cond b (effects.ended GivenUp s) (in_phase (Pending v) s))
          (account_of (becomes (cond b (ended given_up) pending) head ∷ rest) a.last)
      go true = ended-tied given_up refl
      go false = pending-tied v s.chip z

-- the account after silence
abbrev pub after_silence : ℕ → Account → Account
after_silence l a = account_of (by_fate (when_silent l) a.requests) a.last

-- a kind that sends a chip is reversed
chip-reversed : (k : ℕ) → sends_chip k ≡ true → is_never_reversed k ≡ false
chip-reversed k h = go (eqb k 25) refl
  where
    go : (b : Bool) → eqb k 25 ≡ b → b ≡ false
    go false e = refl
    go true e = let t : sends_chip 25 ≡ true = rw (eqb-true k 25 e) at h in absurd (true≢false (sym t))

-- where the card's word is awaited, the request's kind is reversed
pub consent_reversed : (q : Asked) (c : Chip) → ChipHolds (Waiting (awaited.Request q)) c → c.approved ≡ true → is_never_reversed q.kind ≡ false
consent_reversed q c k e =
    let h = consent_holds (Waiting (awaited.Request q)) c k e in
    chip-reversed q.kind ((and-eq-true_iff (sends_chip q.kind) (chip_in_form (chip_bytes c))).0 (k.sent h.chip)).0

-- silence of the line, or of the card
module _ (l : ℕ) (s : State) (a : Account) (q : Asked) (kept : Kept l s.settings s.counts s.totals a.requests)
    (k : ChipHolds (Waiting (awaited.Request q)) s.chip) where
  pub silent-request : (b : Bool) → s.chip.approved ≡ b → Deciding l s.settings s.batch s.chip (awaited_fate b) q a
      → Tied l (pending_or_unanswered (cond b CardDeclined Silence) q s) (after_silence l a)
  unfolding when_silent
  silent-request false e d =
      rw (latest-changed d.latest (when_silent l) (silent-ended l))
      (pending_or_unanswered-tied l s a deciding 0 refl kept d.latest Silence q refl d.asks.kind_is)
  silent-request true e d =
      rw (latest-changed d.latest (when_silent l) (silent-ended l))
      (reversed-tied l s a consenting 0 refl kept d.latest CardDeclined q refl (consent_reversed q s.chip k e))

pub silent-tied : (w : Awaited) (l : ℕ) (s : State) (j : List ℕ) (a : Account) → ChipHolds (Waiting w) s.chip
    → Tied l (in_phase (Waiting w) s) a → TiedAfter l (silent w s j) (after_silence l a)
unfolding silent when_silent
silent-tied (awaited.Request q) l s j a k h = silent-request l s a q h.kept k s.chip.approved refl h.shape
silent-tied (awaited.Reversal v) l s j a k h =
    let d = h.shape.latest in
    rw (latest-changed d (when_silent l) (silent-ended l))
    (failed-tied l s a (out h.shape.reversal) v.sendings refl h.kept d v refl)
silent-tied (awaited.Settlement trace) l s j a k h =
    rw (silent-same l l a.requests h.shape.done) (record { kept = h.kept; shape = h.shape.done })
silent-tied (awaited.Item i) l s j a k h =
    rw (silent-same l l a.requests h.shape.done)
    (record { kept = h.kept; shape = h.shape.done })
silent-tied (awaited.End trace) l s j a k h =
    rw (silent-same l l a.requests h.shape.done) (record { kept = h.kept; shape = h.shape.done })
