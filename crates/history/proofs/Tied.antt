-- The invariant: what the terminal and its journal say of the account of the history.
use mathlib.Core.Path.{◌≡◌, refl, ap, subst}
use mathlib.Core.List.{List, ◌∷◌}
use mathlib.Core.Bool.{Bool, true, false, cond}
use Prim.Native.Nat.{ℕ, ◌≤◌}
use native.Mathlib.Omega.{arith}
use Rattle.message.specs.declared.Message.{Message}
use Rattle.numbers.specs.declared.Trace.{Trace}
use Rattle.numbers.specs.declared.Batch.{Batch}
use Rattle.kinds.specs.declared.Totals.{Totals}
use Rattle.state.specs.State.{has_chip}
use Rattle.state.specs.declared.Chip.{Chip}
use Rattle.state.specs.declared.Request.{Request as Asked}
use Rattle.state.specs.declared.Reversal.{Reversal}
use Rattle.state.specs.declared.Awaited.{Awaited}
use Rattle.state.specs.declared.Awaited.TheVariants as awaited
use Rattle.state.specs.declared.Phase.{Phase}
use Rattle.state.specs.declared.Phase.TheVariants.{Resting, Waiting, Pending, Settling, Uploading}
use Rattle.state.specs.declared.Counts.{Counts}
use Rattle.state.specs.declared.Settings.{Settings}
use Rattle.state.specs.declared.State.{State}
use Rattle.call_definitions.specs.Shapes.{SettingsShaped}
use Rattle.history.specs.Words.{carries_chip, closes_batch}
use Rattle.history.specs.History.{Fate, deciding, consenting, pending, out, Request, Account, with_sending, by_fate, reversing, with_reversal, is_waiting, in_reversal}
use Rattle.history.specs.Demand.{EachRequest, waiting, in_reversals}
use Rattle.history.proofs.Said.{Says}
use Rattle.history.proofs.Sent.{Asks}
use Rattle.history.proofs.Requests.{AllDone, all_same, none-waits, all-few, none-reversing}
use Rattle.history.proofs.Books.{Books}

abbrev pub account_of : List Request → Message → Account
account_of rs m = record { requests = rs; last = m }

-- no answer to this message closes the batch
abbrev pub NeverCloses : Message → Type 0
NeverCloses m = (a : Message) → closes_batch m a ≡ false

-- the latest request, alone not ended: its fate, and how often its reversal was sent
pub record Latest (l : ℕ) (f : Fate) (n : ℕ) (a : Account) : Type 0 where
  pub head : Request
  pub rest : List Request
  pub requests_are : a.requests ≡ head ∷ rest
  pub fate_is : head.fate ≡ f
  pub sendings_are : head.sendings ≡ n
  pub few : n ≤ l
  pub done : AllDone l rest

-- what leaves ended requests as they are changes the latest only
pub latest-changed : {l : ℕ} {f : Fate} {n : ℕ} {a : Account} (d : Latest l f n a) (g : Fate → Request → Request)
    → ((x : Fate) (r : Request) → is_waiting x ≡ false → g x r ≡ r) → by_fate g a.requests ≡ g f d.head ∷ d.rest
latest-changed {l} d g e =
    rw (d.requests_are, all_same g e l d.rest d.done) (ap (λ (x : Fate). g x d.head ∷ d.rest) d.fate_is)

-- a reversal that is sent is that of the latest request
pub reversal-latest : {l n : ℕ} {a : Account} (d : Latest l pending n a) (v : Message)
    → with_reversal v a.requests ≡ with_sending (out v) d.head ∷ d.rest
unfolding with_reversal reversing
reversal-latest d v = rw d.requests_are (ap (λ (f : Fate). with_sending (reversing v f) d.head ∷ d.rest) d.fate_is)

-- an awaited request awaits its decision or, once approved with a chip, the card's word
abbrev pub awaited_fate : Bool → Fate
awaited_fate approved = cond approved consenting deciding

-- a card request is awaited: it is the latest, of this fate, and carries field 55 where there is a chip; where the card's word is awaited,
-- the centre has approved it for the amount that the chip keeps
pub record Deciding (l : ℕ) (x : Settings) (batch : Batch) (c : Chip) (f : Fate) (q : Asked) (a : Account) : Type 0 where
  pub latest : Latest l f 0 a
  pub asks : Asks x batch q latest.head.message
  pub chip_is : carries_chip latest.head.message ≡ has_chip c
  pub approved_for : c.approved ≡ true → c.amount ≡ latest.head.approved_amount
  pub never_closes : NeverCloses a.last

-- by whether the card's word is awaited
pub fate-of : (l : ℕ) (x : Settings) (batch : Batch) (c : Chip) (q : Asked) (a : Account) (b : Bool) → c.approved ≡ b
    → Deciding l x batch c (awaited_fate c.approved) q a → Deciding l x batch c (awaited_fate b) q a
fate-of l x batch c q a b e d = subst (λ (t : Bool). Deciding l x batch c (awaited_fate t) q a) e d

-- a reversal is awaited: it is that of the latest request, and was sent
pub record Reversing (l : ℕ) (x : Settings) (batch : Batch) (v : Reversal) (a : Account) : Type 0 where
  pub reversal : Message
  pub latest : Latest l (out reversal) v.sendings a
  pub said : Says x batch v.request.trace 0x0400 v.request.kind 0 reversal
  pub never_closes : NeverCloses a.last

-- a settlement or the upload's end is awaited: it was sent last, and no request waits
pub record Closing (l : ℕ) (x : Settings) (batch : Batch) (trace : Trace) (i code : ℕ) (a : Account) : Type 0 where
  pub done : AllDone l a.requests
  pub said : Says x batch trace i 0 code a.last

-- an upload item is awaited: no request waits
pub record UploadingItem (l : ℕ) (a : Account) : Type 0 where
  pub done : AllDone l a.requests
  pub never_closes : NeverCloses a.last

abbrev pub AwaitedShape : ℕ → Settings → Batch → Chip → Awaited → Account → Type 0
AwaitedShape l x batch c (awaited.Request q) a = Deciding l x batch c (awaited_fate c.approved) q a
AwaitedShape l x batch c (awaited.Reversal v) a = Reversing l x batch v a
AwaitedShape l x batch c (awaited.Settlement trace) a = Closing l x batch trace 0x0500 201 a
AwaitedShape l x batch c (awaited.Item i) a = UploadingItem l a
AwaitedShape l x batch c (awaited.End trace) a = Closing l x batch trace 0x0320 202 a

-- by the phase; a pending reversal is that of the latest request
abbrev pub Shape : ℕ → Settings → Batch → Chip → Phase → Account → Type 0
Shape l x batch c Resting a = AllDone l a.requests
Shape l x batch c (Waiting w) a = AwaitedShape l x batch c w a
Shape l x batch c (Pending v) a = Latest l pending v.sendings a
Shape l x batch c Settling a = AllDone l a.requests
Shape l x batch c Uploading a = AllDone l a.requests

-- in every phase: the settings, and the books
pub record Kept (l : ℕ) (x : Settings) (c : Counts) (t : Totals) (rs : List Request) : Type 0 where
  pub sendings_set : x.sendings ≡ l
  pub shaped : SettingsShaped x
  pub books : Books c t rs

pub record Tied (l : ℕ) (s : State) (a : Account) : Type 0 where
  pub kept : Kept l s.settings s.counts s.totals a.requests
  pub shape : Shape l s.settings s.batch s.chip s.phase a

pub fate-waits : (b : Bool) → is_waiting (awaited_fate b) ≡ true
fate-waits true = refl
fate-waits false = refl

-- at most the latest request waits, and no reversal was sent more than l times
pub record Bounded (l : ℕ) (rs : List Request) : Type 0 where
  pub one_waits : waiting rs ≤ 1
  pub few : EachRequest (λ q. q.sendings ≤ l) rs

module _ (l : ℕ) (a : Account) where
  bounded_done : AllDone l a.requests → Bounded l a.requests
  bounded_done d = let z = none-waits l a.requests d in record { one_waits = omega arith; few = all-few l a.requests d }

  bounded_latest : (f : Fate) (n : ℕ) → is_waiting f ≡ true → Latest l f n a → Bounded l a.requests
  bounded_latest f n w d =
      let e = d.few in
      let k = d.sendings_are in
      rw d.requests_are
      (record {
        one_waits = rw (d.fate_is, w, none-waits l d.rest d.done) (omega arith);
        few = (omega arith, all-few l d.rest d.done);
      })

  -- between the cause of a reversal and its end there is one
  pub one-reversing : (f : Fate) (n : ℕ) → in_reversal f ≡ true → Latest l f n a → in_reversals a.requests ≡ 1
  one-reversing f n w d = rw (d.requests_are, d.fate_is, w, none-reversing l d.rest d.done)

  module _ (x : Settings) (batch : Batch) (c : Chip) where
    awaited_bounded : (w : Awaited) → AwaitedShape l x batch c w a → Bounded l a.requests
    awaited_bounded (awaited.Request q) d = bounded_latest (awaited_fate c.approved) 0 (fate-waits c.approved) d.latest
    awaited_bounded (awaited.Reversal v) d = bounded_latest (out d.reversal) v.sendings refl d.latest
    awaited_bounded (awaited.Settlement trace) d = bounded_done d.done
    awaited_bounded (awaited.Item i) d = bounded_done d.done
    awaited_bounded (awaited.End trace) d = bounded_done d.done

    shape_bounded : (p : Phase) → Shape l x batch c p a → Bounded l a.requests
    shape_bounded Resting d = bounded_done d
    shape_bounded (Waiting w) d = awaited_bounded w d
    shape_bounded (Pending v) d = bounded_latest pending v.sendings refl d
    shape_bounded Settling d = bounded_done d
    shape_bounded Uploading d = bounded_done d

pub bounded : {l : ℕ} {s : State} {a : Account} → Tied l s a → Bounded l a.requests
bounded {l} {s} {a} h = shape_bounded l a s.settings s.batch s.chip s.phase h.shape
