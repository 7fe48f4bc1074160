-- The invariant: what the terminal's state says of where the history says that it stands.
use mathlib.Core.Path.{◌≡◌, refl, sym, ap, ◌∙◌}
use mathlib.Core.List.{List, [], ◌∷◌, ◌++◌}
use mathlib.Core.Bool.{Bool, true, false, cond, true≢false}
use Prim.Native.Nat.{ℕ, ◌+◌}
use lib.Dec.{ltb}
use Rattle.digits.specs.Numbers.{digits_of}
use Rattle.message.specs.Build.{Item, digits, bytes, has, find}
use Rattle.message.specs.Message.{field_of}
use Rattle.message.specs.declared.Message.{Message}
use Rattle.reading.specs.Reading.{read_message, Reading, Read}
use Rattle.answer_match.specs.Match.{approves_request, approval_holds}
use Rattle.approval.specs.Approval.{approval_of}
use Rattle.numbers.specs.declared.Batch.{Batch}
use Rattle.entry.specs.declared.Entry.{Entry}
use Rattle.journal.specs.Journal.{entries_of, entry_at}
use Rattle.state.specs.declared.Awaited.{Awaited}
use Rattle.state.specs.declared.Awaited.TheVariants as awaited
use Rattle.state.specs.declared.Chip.{Chip}
use Rattle.state.specs.declared.Phase.{Phase}
use Rattle.state.specs.declared.Phase.TheVariants.{Resting, Waiting, Pending, Settling, Uploading}
use Rattle.state.specs.declared.Request.{Request as Asked}
use Rattle.state.specs.declared.Reversal.{Reversal}
use Rattle.state.specs.declared.Settings.{Settings}
use Rattle.state.specs.declared.State.{State}
use Rattle.state.specs.State as state
use Rattle.state.specs.State.{chip_bytes, has_chip, approval_in, waits, pends}
use Rattle.state_rules.specs.StateRules.{request_awaited}
use Rattle.state_rules.proofs.Holds.{ChipHolds}
use Rattle.outgoing.specs.Outgoing as outgoing
use Rattle.outgoing.specs.Outgoing.{reason_code}
use Rattle.outgoing_theorems.specs.Theorems.{Reads}
use Rattle.outgoing_theorems.proofs.Theorems.{chip-read}
use Rattle.kinds.specs.Kinds.{takes_original}
use Rattle.history.specs.Words.{message_in, kind_in, amount_in, carries_chip}
use Rattle.history.specs.History.{Fate, deciding, consenting, pending, out, ended, Request, Account, is_waiting, count}
use Rattle.history.proofs.Said.{Says}
use Rattle.history.proofs.Sent.{Asks}
use Rattle.history.proofs.Requests.{AllDone}
use Rattle.history.proofs.Tied.{Latest, awaited_fate, AwaitedShape, Shape}
use Rattle.history_theorems.specs.Standing.{Stage, running, settling, uploading, Standing, trace_in, next}
use Rattle.history_theorems.specs.Approvals.{original_in}
use Rattle.history_theorems.specs.Judged.{card_fields, EachOf, is_pending, reversal_pending, closes, uploads}

-- whether the last message is awaited, and the stage of the batch
pub record At (awaits : Bool) (stage : Stage) (y : Standing) : Type 0 where
  pub awaits_is : y.awaited ≡ awaits
  pub stage_is : y.stage ≡ stage

-- the message sent last is the awaited one
abbrev pub SentLast : Settings → Batch → List Entry → Awaited → Standing → Type 0
SentLast x batch es (awaited.Request q) y = Asks x batch q y.message
SentLast x batch es (awaited.Reversal v) y = Says x batch v.request.trace 0x0400 v.request.kind 0 y.message
SentLast x batch es (awaited.Settlement t) y = Says x batch t 0x0500 0 201 y.message
SentLast x batch es (awaited.Item i) y = Says x batch (entry_at es i).trace 0x0320 (entry_at es i).kind 201 y.message
SentLast x batch es (awaited.End t) y = Says x batch t 0x0320 0 202 y.message

abbrev pub stage_of : Awaited → Stage
stage_of (awaited.Request q) = running
stage_of (awaited.Reversal v) = running
stage_of (awaited.Settlement t) = settling
stage_of (awaited.Item i) = uploading
stage_of (awaited.End t) = uploading

abbrev pub PhaseStands : Settings → Batch → List Entry → Phase → Standing → Type 0
PhaseStands x batch es Resting y = At false running y
PhaseStands x batch es (Waiting w) y = At true (stage_of w) y × SentLast x batch es w y
PhaseStands x batch es (Pending v) y = At false running y
PhaseStands x batch es Settling y = At false settling y
PhaseStands x batch es Uploading y = At false uploading y

-- signed on or off, the batch number, the card requests sent, the next trace and whether the card's word is awaited, in every phase
abbrev pub Members : State → Standing → Type 0
Members s y =
    (s.signed_on ≡ y.signed) × (s.batch.0 ≡ y.batch) × (s.counts.sent ≡ y.requests) × (s.next.0 ≡ next y.taken)
    × (s.chip.approved ≡ y.card)

-- a message holds what every card request of this one's holds, and field 55 where there is a chip
pub record HoldsCard (x : Settings) (batch : Batch) (c : Chip) (q : Asked) (m : Message) : Type 0 where
  pub plain : EachOf (λ n. field_of m n ≡ find (outgoing.plain_fields x batch c q) n) card_fields
  pub carries : carries_chip m ≡ has_chip c
  pub chip : has_chip c ≡ true → field_of m 55 ≡ (bytes 55 (chip_bytes c)).field

-- so does a message that reads back to the fields of its card and others
pub card-read : (x : Settings) (batch : Batch) (c : Chip) (q : Asked) (i : ℕ) (others : List Item) (r : Reading) → has others 55 ≡ false
    → Reads i (outgoing.card_fields x batch c q ++ others) r → HoldsCard x batch c q r.message
unfolding carries_chip
card-read x batch c q i others r n h =
    let k = chip-read x batch c q others i r n h in
    record { plain = (h.fields 2 refl, (h.fields 3 refl, (h.fields 4 refl, (h.fields 11 refl, (h.fields 22 refl, (h.fields 25 refl, (h.fields 41 refl, (h.fields 42 refl, (h.fields 49 refl, (h.fields 60 refl, (h.fields 64 refl, tt))))))))))); carries = k.named; chip = k.holds }

-- what the message of a card request says of it
pub record Names (q : Asked) (m : Message) : Type 0 where
  pub kind_is : kind_in m ≡ q.kind
  pub amount_is : amount_in m ≡ q.amount
  pub trace_is : trace_in m ≡ q.trace.0
  pub card_is : field_of m 2 ≡ (digits 2 (digits_of q.card.length q.card.number)).field
  pub original_is : takes_original q.kind ≡ true → original_in m ≡ q.original.0

-- the last card request is the one in doubt; its reversal has the reason of the doubt; a new message has its trace
abbrev pub Reversed : Settings → Batch → Chip → Reversal → Standing → Type 0
Reversed x batch c v y = HoldsCard x batch c v.request y.request × (reason_code v.reason ≡ y.reason)

-- where the card's word is awaited, the last answer is the approval that the chip holds
pub record Granted (q : Asked) (c : Chip) (y : Standing) : Type 0 where
  pub bytes : List ℕ
  pub read : (read_message bytes).outcome ≡ Read
  pub answer_is : y.answer ≡ message_in bytes
  pub holds : approval_holds q.kind q.amount (message_in bytes) ≡ true
  pub good : approves_request q.kind (message_in bytes) ≡ true
  pub approval_is : approval_in c ≡ approval_of (message_in bytes)

-- an awaited request is the last card request, and the message sent last
pub record RequestDetails (x : Settings) (batch : Batch) (c : Chip) (q : Asked) (y : Standing) : Type 0 where
  pub card : HoldsCard x batch c q y.request
  pub says : Names q y.message
  pub carries : carries_chip y.message ≡ has_chip c
  pub granted : c.approved ≡ true → Granted q c y

abbrev pub AwaitedDetails : Settings → Batch → Chip → Awaited → Standing → Type 0
AwaitedDetails x batch c (awaited.Request q) y = RequestDetails x batch c q y
AwaitedDetails x batch c (awaited.Reversal v) y = Reversed x batch c v y
AwaitedDetails x batch c (awaited.Settlement t) y = trace_in y.message ≡ t.0
AwaitedDetails x batch c (awaited.Item i) y = Unit {0}
AwaitedDetails x batch c (awaited.End t) y = trace_in y.message ≡ t.0

abbrev pub Details : Settings → Batch → Chip → Phase → Standing → Type 0
Details x batch c Resting y = Unit {0}
Details x batch c (Waiting w) y = AwaitedDetails x batch c w y
Details x batch c (Pending v) y = Reversed x batch c v y
Details x batch c Settling y = Unit {0}
Details x batch c Uploading y = Unit {0}

pub record Stands (s : State) (j : List ℕ) (y : Standing) : Type 0 where
  pub members : Members s y
  pub phase_is : PhaseStands s.settings s.batch (entries_of s.entries j) s.phase y
  pub details : Details s.settings s.batch s.chip s.phase y

-- only where a request is awaited is the card's word
pub unapproved : (p : Phase) (c : Chip) → ChipHolds p c → request_awaited p ≡ false → c.approved ≡ false
unapproved p c k r = go c.approved refl
  where
    go : (b : Bool) → c.approved ≡ b → b ≡ false
    go true e = absurd (true≢false (sym (rw r at (k.awaited e))))
    go false e = refl

-- nor where nothing is awaited
pub idle_unapproved : (p : Phase) (c : Chip) → ChipHolds p c → waits p ≡ false → c.approved ≡ false
idle_unapproved Resting c k w = unapproved Resting c k refl
idle_unapproved (Waiting a) c k w = absurd (true≢false w)
idle_unapproved (Pending v) c k w = unapproved (Pending v) c k refl
idle_unapproved Settling c k w = unapproved Settling c k refl
idle_unapproved Uploading c k w = unapproved Uploading c k refl

-- what the phase says of the standing
module _ (x : Settings) (batch : Batch) (es : List Entry) (y : Standing) where
  pub awaits : (p : Phase) → PhaseStands x batch es p y → waits p ≡ y.awaited
  awaits Resting h = sym h.awaits_is
  awaits (Waiting w) h = sym h.0.awaits_is
  awaits (Pending v) h = sym h.awaits_is
  awaits Settling h = sym h.awaits_is
  awaits Uploading h = sym h.awaits_is

  pub closing : (p : Phase) → waits p ≡ false → PhaseStands x batch es p y → state.closes p ≡ closes y.stage
  closing Resting w h = ap closes (sym h.stage_is)
  closing (Waiting a) w h = absurd (true≢false w)
  closing (Pending v) w h = ap closes (sym h.stage_is)
  closing Settling w h = ap closes (sym h.stage_is)
  closing Uploading w h = ap closes (sym h.stage_is)

  pub uploaded : (p : Phase) → waits p ≡ false → PhaseStands x batch es p y → state.uploads p ≡ uploads y.stage
  uploaded Resting w h = ap uploads (sym h.stage_is)
  uploaded (Waiting a) w h = absurd (true≢false w)
  uploaded (Pending v) w h = ap uploads (sym h.stage_is)
  uploaded Settling w h = ap uploads (sym h.stage_is)
  uploaded Uploading w h = ap uploads (sym h.stage_is)

-- where nothing is awaited the phase needs no more than the stage, and over a reversal that is to be sent the request and its reason
module _ (x : Settings) (batch other : Batch) (es : List Entry) (y z : Standing) (still : z.awaited ≡ y.awaited) (stage : z.stage ≡ y.stage) where
  still_at : {e : Stage} → At false e y → At false e z
  still_at k = record { awaits_is = still ∙ k.awaits_is; stage_is = stage ∙ k.stage_is }

  pub still_phase : (p : Phase) → waits p ≡ false → PhaseStands x batch es p y → PhaseStands x other es p z
  still_phase Resting w k = still_at k
  still_phase (Waiting v) w k = absurd (true≢false w)
  still_phase (Pending v) w k = still_at k
  still_phase Settling w k = still_at k
  still_phase Uploading w k = still_at k

pub still_details : (x : Settings) (batch : Batch) (c : Chip) (y z : Standing) → z.request ≡ y.request → z.reason ≡ y.reason
    → (p : Phase) → waits p ≡ false → Details x batch c p y → Details x batch c p z
still_details x batch c y z q r Resting w d = tt
still_details x batch c y z q r (Waiting v) w d = absurd (true≢false w)
still_details x batch c y z q r (Pending v) w d = (rw q d.0, d.1 ∙ sym r)
still_details x batch c y z q r Settling w d = tt
still_details x batch c y z q r Uploading w d = tt

-- the reversals to be sent
abbrev pendings : List Request → ℕ
pendings rs = count (λ r. is_pending r.fate) rs

not_pending : (f : Fate) → is_waiting f ≡ false → is_pending f ≡ false
not_pending deciding e = refl
not_pending consenting e = refl
not_pending pending e = e
not_pending (out v) e = refl
not_pending (ended x) e = refl

none-pending : (l : ℕ) (rs : List Request) → AllDone l rs → pendings rs ≡ 0
none-pending l [] d = refl
none-pending l (r ∷ rs) d = rw (not_pending r.fate d.0.has_ended, none-pending l rs d.1)

latest-pending : (l : ℕ) (f : Fate) (n : ℕ) (a : Account) → Latest l f n a → reversal_pending a.requests ≡ is_pending f
unfolding reversal_pending
latest-pending l f n a d = rw (d.requests_are, d.fate_is, none-pending l d.rest d.done) (go (is_pending f))
  where
    go : (b : Bool) → ltb 0 (cond b 1 0 + 0) ≡ b
    go true = refl
    go false = refl

-- an awaited request has no reversal to be sent
undecided : (b : Bool) → is_pending (awaited_fate b) ≡ false
undecided true = refl
undecided false = refl

done-pending : (l : ℕ) (a : Account) → AllDone l a.requests → reversal_pending a.requests ≡ false
unfolding reversal_pending
done-pending l a d = rw (none-pending l a.requests d)

module _ (l : ℕ) (x : Settings) (batch : Batch) (c : Chip) (a : Account) where
  awaited-pending : (w : Awaited) → AwaitedShape l x batch c w a → reversal_pending a.requests ≡ false
  awaited-pending (awaited.Request q) d = latest-pending l (awaited_fate c.approved) 0 a d.latest ∙ undecided c.approved
  awaited-pending (awaited.Reversal v) d = latest-pending l (out d.reversal) v.sendings a d.latest
  awaited-pending (awaited.Settlement t) d = done-pending l a d.done
  awaited-pending (awaited.Item i) d = done-pending l a d.done
  awaited-pending (awaited.End t) d = done-pending l a d.done

  pub pending-is : (p : Phase) → Shape l x batch c p a → pends p ≡ reversal_pending a.requests
  pending-is Resting d = sym (done-pending l a d)
  pending-is (Waiting w) d = sym (awaited-pending w d)
  pending-is (Pending v) d = sym (latest-pending l pending v.sendings a d)
  pending-is Settling d = sym (done-pending l a d)
  pending-is Uploading d = sym (done-pending l a d)
