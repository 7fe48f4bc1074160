-- What is proved of the changes, by what they leave: the sentences of document 01, "Calls", on counts, reversals and silence.
use Rattle.std.specs.Prelude.{◌≡◌, Bool, true, false, List, [], ◌∷◌, ℕ, ◌+◌, ◌*◌, ◌≤◌, ◌<◌, length, get_or}
use Rattle.numbers.specs.Numbers.{following}
use Rattle.numbers.specs.declared.Trace.{Trace}
use Rattle.message.specs.declared.Message.{Message}
use Rattle.field.specs.Table.{among}
use Rattle.kinds.specs.Kinds.{is_never_reversed}
use Rattle.kinds.specs.declared.Totals.{Totals}
use Rattle.answer_match.specs.Match.{approves, approves_request, good_mac, closes_batch}
use Rattle.entry.specs.Entry.{entry_size}
use Rattle.entry.specs.declared.Entry.{Entry}
use Rattle.state.specs.State.{chip_bytes, has_chip, waits}
use Rattle.state.specs.declared.Awaited.{Awaited}
use Rattle.state.specs.declared.Awaited.TheVariants as awaited
use Rattle.state.specs.declared.Chip.{Chip}
use Rattle.state.specs.declared.Phase.TheVariants.{Resting, Waiting, Pending}
use Rattle.state.specs.declared.Reason.TheVariants.{CardDeclined}
use Rattle.state.specs.declared.Request.{Request}
use Rattle.state.specs.declared.Reversal.{Reversal}
use Rattle.state.specs.declared.State.{State}
use Rattle.effect_definitions.specs.StateEffects.{adopts, requested, failed, again, settles, one_more, on_settlement, on_end}
use Rattle.effect_definitions.specs.JournalEffects.{Changed, silent, silent_in, on_request, resent}

-- a batch number is not adopted once a card request has left in the batch
abbrev pub KeptOnceUsed : Type 0
KeptOnceUsed = (s : State) → 0 < s.counts.sent → adopts s ≡ false

-- a request that leaves is counted once
abbrev pub RequestsCounted : Type 0
RequestsCounted = (s : State) (c : Chip) (q : Request) → (requested s c q).counts.sent ≡ 1 + s.counts.sent

-- so is each sending of a reversal
abbrev pub SendingsCounted : Type 0
SendingsCounted = (v : Reversal) → (again v).sendings ≡ 1 + v.sendings

-- after a failed sending the reversal is pending below L sendings, and given up at L
abbrev pub PendingBelowL : Type 0
PendingBelowL = (v : Reversal) (s : State) → v.sendings < s.settings.sendings → (failed v s).phase ≡ Pending v

abbrev pub FreeAtL : Type 0
FreeAtL = (v : Reversal) (s : State) → s.settings.sendings ≤ v.sendings → (failed v s).phase ≡ Resting

-- the trace of a settlement is used up
abbrev pub SettlementTakesTrace : Type 0
SettlementTakesTrace = (s : State) (x : Trace) → (settles s x).next.0 ≡ following x.0

-- silence ends every wait, and leaves a pending reversal pending
abbrev pub SilenceEndsWait : Type 0
SilenceEndsWait = (a : Awaited) (s : State) (j : List ℕ) → waits (silent_in (Waiting a) s j).state.phase ≡ false

abbrev pub PendingStays : Type 0
PendingStays = (v : Reversal) (s : State) (j : List ℕ) → s.phase ≡ Pending v → (silent_in (Pending v) s j).state.phase ≡ Pending v

-- an approval whose MAC is bad writes no entry
abbrev pub BadMacWritesNothing : Type 0
BadMacWritesNothing = (good : Bool) (a : Message) (q : Request) (s : State) (j : List ℕ)
    → approves_request q.kind a ≡ true → good_mac good a ≡ false → (on_request good a q s j).journal ≡ j

-- document 02, request 1: a good approval of a request with a chip writes no entry, counts nothing, and the request is still awaited
pub record Undecided (s : State) (j : List ℕ) (c : Changed) : Type 0 where
  pub journal_stays : c.journal ≡ j
  pub counts_stay : c.state.counts ≡ s.counts
  pub phase_stays : c.state.phase ≡ s.phase

abbrev pub UndecidedBeforeConsent : Type 0
UndecidedBeforeConsent = (good : Bool) (a : Message) (q : Request) (s : State) (j : List ℕ)
    → approves_request q.kind a ≡ true → good_mac good a ≡ true → has_chip s.chip ≡ true → Undecided s j (on_request good a q s j)

-- where the card's word is awaited, silence makes a reversal by reason 06, with the chip as it was sent
abbrev pub SilentCardDeclines : Type 0
SilentCardDeclines = (q : Request) (s : State) (j : List ℕ) → is_never_reversed q.kind ≡ false → s.chip.approved ≡ true
    → ((silent (awaited.Request q) s j).state.phase ≡ Pending (record { request = q; reason = CardDeclined; sendings = 0 }))
    × (chip_bytes (silent (awaited.Request q) s j).state.chip ≡ chip_bytes s.chip)

-- document 02, request 2: an approved sale or completion moves the debit sum and its count, an approved void or refund the credit sum
-- and its count, and each leaves the other side; a pre-authorisation and its void move nothing
abbrev pub DebitMoves : Type 0
DebitMoves = (kind amount : ℕ) (s : State) → among kind (20 ∷ 22 ∷ []) ≡ true
    → (one_more kind amount s).totals
    ≡ record { debit = s.totals.debit + amount; debits = s.totals.debits + 1; credit = s.totals.credit; credits = s.totals.credits }

abbrev pub CreditMoves : Type 0
CreditMoves = (kind amount : ℕ) (s : State) → among kind (21 ∷ 23 ∷ 25 ∷ []) ≡ true
    → (one_more kind amount s).totals
    ≡ record { debit = s.totals.debit; debits = s.totals.debits; credit = s.totals.credit + amount; credits = s.totals.credits + 1 }

abbrev pub NeitherMoves : Type 0
NeitherMoves = (kind amount : ℕ) (s : State) → among kind (10 ∷ 11 ∷ []) ≡ true → (one_more kind amount s).totals ≡ s.totals

-- a batch that closes leaves no sum, whichever answer closes it; one that does not leaves both sums
pub record SumsAfter (closes : Bool) (t u : Totals) : Type 0 where
  pub zero : closes ≡ true → u ≡ record { debit = 0; debits = 0; credit = 0; credits = 0 }
  pub kept : closes ≡ false → u ≡ t

abbrev pub ClosingClearsSums : Type 0
ClosingClearsSums = (a : Message) (s : State)
    → SumsAfter (closes_batch a) s.totals (on_settlement a s).totals × SumsAfter (approves a) s.totals (on_end a s).totals

-- silence, a bad MAC and a card that declines leave the sums
abbrev pub SilenceKeepsSums : Type 0
SilenceKeepsSums = (a : Awaited) (s : State) (j : List ℕ) → (silent a s j).state.totals ≡ s.totals

-- byte 3 of an entry that was sent before grows by 1 as it leaves again
abbrev pub ResendsCounted : Type 0
ResendsCounted = (i : ℕ) (e : Entry) (j : List ℕ) → 0 < e.mark → entry_size * i + 3 < length j
    → get_or (resent i e j) (entry_size * i + 3) 0 ≡ 1 + e.resends
