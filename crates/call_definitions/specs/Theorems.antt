-- What is proved of single calls that pass the rules before: sentences of document 01, by what is left.
use Rattle.std.specs.Prelude.{◌≡◌, Bool, true, false, List, ℕ, ◌+◌}
use Rattle.numbers.specs.Numbers.{following}
use Rattle.checks.specs.Checks.{first_broken}
use Rattle.kinds.specs.Kinds.{is_never_reversed}
use Rattle.reading.specs.Reading.{read_message, Read}
use Rattle.entry.specs.declared.Entry.{Entry}
use Rattle.approval.specs.Approval.{approved_entry}
use Rattle.journal.specs.Journal.{entries_of, put_entry, taken}
use Rattle.desk.specs.declared.Desk.{Desk}
use Rattle.calls.specs.declared.Call.TheVariants.{PowerReturned, CardAgrees, CardDeclines}
use Rattle.rules.specs.Rules.{rules12}
use Rattle.state.specs.State.{approval_in, is_waiting}
use Rattle.state.specs.Calls.{Lent, refused}
use Rattle.state.specs.declared.Awaited.TheVariants as awaited
use Rattle.state.specs.declared.Phase.TheVariants.{Waiting, Pending}
use Rattle.state.specs.declared.Reason.TheVariants.{Silence}
use Rattle.state.specs.declared.Request.{Request}
use Rattle.state.specs.declared.Reversal.{Reversal}
use Rattle.state.specs.declared.State.{State}
use Rattle.effect_definitions.specs.JournalEffects.{original_voided}
use Rattle.call_definitions.specs.Answer.{answer, power_returned, awaits_card, card_agrees}
use Rattle.call_definitions.specs.Events.{call, event_of}
use Rattle.call_definitions.specs.SendReversal.{send_reversal, send_reversal_rules}
use Rattle.call_definitions.specs.SignOn.{sign_on, sign_on_rules}
use Rattle.call_definitions.specs.Start.{start, start_rules, entry_of, original_of}

-- the entries of the journal that is lent
abbrev pub entries_in : State → Lent → List Entry
entries_in s lent = entries_of s.entries lent.journal

-- an answer that reads, while nothing is awaited, is refused by 14
abbrev pub LateAnswerRefused : Type 0
LateAnswerRefused = (b : List ℕ) (good : Bool) (s : State) (lent : Lent) → first_broken (rules12 s lent) ≡ 0
    → (read_message b).outcome ≡ Read → is_waiting s ≡ false → answer b good s lent ≡ refused 14 s lent

-- so is one while the card's word is awaited (document 02, request 1)
abbrev pub AnswerToCardRefused : Type 0
AnswerToCardRefused = (b : List ℕ) (good : Bool) (s : State) (lent : Lent) → first_broken (rules12 s lent) ≡ 0
    → (read_message b).outcome ≡ Read → awaits_card s ≡ true → answer b good s lent ≡ refused 14 s lent

-- the card's word where it is not awaited is refused by 14
abbrev pub LateCardRefused : Type 0
LateCardRefused = (d : Desk) (b : List ℕ) (s : State) (lent : Lent) → first_broken (rules12 s lent) ≡ 0 → awaits_card s ≡ false
    → (call (event_of CardAgrees d b) s lent ≡ refused 14 s lent) × (call (event_of CardDeclines d b) s lent ≡ refused 14 s lent)

-- the card's consent adds the entry of the request that is awaited, with the date of the approval before it
abbrev pub ConsentAddsEntry : Type 0
ConsentAddsEntry = (q : Request) (s : State) (lent : Lent) → first_broken (rules12 s lent) ≡ 0 → awaits_card s ≡ true
    → s.phase ≡ Waiting (awaited.Request q)
    → ((card_agrees s lent).state.entries ≡ 1 + s.entries)
    × ((card_agrees s lent).lent.journal ≡ put_entry s.entries (approved_entry q (approval_in s.chip)) (original_voided q (entries_in s lent) lent.journal))

-- when power returns, the awaited request of a kind that is reversed has a pending reversal, not sent yet, by reason of silence
abbrev pub PowerMakesReversal : Type 0
PowerMakesReversal = (q : Request) (s : State) (lent : Lent) → first_broken (rules12 s lent) ≡ 0
    → s.phase ≡ Waiting (awaited.Request q) → s.chip.approved ≡ false → is_never_reversed q.kind ≡ false
    → (power_returned s lent).state.phase ≡ Pending (record { request = q; reason = Silence; sendings = 0 })

-- the return of power signs off
abbrev pub PowerSignsOff : Type 0
PowerSignsOff = (d : Desk) (b : List ℕ) (s : State) (lent : Lent) → first_broken (rules12 s lent) ≡ 0
    → (call (event_of PowerReturned d b) s lent).state.signed_on ≡ false

-- and leaves the sums (document 02, request 2)
abbrev pub PowerKeepsSums : Type 0
PowerKeepsSums = (d : Desk) (b : List ℕ) (s : State) (lent : Lent) → first_broken (rules12 s lent) ≡ 0
    → (call (event_of PowerReturned d b) s lent).state.totals ≡ s.totals

-- a request that leaves uses up the trace that is taken
abbrev pub StartTakesTrace : Type 0
StartTakesTrace = (d : Desk) (b : List ℕ) (s : State) (lent : Lent)
    → first_broken (start_rules d b s (entries_in s lent) (entry_of (original_of d (entries_in s lent)) (entries_in s lent)) lent) ≡ 0
    → (start d b s lent).state.next.0 ≡ following (taken (entries_in s lent) s.next.0)

-- document 02, request 3: so does a sign-on, and its answer is awaited by that trace
abbrev pub SignOnTakesTrace : Type 0
SignOnTakesTrace = (s : State) (lent : Lent) → first_broken (sign_on_rules s lent) ≡ 0
    → ((sign_on s lent).state.next.0 ≡ following (taken (entries_in s lent) s.next.0))
    × ((sign_on s lent).state.sign_on.0 ≡ taken (entries_in s lent) s.next.0)

-- only 1, 2 and 11 refuse it: it passes in every phase that is no wait, signed on or off
abbrev pub SignOnPasses : Type 0
SignOnPasses = (s : State) (lent : Lent) → first_broken (rules12 s lent) ≡ 0 → is_waiting s ≡ false → first_broken (sign_on_rules s lent) ≡ 0

-- the reversal that leaves is that of the pending request, sent once more
abbrev pub ReversalOfRequest : Type 0
ReversalOfRequest = (v : Reversal) (s : State) (lent : Lent) → first_broken (send_reversal_rules s lent) ≡ 0 → s.phase ≡ Pending v
    → (send_reversal s lent).state.phase
    ≡ Waiting (awaited.Reversal (record { request = v.request; reason = v.reason; sendings = v.sendings + 1 }))
