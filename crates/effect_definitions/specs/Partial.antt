-- Document 02, request 4: what is proved of an approval in part, by what it leaves.
use Rattle.std.specs.Prelude.{◌≡◌, Bool, true, false, List, [], ◌∷◌, ℕ, ◌+◌}
use Rattle.digits.specs.Packed.{numeral}
use Rattle.parts.specs.Parts.{matches, number_in}
use Rattle.message.specs.declared.Message.{Message}
use Rattle.answer_match.specs.Match.{good_mac}
use Rattle.entry.specs.declared.Entry.{Entry}
use Rattle.journal.specs.Journal.{put_entry}
use Rattle.state.specs.State.{has_chip}
use Rattle.state.specs.declared.Awaited.TheVariants as awaited
use Rattle.state.specs.declared.Phase.TheVariants.{Resting, Pending}
use Rattle.state.specs.declared.Reason.TheVariants.{BadMac}
use Rattle.state.specs.declared.Request.{Request}
use Rattle.state.specs.declared.State.{State}
use Rattle.effect_definitions.specs.JournalEffects.{Changed, on_request, agreed}

-- field 39 is 10
unfoldable pub is_partial : Message → Bool
is_partial a = matches a 39 (0x31 ∷ 0x30 ∷ [])

-- the amount that an answer says, field 4
unfoldable pub answered_amount : Message → ℕ
answered_amount a = numeral (number_in a 4 0 12)

-- a sale is entered and booked for an amount: one entry more, which holds it, and a debit more
pub record EnteredFor (amount : ℕ) (q : Request) (s : State) (j : List ℕ) (c : Changed) : Type 0 where
  pub entry : Entry
  pub written : c.journal ≡ put_entry s.entries entry j
  pub amount_is : entry.amount ≡ amount
  pub trace_is : entry.trace ≡ q.trace
  pub debit_is : c.state.totals.debit ≡ s.totals.debit + amount
  pub approved_is : c.state.counts.approved ≡ s.counts.approved + 1
  pub phase_is : c.state.phase ≡ Resting

-- a good 10 to a sale without a chip enters the answered amount
abbrev pub PartEntered : Type 0
PartEntered = (good : Bool) (a : Message) (q : Request) (s : State) (j : List ℕ) → q.kind ≡ 22 → is_partial a ≡ true → good_mac good a ≡ true
    → has_chip s.chip ≡ false → EnteredFor (answered_amount a) q s j (on_request good a q s j)

-- with a chip the card's consent enters it
abbrev pub ConsentEnters : Type 0
ConsentEnters = (good : Bool) (a : Message) (q : Request) (s : State) (j : List ℕ) → q.kind ≡ 22 → is_partial a ≡ true → good_mac good a ≡ true
    → has_chip s.chip ≡ true → EnteredFor (answered_amount a) q s j (agreed (awaited.Request q) (on_request good a q s j).state j)

-- a 10 whose MAC is bad makes a reversal of the whole request, with the amount that it asked for
abbrev pub PartReversedWhole : Type 0
PartReversedWhole = (good : Bool) (a : Message) (q : Request) (s : State) (j : List ℕ) → q.kind ≡ 22 → is_partial a ≡ true → good_mac good a ≡ false
    → ((on_request good a q s j).state.phase ≡ Pending (record { request = q; reason = BadMac; sendings = 0 })) × ((on_request good a q s j).journal ≡ j)

-- to every other kind 10 is a decline, whatever the MAC
abbrev pub PartDeclined : Type 0
PartDeclined = (good : Bool) (a : Message) (q : Request) (s : State) (j : List ℕ) → (q.kind ≡ 22 → ⊥) → is_partial a ≡ true
    → ((on_request good a q s j).state.counts.declined ≡ s.counts.declined + 1)
    × (((on_request good a q s j).state.totals ≡ s.totals) × ((on_request good a q s j).journal ≡ j))
