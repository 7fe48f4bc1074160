-- Document 02, request 5: what a settlement carries, by the journal's five sums.
use Rattle.std.specs.Prelude.{◌≡◌, List, ℕ, take, Some}
use Rattle.kinds.specs.Sums.{together}
use Rattle.kinds.specs.declared.sums.Sums.{Sums}
use Rattle.message.specs.declared.Message.{Message}
use Rattle.parts.specs.Parts.{part_of}
use Rattle.parts.specs.declared.Part.TheVariants as part
use Rattle.entry.specs.declared.Entry.{Entry}
use Rattle.journal.specs.Journal.{entries_of, batch_sums}
use Rattle.journal.specs.Reordered.{Reordered}
use Rattle.state.specs.declared.State.{State}
use Rattle.state.specs.declared.Outcome.TheVariants.{Send}
use Rattle.state.specs.Calls.{Lent}
use Rattle.call_definitions.specs.Events.{call, settles}
use Rattle.call_definitions.specs.Shapes.{SettingsShaped}
use Rattle.history.specs.Words.{message_in}

-- debit and credit, amounts and counts, as the sums make them together
pub record CarriesSums (m : Message) (x : Sums) : Type 0 where
  pub debit_amount : part_of m part.DebitAmount ≡ Some (together x).debit
  pub debit_count : part_of m part.DebitCount ≡ Some (together x).debits
  pub credit_amount : part_of m part.CreditAmount ≡ Some (together x).credit
  pub credit_count : part_of m part.CreditCount ≡ Some (together x).credits

-- every settlement that leaves, from any terminal and journal, in whatever order the entries are added up
abbrev pub SettlementCarriesSums : Type 0
SettlementCarriesSums = (s : State) (lent : Lent) (fs : List Entry) (n : ℕ) → SettingsShaped s.settings → (call settles s lent).outcome ≡ Send n
    → Reordered (entries_of s.entries lent.journal) fs → CarriesSums (message_in (take n (call settles s lent).lent.message)) (batch_sums fs)
