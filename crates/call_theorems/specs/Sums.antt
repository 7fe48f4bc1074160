-- Document 02, request 2: a state whose stored sums differ from its journal breaks rule 2.
use Rattle.std.specs.Prelude.{◌≡◌, false}
use Rattle.journal.specs.Journal.{entries_of, totals_of}
use Rattle.state.specs.declared.State.{State}
use Rattle.state.specs.Calls.{Lent, refused}
use Rattle.rules.specs.Rules.{too_short}
use Rattle.call_definitions.specs.Events.{Event, call}

-- every call on it is refused by 2, unless a buffer is too short
abbrev pub OtherSumsRefused : Type 0
OtherSumsRefused = (e : Event) (s : State) (lent : Lent) → too_short s lent ≡ false
    → (s.totals ≡ totals_of (entries_of s.entries lent.journal) → ⊥) → call e s lent ≡ refused 2 s lent
