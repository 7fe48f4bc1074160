-- A terminal in order stays in order: each call keeps rules 1 and 2.
use Rattle.std.specs.Prelude.{◌≡◌, true, false}
use Rattle.journal.specs.Journal.{entries_of}
use Rattle.state.specs.declared.State.{State}
use Rattle.state.specs.Calls.{Lent, Result}
use Rattle.rules.specs.Rules.{too_short, keeps_rule2}
use Rattle.call_definitions.specs.Events.{Event, call}

-- rules 1 and 2 let every call pass
pub record Ready (s : State) (lent : Lent) : Type 0 where
  pub long : too_short s lent ≡ false
  pub order : keeps_rule2 s (entries_of s.entries lent.journal) ≡ true

-- what a call leaves is ready for the next
abbrev pub StaysReady : Result → Type 0
StaysReady r = Ready r.state r.lent

-- for every call
abbrev pub Keeping : Type 0
Keeping = (e : Event) (s : State) (lent : Lent) → Ready s lent → StaysReady (call e s lent)
