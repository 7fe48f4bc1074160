-- A request that leaves: what a private function asks and promises.
use Rattle.std.specs.Prelude.{◌≡◌, List, ◌++◌, ℕ, ◌≤◌, length, drop}
use Rattle.message.specs.Message.{largest}
use Rattle.writing.specs.Writing.{message_bytes}
use Rattle.state.specs.declared.Called.{Called}
use Rattle.state.specs.declared.Chip.{Chip}
use Rattle.state.specs.declared.Outcome.TheVariants.{Send}
use Rattle.state.specs.declared.Request.{Request}
use Rattle.state.specs.declared.State.{State}
use Rattle.state.specs.State.{CountsSmall}
use Rattle.outgoing.specs.Held.{CardHeld, OriginalHeld}
use Rattle.outgoing.specs.Outgoing.{request_message}
use Rattle.outgoing.specs.declared.Original.{Original}
use Rattle.effect_definitions.specs.StateEffects.{requested}

-- the request's fields are held, the buffer has room, and one more may be counted
pub record MaySend (s : State) (c : Chip) (q : Request) (o : Original) (m : List ℕ) : Type 0 where
  pub card : CardHeld s.settings c q
  pub original : OriginalHeld q.kind o
  pub room : largest ≤ length m
  pub counts : CountsSmall s.counts

-- the bytes of the request
unfoldable pub request_bytes : State → Chip → Request → Original → List ℕ
request_bytes s c q o = message_bytes (request_message s.settings s.batch c q o)

-- it stands in the buffer, and is awaited
pub record HasSent (s : State) (c : Chip) (q : Request) (o : Original) (m : List ℕ) (r : Called) (after : List ℕ) : Type 0 where
  pub called : r ≡ record { outcome = Send (length (request_bytes s c q o)); state = requested s c q }
  pub buffer : after ≡ request_bytes s c q o ++ drop (length (request_bytes s c q o)) m
