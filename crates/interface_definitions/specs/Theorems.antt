-- What is proved of the calls on images, for every event and all bytes: what the number that is returned says of the memory that was lent.
use Rattle.std.specs.Prelude.{◌≡◌, List, [], ◌∷◌, ℕ, ◌+◌, ◌-◌, ◌≤◌, get_or}
use Rattle.state.specs.declared.State.{State}
use Rattle.state.specs.declared.Outcome.TheVariants.{Refused}
use Rattle.state.specs.Calls.{Lent}
use Rattle.image_definitions.specs.Image.{image}
use Rattle.image_definitions.specs.Sized.{Bytes, Sized}
use Rattle.call_definitions.specs.Events.{Event, call}
use Rattle.call_definitions.specs.Shapes.{EventShaped}
use Rattle.call_theorems.specs.Facts.{Leaves}
use Rattle.interface_definitions.specs.Interface.{done, absent, sends, Given, given, on_image, totals_on, sums_on}

-- a call on the image of a state gives what the call on the state gives
abbrev pub OnStates : Type 0
OnStates = (e : Event) (s : State) (lent : Lent) → Sized s → on_image e (image s) lent ≡ given (call e s lent)

-- the numbers from 1 to the one before `absent` are left to documents 01 and 02
abbrev pub last : ℕ
last = absent - 1

abbrev pub Numbered : ℕ → Type 0
Numbered n = (1 ≤ n) × (n ≤ last)

-- a call is refused by one of them, and so by none of 0, 254 and 255
abbrev pub NumbersApart : Type 0
NumbersApart = (e : Event) (s : State) (lent : Lent) (n : ℕ) → (call e s lent).outcome ≡ Refused n → Numbered n

-- the number of neither a quiet change nor a message
abbrev pub Other : ℕ → Type 0
Other n = (n ≡ done → ⊥) × (n ≡ sends → ⊥)

-- nothing is to be sent, and nothing has changed
pub record Unchanged (b : List ℕ) (lent : Lent) (g : Given) : Type 0 where
  pub length_is : g.length ≡ 0
  pub image_is : g.image ≡ b
  pub lent_is : g.lent ≡ lent

abbrev pub OthersChangeNothing : Type 0
OthersChangeNothing = (e : Event) (b : List ℕ) (lent : Lent) → Bytes b → Other (on_image e b lent).number → Unchanged b lent (on_image e b lent)

-- where a message is to be sent, as many bytes at the front of the buffer as are told are one that reads; bytes past them stay
abbrev pub SendsAMessage : Type 0
SendsAMessage = (e : Event) (b : List ℕ) (lent : Lent) → Bytes b → EventShaped e → (on_image e b lent).number ≡ sends
    → Leaves (on_image e b lent).length (on_image e b lent).lent.message lent.message

-- document 02, request 5: of the ten numbers the first two sums make the debit of the totals, the last three the credit
abbrev pub in_two : List ℕ → List ℕ
in_two v =
    (get_or v 0 0 + get_or v 2 0) ∷ (get_or v 1 0 + get_or v 3 0)
    ∷ (get_or v 4 0 + get_or v 6 0 + get_or v 8 0) ∷ (get_or v 5 0 + get_or v 7 0 + get_or v 9 0)
    ∷ []

abbrev pub SumsMakeTotals : Type 0
SumsMakeTotals = (b j x t : List ℕ) → (sums_on b j x).number ≡ done → (totals_on b t).left ≡ in_two (sums_on b j x).left
