-- What is proved of the image, for every state and all bytes.
use Rattle.std.specs.Prelude.{◌≡◌, List, ℕ, length}
use Rattle.state.specs.declared.State.{State}
use Rattle.image_definitions.specs.Layout.{widths, size, numbers_in}
use Rattle.image_definitions.specs.Image.{values_of, image, read_image, accepted, refused}
use Rattle.image_definitions.specs.Sized.{Bytes, Sized}

-- every image has one length
abbrev pub ImageLength : Type 0
ImageLength = (s : State) → length (image s) ≡ size

-- the image, read, is the state
abbrev pub ImageReadsBack : Type 0
ImageReadsBack = (s : State) → Sized s → read_image (image s) ≡ accepted s

-- accepted bytes hold a state, and that state, written again, is the same bytes
abbrev pub ReadImagesBack : Type 0
ReadImagesBack = (b : List ℕ) (s : State) → Bytes b → read_image b ≡ accepted s → Sized s × (image s ≡ b)

-- the numbers of accepted bytes are those of their state: the version is the first, and what the phase does not use is 0
abbrev pub AcceptedNumbers : Type 0
AcceptedNumbers = (b : List ℕ) (s : State) → Bytes b → read_image b ≡ accepted s → numbers_in widths b ≡ values_of s

-- bytes that are the image of no state are refused
abbrev pub OthersRefused : Type 0
OthersRefused = (b : List ℕ) → Bytes b → ((s : State) → Sized s → image s ≡ b → ⊥) → read_image b ≡ refused
