-- Field 48 of the simulated centre's answer to a settlement.
use Rattle.std.specs.Prelude.{List, [], ◌∷◌, ℕ}
use Rattle.message.specs.declared.Message.{Message}
use Rattle.digits.specs.Packed.{numeral}
use Rattle.parts.specs.Layout.{laid}
use Rattle.parts.specs.Parts.{part_of}
use Rattle.parts.specs.declared.Part.{Part}
use Rattle.parts.specs.declared.Part.TheVariants.{DebitAmount, DebitCount, CreditAmount, CreditCount}

-- a part as sent
abbrev pub sent_part : Part → Message → ℕ
sent_part p m = numeral (part_of m p)

-- field 48 as sent with this digit, and zeros after it
abbrev pub field48_with : Message → ℕ → List ℕ
field48_with m digit =
    laid 48 (sent_part DebitAmount m ∷ sent_part DebitCount m ∷ sent_part CreditAmount m ∷ sent_part CreditCount m ∷ digit ∷ [])
