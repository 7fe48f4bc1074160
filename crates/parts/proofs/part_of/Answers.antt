-- `parts::part_of` meets its contract.
use Rattle.parts.proofs.part_of.Goals as goal

pub returns : goal.returns
returns c = rw (← c.place_of-at.ensures) c.number_in.ensures
