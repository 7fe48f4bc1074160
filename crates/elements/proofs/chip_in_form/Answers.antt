-- `elements::chip_in_form` meets its contract.
use Rattle.elements.specs.Elements.{chip_in_form}
use Rattle.elements.proofs.chip_in_form.Goals as goal

pub returns : goal.returns
unfolding chip_in_form
returns c = rw c.in_form.ensures
