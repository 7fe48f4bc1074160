-- `field::listed_indicator` meets its contract.
use Rattle.std.proofs.Common.{◌∙◌}
use Rattle.field.proofs.Formats.{among_any}
use Rattle.field.specs.Table.{indicators}
use Rattle.field.proofs.listed_indicator.Goals as goal

pub returns : goal.returns
unfolding indicators
returns c = c.contains.ensures.value ∙ among_any c.args.x indicators
