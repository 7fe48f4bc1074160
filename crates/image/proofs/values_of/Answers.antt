-- `image::values_of` meets its contract: the numbers are listed one by one.
use Rattle.image_definitions.proofs.Values.{values_listed}
use Rattle.image.proofs.values_of.Goals as goal

pub returns : goal.returns
returns c =
    rw c.from.ensures
    (values_listed c.args.s c.settings_values-x.ensures c.member_values-m.ensures c.counts_values-c.ensures c.totals_values-t.ensures
    c.phase_values-p.ensures c.chip_values-k.ensures)
