-- The functions for C on the worked cases: each example computes.
use mathlib.Core.Path.{refl}
use Rattle.parts.specs.Parts.{taken}
use Rattle.image_definitions.specs.Layout.{widths, bytes_of, first_of}
use Rattle.image_definitions.specs.Image.{values_of, region_of, image, state_of, judged, read_image}
use Rattle.interface_definitions.specs.Interface.{field_at, number_at, totals_on, sums_on}
use Rattle.worked.specs.ForC.{ForC}
use Rattle.worked.proofs.Machine.{machine}

pub for_c : ForC
unfolding machine taken widths bytes_of first_of values_of region_of image state_of judged read_image field_at number_at totals_on sums_on
for_c =
    record {
      keyed = refl;
      set = refl;
      amount = refl;
      fits = refl;
      short = refl;
      not_held = refl;
      totals = refl;
      sums = refl;
      sums_no_image = refl;
      sums_short = refl;
      sums_other = refl;
      debit_amount = refl;
      debit_count = refl;
      credit_amount = refl;
      credit_count = refl;
      approved = refl;
      asked_amount = refl;
      approved_amount = refl;
      sign_on_trace = refl;
    }
