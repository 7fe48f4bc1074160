-- `image::state_of` meets its contract.
use Rattle.std.proofs.Common.{get_or}
use Rattle.std.proofs.lemmas.Nat.{and_mask}
use Rattle.image_definitions.specs.Image.{state_of}
use Rattle.image.proofs.state_of.Goals as goal

pub returns : goal.returns
unfolding state_of
returns c =
    let v = c.args.v in
    rw (
      c.settings_of.ensures,
      c.counts_of.ensures,
      c.totals_in.ensures,
      c.phase_of.ensures,
      c.chip_in.ensures,
      and_mask (get_or v 34 0) 32,
      and_mask (get_or v 8 0) 32,
      and_mask (get_or v 9 0) 32,
      and_mask (get_or v 10 0) 16,
    )
