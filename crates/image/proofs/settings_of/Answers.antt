-- `image::settings_of` meets its contract.
use Rattle.std.proofs.Common.{get_or}
use Rattle.std.proofs.lemmas.Nat.{and_mask}
use Rattle.image_definitions.proofs.Values.{merchant_put}
use Rattle.image.proofs.settings_of.Goals as goal

pub returns : goal.returns
returns c =
    rw (
      and_mask (get_or c.args.v.now 0 0) 32,
      and_mask (get_or c.args.v.now 1 0) 8,
      c.put_number.ensures,
      merchant_put (get_or c.args.v.now 4 0) (get_or c.args.v.now 5 0) c.put_number-2.ensures c.put_number-3.ensures,
    )
