-- `image::put_region` meets its contract: the parts are put one after the other.
use Rattle.std.proofs.Common.{◌≤◌, length, arith, rules}
use Rattle.image.proofs.Region.{region_put}
use Rattle.image.proofs.put_region.Goals as goal

pub slice_bounds-copy-end-3 : goal.slice_bounds-copy-end-3
slice_bounds-copy-end-3 c = let h : 255 ≤ length c.args.out.now = omega arith in search rules

pub returns : goal.returns
returns c =
    region_put c.args.c c.args.out.now (search rules) (search rules) (search rules) (search rules) c.requires
    c.copy.ensures c.copy-2.ensures c.copy-3.ensures c.copy-4.ensures
