-- `image::chip_in` meets its contract: the parts are copied one by one.
use Rattle.std.proofs.Common.{◌≤◌, length, get_or, arith, rules}
use Rattle.std.proofs.lemmas.Nat.{and_mask}
use Rattle.digits.proofs.Copies.{copied_whole}
use Rattle.image.proofs.Region.{chip-copied}
use Rattle.image.proofs.chip_in.Goals as goal

pub slice_bounds-copy-end : goal.slice_bounds-copy-end
slice_bounds-copy-end c = let h : 255 ≤ length c.args.region.now = omega arith in search rules

pub returns : goal.returns
returns c =
    let h : 255 ≤ length c.args.region.now = omega arith in
    rw (and_mask (get_or c.args.v.now 0 0) 8)
    (chip-copied c.args.v.now c.args.region.now c.requires.1 (copied_whole _ _ c.copy.ensures (search rules))
    (copied_whole _ _ c.copy-2.ensures (search rules)) (copied_whole _ _ c.copy-3.ensures (search rules)) (copied_whole _ _ c.copy-4.ensures (search rules)))
