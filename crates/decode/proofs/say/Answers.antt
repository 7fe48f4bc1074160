-- `decode::say` meets its contract.
use Rattle.std.proofs.Common.{sym, arith, length-take-le}
use Rattle.texts.proofs.Texts.{start, within}
use Rattle.decode.proofs.say.Goals as goal

pub slice_bounds-text-end : goal.slice_bounds-text-end
slice_bounds-text-end c =
    omega (arith, within (c.add-n-2.ensures _ (c.add_decimal-n.ensures _ (c.add-n.ensures _ (start _)))))

pub slice_bounds-write_all-end : goal.slice_bounds-write_all-end
slice_bounds-write_all-end c =
    sym (length-take-le _ _ (omega (arith, within (c.add-n-2.ensures _ (c.add_decimal-n.ensures _ (c.add-n.ensures _ (start _)))))))
