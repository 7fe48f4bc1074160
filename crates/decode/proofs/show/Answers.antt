-- `decode::show` meets its contract.
use Rattle.std.proofs.Common.{sym, arith, length-take-le}
use Rattle.texts.proofs.Texts.{start, within}
use Rattle.decode.proofs.show.Goals as goal

pub slice_bounds-text-end : goal.slice_bounds-text-end
slice_bounds-text-end c = omega (arith, within (c.add_message-n.ensures _ (start _)))

pub slice_bounds-write_all-end : goal.slice_bounds-write_all-end
slice_bounds-write_all-end c =
    sym (length-take-le _ _ (omega (arith, within (c.add_message-n.ensures _ (start _)))))
