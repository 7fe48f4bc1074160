-- `rehearse::write_echo` meets its contract.
use Rattle.std.proofs.Common.{sym, length-take-le}
use Rattle.texts.proofs.Texts.{within}
use Rattle.rehearse.proofs.write_echo.Goals as goal

pub slice_bounds-text-end : goal.slice_bounds-text-end
slice_bounds-text-end c = within c.echoed-n.ensures

pub slice_bounds-write_all-end : goal.slice_bounds-write_all-end
slice_bounds-write_all-end c = sym (length-take-le _ _ (within c.echoed-n.ensures))
