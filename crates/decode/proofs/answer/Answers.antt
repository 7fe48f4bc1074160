-- `decode::answer` meets its contract.
use Rattle.std.proofs.Common.{sym, ◌∙◌, arith, length-take-le}
use Rattle.hexadecimal.proofs.Hexadecimal.{outcome_fits}
use Rattle.decode.proofs.answer.Goals as goal

pub slice_bounds-bytes-end : goal.slice_bounds-bytes-end
slice_bounds-bytes-end c =
    omega (arith, outcome_fits _ _ (sym c.hex_into.ensures.0 ∙ c.in-Ok.is), c.hex_into.auto.out)

pub slice_bounds-show-end : goal.slice_bounds-show-end
slice_bounds-show-end c =
    sym (length-take-le _ _ (omega (arith, outcome_fits _ _ (sym c.hex_into.ensures.0 ∙ c.in-Ok.is), c.hex_into.auto.out)))
