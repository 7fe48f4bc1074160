-- `input::more` meets its contract.
use Rattle.std.proofs.Common.{sym, refl, true≢false, arith, rules}
use Rattle.input.proofs.Feeds.{takes-none-read, piece_within, takes_piece}
use Rattle.input.proofs.more.Goals as goal

pub returns-then-left : goal.returns-then-left
returns-then-left c =
    let taken =
    takes-none-read c.at_end.result c.refilled-left.ensures (omega arith)
    c.at_end.ensures.2 c.at_end.ensures.3 c.at_end.ensures.5 c.at_end.ensures.6 in
    (c.at_end.ensures.0, c.at_end.ensures.1, λ e. c.at_end.ensures.3, taken)

pub overflow_add-result : goal.overflow_add-result
overflow_add-result c = omega (arith, piece_within c.refilled-left.ensures)

pub returns : goal.returns
returns c = (
  search rules,
  refl,
  λ e. absurd (true≢false (sym e)),
  takes_piece c.refilled-left.ensures _ c.take_in-taken.ensures.0 c.take_in-taken.ensures.2 (rw c.take_in-taken.ensures.1) refl,
)
