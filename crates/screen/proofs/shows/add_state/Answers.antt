-- `screen::shows::add_state` meets its contract.
use Rattle.std.proofs.Common.{true, false}
use Rattle.templates.proofs.Templates.{adds-is}
use Rattle.screen.proofs.Lines.{state-filled}
use Rattle.screen.specs.Shows.{state_line, phase_name, state_number}
use Rattle.screen.proofs.shows.add_state.Goals.{then-s, else-s}
use Rattle.screen.proofs.shows.add_state.Goals as goal

pub returns : goal.returns
unfolding state_line phase_name state_number
returns c =
    let a = rw (c.from.ensures, c.from-2.ensures, c.from-3.ensures, c.row.ensures, c.state_number.ensures) at c.add_filled.ensures in
    elim c.if-s.branch [
      | then-s w ↦ rw w.if-s.true (adds-is (state-filled true _ _ _ _) (rw w.template-is at a))
      | else-s w ↦ rw w.if-s.false (adds-is (state-filled false _ _ _ _) (rw w.template-is at a))
    ]
