-- `grammar::shapes::line_fault` meets its contract.
use Rattle.grammar.proofs.Faults.{Left}
use Rattle.grammar.proofs.shapes.line_fault.Given as goal

abbrev pub invariant-loop-i : goal.invariant-loop-i
invariant-loop-i l = Left l.k l.s l.i
