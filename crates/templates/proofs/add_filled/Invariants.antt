-- `templates::add_filled` meets its contract.
use Rattle.templates.proofs.Templates.{FilledTo}
use Rattle.templates.proofs.add_filled.Given as goal

abbrev pub invariant-loop-c : goal.invariant-loop-c
invariant-loop-c l = FilledTo l.template l.values l.x l.n l.initial.out l.c-index l.k l.at l.out
