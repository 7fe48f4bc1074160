-- `parts::bounds_of` meets its contract.
use Rattle.std.proofs.Common.{arith, sym, ◌∙◌}
use Rattle.std.proofs.Math.Nat.{min_comm}
use Rattle.message.proofs.Standing.{standing}
use Rattle.parts.proofs.Places.{found_end, bounded_found, bounded_missing}
use Rattle.parts.proofs.bounds_of.Goals as goal

pub held_in-held-requires : goal.held_in-held-requires
held_in-held-requires c = (standing _ (sym c.locate.ensures ∙ c.in-Some.is)).row_below

pub overflow_add-end : goal.overflow_add-end
overflow_add-end c =
    omega (arith, found_end _ (sym c.locate.ensures ∙ c.in-Some.is) c.held_in-held.ensures c.held_in-held.type_inv (rw c.held_in-held.ensures at c.size_of.ensures))

pub returns-in-Some : goal.returns-in-Some
returns-in-Some c =
    bounded_found _ _ (sym c.locate.ensures ∙ c.in-Some.is) (c.from.ensures ∙ c.held_in-held.ensures) (rw c.from.ensures c.held_in-held.type_inv)
    (rw c.held_in-held.ensures at c.size_of.ensures) (c.min.ensures ∙ min_comm _ _)

pub returns-in-None : goal.returns-in-None
returns-in-None c = bounded_missing _ _ (sym c.locate.ensures ∙ c.in-None.is)
