-- `message::chip_in_form` meets its contract.
use Rattle.std.proofs.Common.{rules, arith, ◌≡◌, length, ap, sym, ◌∙◌}
use Rattle.elements.specs.Elements.{elements_in_form}
use Rattle.message.specs.Message.{rooms}
use Rattle.message.proofs.Late.{chip-fits, chip_bytes_lem, chip_missing}
use Rattle.message.proofs.chip_in_form.Goals as goal

pub bounds-m-at : goal.bounds-m-at
bounds-m-at c = (chip-fits c.args.m.now (sym c.locate.ensures ∙ c.in-Some.is)).0

pub overflow_add-end : goal.overflow_add-end
overflow_add-end c = omega (arith, chip-fits c.args.m.now (sym c.locate.ensures ∙ c.in-Some.is), c.from.ensures)

pub slice_bounds-in_form-end : goal.slice_bounds-in_form-end
slice_bounds-in_form-end c = omega (arith, chip-fits c.args.m.now (sym c.locate.ensures ∙ c.in-Some.is), c.from.ensures)

pub returns-in-Some : goal.returns-in-Some
returns-in-Some c =
    c.in_form.ensures ∙ ap elements_in_form (chip_bytes_lem c.args.m.now (sym c.locate.ensures ∙ c.in-Some.is) c.from.ensures)

pub returns-in-None : goal.returns-in-None
returns-in-None c = sym (chip_missing c.args.m.now (sym c.locate.ensures ∙ c.in-None.is))
