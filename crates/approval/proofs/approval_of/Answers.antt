-- `approval::approval_of` meets its contract: each part is made by itself.
use Rattle.std.proofs.Common.{ap, ◌∙◌}
use Rattle.digits.specs.Packed.{numeral}
use Rattle.approval.proofs.Approval.{approval_is}
use Rattle.approval.proofs.approval_of.Goals as goal

pub returns : goal.returns
returns c =
    approval_is c.args.m.now (c.unwrap_or.ensures ∙ ap numeral c.part_of.ensures) c.field_into.ensures.1 c.field_into-2.ensures.1
    c.field_into-3.ensures.1
