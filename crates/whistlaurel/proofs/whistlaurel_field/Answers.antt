-- `whistlaurel::whistlaurel_field` meets its contract.
use Rattle.std.proofs.Common.{ap, ◌∙◌}
use Rattle.std.specs.Prelude.{Ok, Err}
use Rattle.interface_definitions.proofs.Leaves.{not_read, field-taken}
use Rattle.whistlaurel.proofs.whistlaurel_field.Goals as goal

pub returns-in-Err : goal.returns-in-Err
returns-in-Err c = rw c.into-in-Err.ensures (not_read _ _ _ _ c.read.ensures c.in-Err.is)

pub returns-in-Ok-take_field : goal.returns-in-Ok-take_field
returns-in-Ok-take_field c =
    field-taken _ _ _ _ c.read.ensures c.in-Ok.is c.take_field.ensures.0 c.take_field.ensures.1 c.in-Ok-take_field.is

pub returns-in-Err-Absent : goal.returns-in-Err-Absent
returns-in-Err-Absent c =
    field-taken _ _ _ _ c.read.ensures c.in-Ok.is c.take_field.ensures.0 c.take_field.ensures.1 (c.in-Err-Absent.is ∙ ap Err c.in-Err-Absent.field-0-is)

pub returns-in-Err-TooLong : goal.returns-in-Err-TooLong
returns-in-Err-TooLong c =
    rw c.into.ensures
    (field-taken _ _ _ _ c.read.ensures c.in-Ok.is c.take_field.ensures.0 c.take_field.ensures.1 (c.in-Err-TooLong.is ∙ ap Err c.in-Err-TooLong.field-0-is))
