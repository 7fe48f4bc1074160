-- `rehearse::rehearse` meets its contract.
use Rattle.std.proofs.Common.{◌∙◌, rules}
use Rattle.rehearse.proofs.Scripts.{last_number}
use Rattle.rehearse.proofs.rehearse.Goals as goal

pub returns : goal.returns
returns c =
    (c.rehearse_lines.ensures.file_is ∙ c.new-2.ensures.0 ∙ search rules, last_number c.rehearse_lines.ensures c.new-2.ensures.1)
