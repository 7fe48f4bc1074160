-- `script::names::name_at` meets its contract.
use Rattle.grammar.proofs.Tables.{entry_or}
use Rattle.script.specs.Names.{names}
use Rattle.script.specs.declared.Name.TheVariants.{Unknown}
use Rattle.script.proofs.names.name_at.Goals as goal

pub returns : goal.returns
returns c =
    rw (c.unwrap_or.ensures, c.copied.ensures) (entry_or names c.args.k Unknown c.get.result c.get.ensures.lookup.3)
