-- `grammar::table::shape_named` meets its contract.
use Rattle.grammar.proofs.Tables.{entry_or}
use Rattle.grammar.specs.Table.{shapes, shape_named}
use Rattle.grammar.specs.declared.Shape.TheVariants.{End}
use Rattle.grammar.proofs.table.shape_named.Goals as goal

pub returns : goal.returns
unfolding shape_named
returns c =
    rw (
      c.unwrap_or.ensures,
      c.copied.ensures,
      entry_or shapes c.row_named-k.result End c.get.result c.get.ensures.lookup.3,
      c.row_named-k.ensures,
    )
