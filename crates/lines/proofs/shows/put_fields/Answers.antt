-- `lines::shows::put_fields` meets its contract.
use Rattle.std.proofs.Common.{sym, ◌∙◌, []}
use Rattle.lines.proofs.Laws.{no_fields, some-fields}
use Rattle.texts.proofs.Texts.{start}
use Rattle.lines.proofs.shows.put_fields.Goals as goal

pub returns-then-is_empty : goal.returns-then-is_empty
returns-then-is_empty c =
    no_fields _ c.last-b.ensures (sym c.is_empty.ensures ∙ c.if-is_empty.true) (c.add.ensures [] (start _))

pub returns : goal.returns
returns c =
    some-fields _ c.last-b.ensures (sym c.is_empty.ensures ∙ c.if-is_empty.false) c.last_message.ensures (c.add_message.ensures [] (start _))
