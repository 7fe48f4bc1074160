-- `word_values::decimal_in` meets its contract.
use Rattle.word_values.proofs.Values.{number_read}
use Rattle.word_values.proofs.decimal_in.Goals as goal

pub returns : goal.returns
returns c =
    number_read _ _ _ _ c.if-n-eq0.false c.if-longest-n.false c.digits_into.ensures c.number_of.ensures
