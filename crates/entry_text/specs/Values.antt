-- Values as text, each after its name.
use Rattle.std.specs.Prelude.{List, [], ◌++◌, ℕ, zero, suc, get_or}
use Rattle.texts.specs.Decimal.{decimal}
use Rattle.texts.specs.Text.{space}
use Rattle.words.specs.Rows.{row}

-- a value after its name; the first k values, each after its name, which is a row of a table
unfoldable pub value_text : List ℕ → ℕ → List ℕ
value_text name x = space ++ name ++ space ++ decimal x

abbrev pub values_text : List ℕ → List ℕ → ℕ → List ℕ
values_text names vs zero = []
values_text names vs (suc k) = values_text names vs k ++ value_text (row k names) (get_or vs k 0)
