-- A field at its place in a message: what the private functions of this crate promise.
use Rattle.std.specs.Prelude.{List, ◌++◌, ℕ, take, drop, set}
use Rattle.message.specs.Build.{Item, padded}
use Rattle.message.specs.declared.Message.{Message}
use Rattle.compose.specs.Compose.{with_bit}

-- bs with b at a place, filled up with zeros to so many bytes
abbrev pub placed : ℕ → ℕ → List ℕ → List ℕ → List ℕ
placed from k b bs = take from bs ++ (padded k b ++ drop k (drop from bs))

-- field n holds so many digits or bytes, in b
abbrev pub item : ℕ → ℕ → List ℕ → Item
item n count b = record { number = n; field = record { count = count; bytes = b } }

-- m with field n, which has this row and this place in the message, holding b
abbrev pub put_at : Message → ℕ → ℕ → ℕ → ℕ → ℕ → List ℕ → Message
put_at m n row from k count b =
    record {
      indicator = m.indicator;
      bitmap = with_bit n m.bitmap;
      counts = set m.counts row count;
      contents = placed from k b m.contents;
    }
