-- Tables of text: each row ends in a line feed, and its first word is its name.
use Rattle.std.specs.Prelude.{List, cond, ℕ, zero, suc, take, drop}
use Rattle.words.specs.Bytes.{index_of}
use Rattle.words.specs.Words.{word_at}
use Rattle.digits.specs.Lists.{same_bytes}

-- the first row of a table, and the rows that follow it
unfoldable pub first_row : List ℕ → List ℕ
first_row t = take (index_of 0x0A t) t

unfoldable pub other_rows : List ℕ → List ℕ
other_rows t = drop (suc (index_of 0x0A t)) t

-- what follows k rows
abbrev pub rows_after : ℕ → List ℕ → List ℕ
rows_after zero t = t
rows_after (suc k) t = rows_after k (other_rows t)

-- row k, the first being 0; empty where there are fewer
unfoldable pub row : ℕ → List ℕ → List ℕ
row k t = first_row (rows_after k t)

-- the number of the first of n rows that has the name w; n where none has
unfoldable pub row_named : ℕ → List ℕ → List ℕ → ℕ
row_named zero w t = 0
row_named (suc n) w t = cond (same_bytes w (word_at 0 (first_row t))) 0 (suc (row_named n w (other_rows t)))
