-- The words of a line, parted by one or more spaces.
use Rattle.std.specs.Prelude.{List, ℕ, zero, suc, take, drop}
use Rattle.words.specs.Bytes.{index_of}
use Rattle.words.specs.Lines.{trimmed}

-- s from its first space on
unfoldable pub past_word : List ℕ → List ℕ
past_word s = drop (index_of 0x20 s) s

-- the first word of a line, and what follows it without the spaces around it
unfoldable pub first_word : List ℕ → List ℕ
first_word s = take (index_of 0x20 s) s

unfoldable pub rest : List ℕ → List ℕ
rest s = trimmed (past_word s)

-- what follows k words
abbrev pub after : ℕ → List ℕ → List ℕ
after zero s = s
after (suc k) s = after k (rest s)

-- word k, the first being 0; empty where there are fewer
unfoldable pub word_at : ℕ → List ℕ → List ℕ
word_at k s = first_word (after k s)
