-- The layout of the image: numbers one after another, each of so many bytes, the highest byte first; then bytes as they stand.
use Rattle.std.specs.Prelude.{List, [], ◌∷◌, ◌++◌, ℕ, zero, suc, ◌/◌, ◌%◌, get_or, take, drop, replicate}
use Rattle.field.specs.Bitmap.{word_of}

-- the bytes of each number, in the image's order: a row for each number of the state
unfoldable pub widths : List ℕ
widths =
    -- the version of the format
    2
    -- settings: entry limit, sendings, largest refund; field 41; the first 8 bytes of field 42, the other 7
    ∷ 4 ∷ 1 ∷ 8 ∷ 8 ∷ 8 ∷ 7
    -- signed on, batch, next trace, entries
    ∷ 1 ∷ 4 ∷ 4 ∷ 2
    -- counts: sent, approved, declined, reversed, given up, unanswered
    ∷ 4 ∷ 4 ∷ 4 ∷ 4 ∷ 4 ∷ 4
    -- totals: debit amount and count, credit amount and count
    ∷ 8 ∷ 2 ∷ 8 ∷ 2
    -- phase
    ∷ 1
    -- the request of the phase: kind, amount, card number, card length, trace, original trace
    ∷ 1 ∷ 8 ∷ 8 ∷ 1 ∷ 4 ∷ 4
    -- its reversal: reason, sendings
    ∷ 1 ∷ 1
    -- trace of a settlement or of an upload's end, place of an item
    ∷ 4
    -- chip: length of field 55, approved, for which amount
    ∷ 1 ∷ 1 ∷ 8
    -- trace of the sign-on that is awaited, 0 for none
    ∷ 4 ∷ []

-- how many they are
abbrev pub rows : ℕ
rows = 35

-- where the region of bytes stands: after the numbers
abbrev pub region_offset : ℕ
region_offset = 140

-- the bytes of the image
abbrev pub size : ℕ
size = 415

-- the last n bytes of x
unfoldable pub bytes_of : ℕ → ℕ → List ℕ
bytes_of zero x = []
bytes_of (suc n) x = bytes_of n (x / 256) ++ (x % 256 ∷ [])

-- numbers one after another, each in its width; zeros where there is no number
abbrev pub laid_in : List ℕ → List ℕ → List ℕ
laid_in [] xs = []
laid_in (w ∷ ws) xs = bytes_of w (get_or xs 0 0) ++ laid_in ws (drop 1 xs)

-- the numbers that stand one after another in bytes, each in its width
abbrev pub numbers_in : List ℕ → List ℕ → List ℕ
numbers_in [] b = []
numbers_in (w ∷ ws) b = word_of w b ∷ numbers_in ws (drop w b)

-- the first n bytes; zeros where there are fewer
unfoldable pub first_of : ℕ → List ℕ → List ℕ
first_of n b = take n (b ++ replicate n 0)
