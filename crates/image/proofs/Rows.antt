-- A row of bytes as the code reads it: a part of them, and the number that the part says.
use Rattle.std.proofs.Common.{◌≡◌, ℕ, zero, suc, ◌+◌, ◌-◌, ◌≤◌, List, length, take, drop, refl, arith}
use Rattle.std.proofs.lemmas.List.{get_or-take, length-take, length-take-le, length-drop}
use Rattle.field.specs.Bitmap.{word_of}

word-front : (m n : ℕ) (b : List ℕ) → m ≤ n → word_of m (take n b) ≡ word_of m b
word-front zero n b h = refl
word-front (suc m) n b h = rw (word-front m n b (omega arith), get_or-take n b m 0 h)

pub row-short : (at w : ℕ) (b : List ℕ) → w ≤ 8 → length (take (at + w - at) (drop at b)) ≤ 8
row-short at w b h = omega (arith, length-take (at + w - at) (drop at b))

pub row-number : (at w : ℕ) (b : List ℕ) → at + w ≤ length b
    → word_of (length (take (at + w - at) (drop at b))) (take (at + w - at) (drop at b)) ≡ word_of w (drop at b)
row-number at w b h =
    let n : at + w - at ≡ w = omega arith in
    let l : length (take w (drop at b)) ≡ w = length-take-le w (drop at b) (rw length-drop (omega arith)) in
    rw (n, l) (word-front w w (drop at b) (omega arith))
