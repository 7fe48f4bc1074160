-- Laws of bytes that are copied over others.
use Rattle.std.proofs.Common.{◌≡◌, ◌≤◌, ℕ, ◌<◌, min, List, ◌++◌, length, take, drop, sym, ◌∙◌, arith}
use Rattle.std.proofs.lemmas.List.{take-append-drop}
use lib.ListN.{drop_of_length-le}
use lib.Seq.{take_all, take-length, drop-length}
use mathlib.Core.List.{append-nil}
use native.Mathlib.Decide.{dec_lt}
use Rattle.digits.specs.Lists.{copied}

-- over as many bytes, all that stands there is what was copied
pub copied_whole : (from out : List ℕ) {x : List ℕ} → x ≡ copied from out → length from ≡ length out → x ≡ from
unfolding copied
copied_whole from out e l =
    e ∙ rw (drop_of_length-le out {i = length from} (omega arith), append-nil) (take_all (length out) from (omega arith))

-- over more bytes, the rest stays
pub copied_short : (from out : List ℕ) {x : List ℕ} → x ≡ copied from out → length from ≤ length out → x ≡ from ++ drop (length from) out
unfolding copied
copied_short from out e l = e ∙ rw (take_all (length out) from l)

-- the first n bytes are copied, as many as both have
pub copied_front : (from out x : List ℕ) (n : ℕ) → n ≡ min (length from) (length out) → length x ≡ length out
    → take n x ≡ take n from → drop n x ≡ drop n out → x ≡ copied from out
unfolding copied
copied_front from out x n m l t d = sym (take-append-drop n x) ∙ go (dec_lt (length from) (length out))
  where
    go : Dec (length from < length out) → take n x ++ drop n x ≡ take (length out) from ++ drop (length from) out
    go (yes h) =
        let k : n ≡ length from = omega arith in
        rw (t, d, k, take-length from, take_all (length out) from (omega arith))
    go (no h) =
        let k : n ≡ length out = omega arith in
        rw (t, d, k, drop-length out, drop_of_length-le out {i = length from} (omega arith))
