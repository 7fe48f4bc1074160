-- Laws of the words of a line and of the rows of a table, counted from the first.
use Rattle.std.proofs.Common.{◌≡◌, ℕ, zero, suc, ◌+◌, ◌-◌, ◌<◌, true, false, cond, List, refl, sym, ◌∙◌, add-one, arith}
use Rattle.digits.specs.Lists.{same_bytes}
use Rattle.words.specs.Words.{rest, after, word_at}
use Rattle.words.specs.Rows.{first_row, other_rows, rows_after, row, row_named}

after_suc : (k : ℕ) (s : List ℕ) → after (suc k) s ≡ rest (after k s)
after_suc zero s = refl
after_suc (suc k) s = after_suc k (rest s)

pub after_next : (k : ℕ) (s : List ℕ) → after (k + 1) s ≡ rest (after k s)
after_next k s = rw add-one (after_suc k s)

rows_suc : (k : ℕ) (t : List ℕ) → rows_after (suc k) t ≡ other_rows (rows_after k t)
rows_suc zero t = refl
rows_suc (suc k) t = rows_suc k (other_rows t)

pub rows_next : (k : ℕ) (t : List ℕ) → rows_after (k + 1) t ≡ other_rows (rows_after k t)
rows_next k t = rw add-one (rows_suc k t)

-- none of the first k of n rows of t has the name w
pub record Past (n : ℕ) (w t : List ℕ) (k : ℕ) : Type 0 where
  pub eq : row_named n w t ≡ k + row_named (n - k) w (rows_after k t)

pub past_none : (n : ℕ) (w t : List ℕ) → Past n w t 0
past_none n w t = let q : n - 0 ≡ n = omega arith in record { eq = rw q (omega arith) }

named_of : (m : ℕ) (w t : List ℕ) → 0 < m
    → row_named m w t ≡ cond (same_bytes w (word_at 0 (first_row t))) 0 (suc (row_named (m - 1) w (other_rows t)))
unfolding row_named
named_of zero w t h = absurd (omega arith)
named_of (suc m) w t h = let q : suc m - 1 ≡ m = omega arith in rw q

module _ {n k : ℕ} {w t : List ℕ} (p : Past n w t k) where
  pub past_here : k < n → same_bytes w (word_at 0 (row k t)) ≡ true → k ≡ row_named n w t
  unfolding row
  past_here h e = sym (p.eq ∙ rw (named_of (n - k) w (rows_after k t) (omega arith), e) (omega arith))

  pub past_more : k < n → same_bytes w (word_at 0 (row k t)) ≡ false → Past n w t (k + 1)
  unfolding row
  past_more h e =
      let q : n - (k + 1) ≡ n - k - 1 = omega arith in
      record { eq = p.eq ∙ rw (named_of (n - k) w (rows_after k t) (omega arith), e, q, rows_next k t) (omega arith) }

  pub past_all : n ≡ k → n ≡ row_named n w t
  unfolding row_named
  past_all h = let q : n - k ≡ 0 = omega arith in h ∙ sym (p.eq ∙ rw q (omega arith))
