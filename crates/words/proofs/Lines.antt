-- Laws of lines: what goes with the spaces at their front and at their end.
use Rattle.std.proofs.Common.{◌≡◌, ◌≢◌, ℕ, zero, suc, ◌-◌, ◌<◌, ◌≤◌, Bool, true, false, cond, List, [], ◌∷◌, eqb, length, get_or, take, drop, refl, eq-eqb, arith}
use Rattle.std.proofs.lemmas.List.{take_all, length-take-le, take-take, get_or-take}
use borrow.Author.Tests.{ne_eqb}
use Rattle.digits.proofs.Lists.{tail_part}
use Rattle.words.specs.Lines.{spaces, last_end, cut}

-- a space at the front of s goes
pub start_more : (s : List ℕ) → get_or s 0 0 ≡ 0x20 → drop (spaces (take (length s - 1) (drop 1 s))) (take (length s - 1) (drop 1 s)) ≡ drop (spaces s) s
unfolding spaces
start_more [] e = absurd (omega arith)
start_more (b ∷ s) e = rw (tail_part 1 (b ∷ s), eq-eqb b 0x20 e)

-- another character stays
pub start_done : (s : List ℕ) → get_or s 0 0 ≢ 0x20 → drop (spaces s) s ≡ s
unfolding spaces
start_done [] e = refl
start_done (b ∷ s) e = rw (ne_eqb b 0x20 e)

last_end-le : (s : List ℕ) (n : ℕ) → last_end s n ≤ n
unfolding last_end
last_end-le s zero = omega arith
last_end-le s (suc n) = go (eqb (get_or s n 0) 0x20) (last_end-le s n)
  where
    go : (t : Bool) → last_end s n ≤ n → cond t (last_end s n) (suc n) ≤ suc n
    go true h = omega arith
    go false h = omega arith

last_end-take : (s : List ℕ) (n k : ℕ) → k ≤ n → last_end (take n s) k ≡ last_end s k
unfolding last_end
last_end-take s n zero h = refl
last_end-take s n (suc k) h = rw (last_end-take s n k (omega arith), get_or-take n s k 0 (omega arith))

-- where s ends in character n
module _ (s : List ℕ) (n : ℕ) (l : length s ≡ suc n) where
  -- a space there goes
  last-more : get_or s n 0 ≡ 0x20 → cut (take n s) ≡ cut s
  unfolding cut last_end
  last-more e = rw (l, length-take-le n s (omega arith), eq-eqb _ _ e, last_end-take s n n (omega arith)) (take-take (last_end s n) n s (last_end-le s n))

  -- another character there stays
  last-done : get_or s n 0 ≢ 0x20 → cut s ≡ s
  unfolding cut last_end
  last-done e = rw (l, ne_eqb _ _ e) (take_all (suc n) s (omega arith))

pub end_more : (s : List ℕ) → 1 ≤ length s → get_or s (length s - 1) 0 ≡ 0x20 → cut (take (length s - 1) s) ≡ cut s
end_more s h e = last-more s (length s - 1) (omega arith) e

pub end_done : (s : List ℕ) → 1 ≤ length s → get_or s (length s - 1) 0 ≢ 0x20 → cut s ≡ s
end_done s h e = last-done s (length s - 1) (omega arith) e

pub end_none : (s : List ℕ) → length s < 1 → cut s ≡ s
unfolding cut
end_none s h = take_all (last_end s (length s)) s (omega arith)
