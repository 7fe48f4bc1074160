-- The entries, by the runs of 48 bytes that hold them.
use Rattle.std.specs.Prelude.{Some, None}
use Rattle.std.specs.List.{position, position_or_len, list_all, enumerate_from}
use Rattle.std.specs.Simd.{first_chunks}
use Rattle.std.proofs.lemmas.List.{take_min}
use mathlib.Core.Path.{◌≡◌, refl, ap, sym, ◌∙◌}
use mathlib.Core.List.{List, [], ◌∷◌, map}
use mathlib.Core.Bool.{Bool, true, false, cond, not, ◌&&◌}
use Prim.Native.Nat.{ℕ, zero, suc, ◌+◌, ◌*◌, ◌/◌, ◌≤◌, ◌<◌, min}
use native.Mathlib.Nat.{add-zero, zero-add}
use native.Mathlib.Numerals.{add-one}
use native.Mathlib.Omega.{arith}
use native.Mathlib.Decide.{dec_lt}
use lib.Dec.{ltb}
use lib.Seq.{drop-cons}
use lib.ListN.{length, get_or, take, drop, length-drop, length-map}
use borrow.Author.Tests.{lt-ltb, le-ltb}
use Rattle.entry.specs.Entry.{entry_size, decode, blank}
use Rattle.entry.specs.declared.Entry.{Entry}
use Rattle.journal.specs.Journal.{entries_of, entry_at, every, first_of}
use Rattle.journal.proofs.Entries.{entries-more, entries-short, length-entries_le, entry_past}

pub chunk-entries : (m n : ℕ) (j : List ℕ) → m * entry_size ≤ length j → length j < m * entry_size + entry_size
    → map decode (take n (first_chunks entry_size m j)) ≡ entries_of n j
chunk-entries m zero j a b = refl
chunk-entries zero (suc n) j a b = sym (entries-short (suc n) j (omega arith))
chunk-entries (suc m) (suc n) j a b =
    ap (λ (es : List Entry). decode (take entry_size j) ∷ es) (chunk-entries m n (drop entry_size j) (rw length-drop (omega arith)) (rw length-drop (omega arith)))
    ∙ sym (entries-more n j (omega arith))

pub chunks-entries : (n : ℕ) (j : List ℕ) {m : ℕ} {bs : List (List ℕ)} → bs ≡ first_chunks entry_size (length j / entry_size) j → m ≡ min (length bs) n
    → map decode (take m bs) ≡ entries_of n j
chunks-entries n j {bs = bs} e q =
    let c : min (length bs) n ≡ min n (length bs) = omega arith in
    rw (q, c, take_min n bs, e) (chunk-entries (length j / entry_size) n j (omega arith) (omega arith))

-- entry i
pub entry-here : (bs : List (List ℕ)) (i : ℕ) (d : List ℕ) → i < length bs → entry_at (map decode bs) i ≡ decode (get_or bs i d)
entry-here [] i d h = absurd (omega arith)
entry-here (b ∷ bs) zero d h = refl
entry-here (b ∷ bs) (suc i) d h = entry-here bs i d (omega arith)

ltb_more : (k n : ℕ) → ltb k n ≡ ltb (1 + k) (suc n)
ltb_more k n = go (dec_lt k n)
  where
    go : Dec (k < n) → ltb k n ≡ ltb (1 + k) (suc n)
    go (yes h) = lt-ltb k n h ∙ sym (lt-ltb (1 + k) (suc n) (omega arith))
    go (no h) = le-ltb k n (omega arith) ∙ sym (le-ltb (1 + k) (suc n) (omega arith))

-- the first that satisfies p
first-later : (p : Entry → Bool) (i : ℕ) (bs : List (List ℕ))
    → first_of p i (map decode bs)
    ≡ cond (ltb (position_or_len (λ b. p (decode b)) bs) (length bs)) (Some (i + position_or_len (λ b. p (decode b)) bs)) None
first-later p i [] = refl
first-later p i (b ∷ bs) = go (p (decode b)) (first-later p (suc i) bs)
  where
    k : ℕ
    k = position_or_len (λ b. p (decode b)) bs

    go : (t : Bool) → first_of p (suc i) (map decode bs) ≡ cond (ltb k (length bs)) (Some (suc i + k)) None
        → cond t (Some i) (first_of p (suc i) (map decode bs))
        ≡ cond (ltb (cond (not t) (1 + k) 0) (suc (length bs))) (Some (i + cond (not t) (1 + k) 0)) None
    go true r = rw (add-zero i, lt-ltb 0 (suc (length bs)) (omega arith))
    go false r =
        let q : suc i + k ≡ i + (1 + k) = omega arith in
        r ∙ rw q (ap (λ (t : Bool). cond t (Some (i + (1 + k))) None) (ltb_more k (length bs)))

pub first-position : (p : Entry → Bool) (bs : List (List ℕ)) → first_of p 0 (map decode bs) ≡ position (λ b. p (decode b)) bs
first-position p bs = rw (zero-add (position_or_len (λ b. p (decode b)) bs)) at (first-later p 0 bs)

-- those from the i-th on
pub drop-next : (bs : List (List ℕ)) (i : ℕ) → i < length bs → drop i bs ≡ get_or bs i [] ∷ drop (i + 1) bs
drop-next bs i h = rw (add-one i, drop-cons bs i [] h)

-- there are no more than n
pub few : (n : ℕ) (j : List ℕ) (bs : List (List ℕ)) → map decode bs ≡ entries_of n j → length bs ≤ n
few n j bs e = let l : length (map decode bs) ≤ n = rw e (length-entries_le n j) in simp length-map at l

pub entry-past : (bs : List (List ℕ)) (i : ℕ) → length bs ≤ i → entry_at (map decode bs) i ≡ blank
entry-past bs i h = entry_past (map decode bs) i (rw length-map h)

-- a test of each, wherever it stands
pub every-list : (p : Entry → Bool) (i : ℕ) (bs : List (List ℕ)) → every (λ k e. p e) i (map decode bs) ≡ list_all (λ b. p (decode b)) bs
every-list p i [] = refl
every-list p i (b ∷ bs) = ap (λ (r : Bool). p (decode b) && r) (every-list p (suc i) bs)

-- the same, told its place by its number
pub every-numbered : (p : ℕ → Entry → Bool) (i : ℕ) (bs : List (List ℕ))
    → every p i (map decode bs) ≡ list_all (λ (q : ℕ × List ℕ). p q.0 (decode q.1)) (enumerate_from i bs)
every-numbered p i [] = refl
every-numbered p i (b ∷ bs) = ap (λ (r : Bool). p i (decode b) && r) (rw (add-one i) (every-numbered p (suc i) bs))
