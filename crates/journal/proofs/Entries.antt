-- Laws of the entries that a journal's bytes hold: how many they are, one more, one written, one byte of one changed.
use mathlib.Core.Path.{◌≡◌, refl, ap, sym, ◌∙◌}
use mathlib.Core.List.{List, [], ◌∷◌, ◌++◌}
use mathlib.Core.Bool.{true}
use Prim.Native.Nat.{ℕ, zero, suc, ◌+◌, ◌*◌, ◌-◌, ◌≤◌, ◌<◌}
use native.Mathlib.Omega.{arith}
use native.Mathlib.Decide.{dec_lt}
use lib.ListN.{length, take, drop, set, length-append, length-set, length-drop}
use lib.Seq.{take_at, drop_at, drop-drop, take-take, take-append-le, length-take-le, take-set-le, take-set-lt, drop-set-lt, drop-set-add, take-add, take_all}
use borrow.Author.Tests.{lt-ltb, le-ltb, le-leb, lt-leb}
use Rattle.entry.specs.Entry.{entry_size, decode, encode, blank}
use Rattle.entry.specs.Form.{in_form}
use Rattle.entry.specs.Theorems.{Shaped}
use Rattle.entry.specs.declared.Entry.{Entry}
use Rattle.entry.proofs.Theorems.{written-reads_back, length-encode, decode-shaped}
use Rattle.journal.specs.Journal.{entries_of, entry_at, put_entry, set_byte, with_voided, with_mark, with_resends, changed_at}

-- the first of one more entry, and the others after it
pub entries-more : (n : ℕ) (j : List ℕ) → entry_size ≤ length j
    → entries_of (suc n) j ≡ decode (take entry_size j) ∷ entries_of n (drop entry_size j)
entries-more n j h = rw (le-ltb (length j) entry_size h)

-- fewer bytes than an entry has are no entry
pub entries-short : (n : ℕ) (j : List ℕ) → length j < entry_size → entries_of n j ≡ []
entries-short zero j h = refl
entries-short (suc n) j h = rw (lt-ltb (length j) entry_size h)

pub length-entries : (n : ℕ) (j : List ℕ) → entry_size * n ≤ length j → length (entries_of n j) ≡ n
length-entries zero j h = refl
length-entries (suc n) j h =
    rw (entries-more n j (omega arith), length-entries n (drop entry_size j) (rw length-drop (omega arith)))

pub length-entries_le : (n : ℕ) (j : List ℕ) → length (entries_of n j) ≤ n
length-entries_le zero j = omega arith
length-entries_le (suc n) j = go (length-entries_le n (drop entry_size j)) (dec_lt (length j) entry_size)
  where
    go : length (entries_of n (drop entry_size j)) ≤ n → Dec (length j < entry_size) → length (entries_of (suc n) j) ≤ suc n
    go r (yes h) = rw (lt-ltb (length j) entry_size h) (omega arith)
    go r (no h) = rw (le-ltb (length j) entry_size (omega arith)) (omega arith)

-- bytes after the last entry are not read
pub entries-take : (n : ℕ) (j : List ℕ) → entries_of n (take (entry_size * n) j) ≡ entries_of n j
entries-take zero j = refl
entries-take (suc n) j = go (entries-take n (drop entry_size j)) (dec_lt (length j) entry_size)
  where
    q : entry_size * suc n ≡ entry_size + entry_size * n
    q = omega arith

    whole : entry_size ≤ length j → entries_of n (take (entry_size * n) (drop entry_size j)) ≡ entries_of n (drop entry_size j)
        → entries_of (suc n) (take (entry_size * suc n) j) ≡ entries_of (suc n) j
    whole h r =
        let l : length (take entry_size j) ≡ entry_size = length-take-le entry_size j h in
        let rest = take (entry_size * n) (drop entry_size j) in
        rw (q, take-add entry_size (entry_size * n) j)
        (entries-more n (take entry_size j ++ rest) (rw length-append (omega arith))
        ∙ rw (take_at (take entry_size j) rest entry_size l, drop_at (take entry_size j) rest entry_size l, r) (sym (entries-more n j h)))

    go : entries_of n (take (entry_size * n) (drop entry_size j)) ≡ entries_of n (drop entry_size j) → Dec (length j < entry_size)
        → entries_of (suc n) (take (entry_size * suc n) j) ≡ entries_of (suc n) j
    go r (yes h) = ap (λ (l : List ℕ). entries_of (suc n) l) (take_all (entry_size * suc n) j (omega arith))
    go r (no h) = whole (omega arith) r

pub entries-same : (n : ℕ) (j k : List ℕ) → take (entry_size * n) j ≡ take (entry_size * n) k → entries_of n j ≡ entries_of n k
entries-same n j k e = sym (entries-take n j) ∙ ap (λ (l : List ℕ). entries_of n l) e ∙ entries-take n k

-- the last of one more entry, and the others before it
pub entries-last : (n : ℕ) (j : List ℕ) → entry_size * n + entry_size ≤ length j
    → entries_of (suc n) j ≡ entries_of n j ++ (decode (take entry_size (drop (entry_size * n) j)) ∷ [])
entries-last zero j h = entries-more zero j (omega arith)
entries-last (suc n) j h =
    let q : entry_size * suc n ≡ entry_size + entry_size * n = omega arith in
    let r = entries-last n (drop entry_size j) (rw length-drop (omega arith)) in
    entries-more (suc n) j (omega arith)
    ∙ rw (r, entries-more n j (omega arith), drop-drop, q)

pub entry_past : (es : List Entry) (i : ℕ) → length es ≤ i → entry_at es i ≡ blank
entry_past [] i h = refl
entry_past (e ∷ es) zero h = absurd (omega arith)
entry_past (e ∷ es) (suc i) h = entry_past es i (omega arith)

-- the place of an entry is in the bytes, or it is blank
pub entry-cases : (P : Entry → Type 0) → P blank → ((b : List ℕ) → length b ≡ entry_size → P (decode b))
    → (n i : ℕ) (j : List ℕ) → P (entry_at (entries_of n j) i)
entry-cases P none some zero i j = none
entry-cases P none some (suc n) i j = go i (dec_lt (length j) entry_size) (λ k. entry-cases P none some n k (drop entry_size j))
  where
    go : (i : ℕ) → Dec (length j < entry_size) → ((k : ℕ) → P (entry_at (entries_of n (drop entry_size j)) k))
        → P (entry_at (entries_of (suc n) j) i)
    go i (yes h) r = rw (entries-short (suc n) j h) none
    go zero (no h) r = rw (entries-more n j (omega arith)) (some (take entry_size j) (length-take-le entry_size j (omega arith)))
    go (suc i) (no h) r = rw (entries-more n j (omega arith)) (r i)

-- what every entry of a journal satisfies
pub entry-shaped : (n i : ℕ) (j : List ℕ) → Shaped (entry_at (entries_of n j) i)
entry-shaped n i j = entry-cases Shaped none decode-shaped n i j
  where
    none : Shaped blank
    none =
        record {
          card_length = refl;
          date_length = refl;
          authorisation_length = refl;
          reference_length = refl;
          reserved_length = refl;
        }

module _ (i : ℕ) (e : Entry) (j : List ℕ) where
  pub put_there : entry_size * i + entry_size ≤ length j
      → put_entry i e j ≡ take (entry_size * i) j ++ (encode e ++ drop (entry_size * i + entry_size) j)
  unfolding put_entry
  put_there h = rw (le-leb _ _ h)

  pub put_short : length j < entry_size * i + entry_size → put_entry i e j ≡ j
  unfolding put_entry
  put_short h = rw (lt-leb _ _ h)

  pub length-put : length (encode e) ≡ entry_size → length (put_entry i e j) ≡ length j
  length-put l = go (dec_lt (length j) (entry_size * i + entry_size))
    where
      go : Dec (length j < entry_size * i + entry_size) → length (put_entry i e j) ≡ length j
      go (yes h) = rw (put_short h)
      go (no h) =
          let t : length (take (entry_size * i) j) ≡ entry_size * i = length-take-le (entry_size * i) j (omega arith) in
          rw (put_there (omega arith)) (simp (length-append, length-drop) (omega arith))

  -- the entries before a written one stay
  pub put_before : (n : ℕ) → n ≤ i → entries_of n (put_entry i e j) ≡ entries_of n j
  put_before n l = go (dec_lt (length j) (entry_size * i + entry_size))
    where
      go : Dec (length j < entry_size * i + entry_size) → entries_of n (put_entry i e j) ≡ entries_of n j
      go (yes h) = rw (put_short h)
      go (no h) =
          let t : length (take (entry_size * i) j) ≡ entry_size * i = length-take-le (entry_size * i) j (omega arith) in
          entries-same n (put_entry i e j) j
          (rw (put_there (omega arith))
          (take-append-le (entry_size * n) (take (entry_size * i) j) (encode e ++ drop (entry_size * i + entry_size) j) (omega arith)
          ∙ take-take (entry_size * n) (entry_size * i) j (omega arith)))

-- an entry written after the last
pub put_last : (n : ℕ) (e : Entry) (j : List ℕ) → length (encode e) ≡ entry_size → entry_size * n + entry_size ≤ length j
    → entries_of (suc n) (put_entry n e j) ≡ entries_of n j ++ (decode (encode e) ∷ [])
put_last n e j l h =
    entries-last n (put_entry n e j) (rw (length-put n e j l) h) ∙ rw (put_before n e j n (omega arith), part)
  where
    part : take entry_size (drop (entry_size * n) (put_entry n e j)) ≡ encode e
    part =
        let t : length (take (entry_size * n) j) ≡ entry_size * n = length-take-le (entry_size * n) j (omega arith) in
        rw (
          put_there n e j h,
          drop_at (take (entry_size * n) j) (encode e ++ drop (entry_size * n + entry_size) j) (entry_size * n) t,
          take_at (encode e) (drop (entry_size * n + entry_size) j) entry_size l,
        )

-- an entry in form, written after the last
pub put_appends : (n : ℕ) (e : Entry) (j : List ℕ) → Shaped e → in_form e ≡ true → entry_size * n + entry_size ≤ length j
    → entries_of (suc n) (put_entry n e j) ≡ entries_of n j ++ (e ∷ [])
put_appends n e j s f h = put_last n e j (length-encode e s) h ∙ rw (written-reads_back e s f)

-- an entry's bytes, copied to their place
pub put_copied : (i w : ℕ) (e : Entry) (j b x : List ℕ) → w ≡ i → entry_size * w + entry_size ≤ length j
    → length b ≡ entry_size → b ≡ encode e
    → x ≡ b
    → take (entry_size * w) j ++ (x ++ drop (entry_size * w + entry_size - entry_size * w) (drop (entry_size * w) j)) ≡ put_entry i e j
put_copied i w e j b x q h l r m =
    let k : entry_size * w + entry_size - entry_size * w ≡ entry_size = omega arith in
    let y : x ≡ encode e = m ∙ r in
    rw (y, k, drop-drop, q) (sym (put_there i e j (rw q at h)))

pub length-set_byte : (i k x : ℕ) (j : List ℕ) → length (set_byte i k x j) ≡ length j
unfolding set_byte
length-set_byte i k x j = length-set j (entry_size * i + k) x

-- a byte of an entry changes that entry as f does
abbrev Sets : ℕ → ℕ → (Entry → Entry) → Type 0
Sets k x f = (b : List ℕ) → length b ≡ entry_size → decode (set b k x) ≡ f (decode b)

set_changes : (k x : ℕ) (f : Entry → Entry) → k < entry_size → Sets k x f
    → (n i : ℕ) (j : List ℕ) → entries_of n (set j (entry_size * i + k) x) ≡ changed_at i f (entries_of n j)
set_changes k x f small s zero i j = refl
set_changes k x f small s (suc n) i j = go i (dec_lt (length j) entry_size) (λ m. set_changes k x f small s n m (drop entry_size j))
  where
    go : (i : ℕ) → Dec (length j < entry_size)
        → ((m : ℕ) → entries_of n (set (drop entry_size j) (entry_size * m + k) x) ≡ changed_at m f (entries_of n (drop entry_size j)))
        → entries_of (suc n) (set j (entry_size * i + k) x) ≡ changed_at i f (entries_of (suc n) j)
    go i (yes h) r = rw (entries-short (suc n) j h) (entries-short (suc n) (set j (entry_size * i + k) x) (rw length-set h))
    go zero (no h) r =
        let q : entry_size * 0 + k ≡ k = omega arith in
        entries-more n (set j (entry_size * 0 + k) x) (rw length-set (omega arith))
        ∙ rw (
          q,
          entries-more n j (omega arith),
          take-set-lt entry_size j k x small,
          drop-set-lt entry_size j k x small,
          s (take entry_size j) (length-take-le entry_size j (omega arith)),
        )
    go (suc i) (no h) r =
        let q : entry_size * suc i + k ≡ entry_size + (entry_size * i + k) = omega arith in
        entries-more n (set j (entry_size * suc i + k) x) (rw length-set (omega arith))
        ∙ rw (
          q,
          entries-more n j (omega arith),
          take-set-le entry_size j (entry_size + (entry_size * i + k)) x (omega arith),
          drop-set-add entry_size j (entry_size * i + k) x,
          r i,
        )

sets_voided : (x : ℕ) → Sets 1 x (with_voided x)
unfolding decode with_voided
sets_voided x [] l = absurd (omega arith)
sets_voided x (k ∷ []) l = absurd (omega arith)
sets_voided x (k ∷ v ∷ b) l = refl

sets_mark : (x : ℕ) → Sets 2 x (with_mark x)
unfolding decode with_mark
sets_mark x [] l = absurd (omega arith)
sets_mark x (k ∷ []) l = absurd (omega arith)
sets_mark x (k ∷ v ∷ []) l = absurd (omega arith)
sets_mark x (k ∷ v ∷ m ∷ b) l = refl

sets_resends : (x : ℕ) → Sets 3 x (with_resends x)
unfolding decode with_resends
sets_resends x [] l = absurd (omega arith)
sets_resends x (k ∷ []) l = absurd (omega arith)
sets_resends x (k ∷ v ∷ []) l = absurd (omega arith)
sets_resends x (k ∷ v ∷ m ∷ []) l = absurd (omega arith)
sets_resends x (k ∷ v ∷ m ∷ r ∷ b) l = refl

module _ (n i x : ℕ) (j : List ℕ) where
  pub set-voided : entries_of n (set_byte i 1 x j) ≡ changed_at i (with_voided x) (entries_of n j)
  unfolding set_byte
  set-voided = set_changes 1 x (with_voided x) (omega arith) (sets_voided x) n i j

  pub set_mark : entries_of n (set_byte i 2 x j) ≡ changed_at i (with_mark x) (entries_of n j)
  unfolding set_byte
  set_mark = set_changes 2 x (with_mark x) (omega arith) (sets_mark x) n i j

  pub set-resends : entries_of n (set_byte i 3 x j) ≡ changed_at i (with_resends x) (entries_of n j)
  unfolding set_byte
  set-resends = set_changes 3 x (with_resends x) (omega arith) (sets_resends x) n i j
