-- Laws of an entry's bytes: parts of them, and bytes written one part after the other.
use mathlib.Core.Path.{◌≡◌, refl, ap, sym, ◌∙◌}
use mathlib.Core.List.{List, [], ◌∷◌, ◌++◌, append_assoc}
use Prim.Native.Nat.{ℕ, ◌+◌, ◌*◌, ◌-◌, ◌≤◌, ◌<◌}
use native.Mathlib.Omega.{arith}
use lib.ListN.{length, take, drop, set, length-set, length-append, length-drop}
use native.Mathlib.Numerals.{add-one}
use lib.Seq.{take-suc-set, take_all, take_at, drop-drop, length-take-le}
use Rattle.digits.specs.Digits.{pack}
use Rattle.digits.specs.Numbers.{digits_of}
use Rattle.digits.specs.Packed.{packed_number}
use Rattle.digits.proofs.Packed.{number-below, length-number}
use Rattle.entry.specs.declared.Entry.{Entry}
use Rattle.entry.specs.Entry.{part, encode, entry_size}
use Rattle.entry.specs.Theorems.{Shaped}

pub length_part : (at k : ℕ) (s : List ℕ) → at + k ≤ length s → length (part at k s) ≡ k
length_part at k s h = length-take-le k (drop at s) (rw length-drop (omega arith))

-- the number that a part's digits say
pub part-number : (at k : ℕ) (s : List ℕ) → at + k ≤ length s
    → packed_number (2 * length (part at k s)) (part at k s) ≡ packed_number (2 * k) (part at k s)
part-number at k s h = rw (length_part at k s h)

pub trace-small : (s : List ℕ) → packed_number 6 (part 4 3 s) < 1000000
trace-small s = number-below 6 (part 4 3 s)

pub amount_small : (s : List ℕ) → packed_number 12 (part 7 6 s) < 1000000000000
amount_small s = number-below 12 (part 7 6 s)

-- a part written into a buffer
pub put_is : (at : ℕ) (s out : List ℕ) {e : List ℕ} → at + length s ≤ length out
    → e ≡ s
    → take at out ++ (e ++ drop (at + length s - at) (drop at out)) ≡ take at out ++ (s ++ drop (at + length s) out)
put_is at s out h q =
    let n : at + length s - at ≡ length s = omega arith in
    rw (q, n, drop-drop)

-- the bytes before at are written: what writing part after part keeps
pub record Begun (done : List ℕ) (at : ℕ) (b : List ℕ) : Type 0 where
  pub count : length done ≡ at
  pub front : take at b ≡ done

pub begun_more : {done : List ℕ} {at : ℕ} {b c : List ℕ} (n : ℕ) (s : List ℕ) → Begun done at b → length s ≡ n
    → c ≡ take at b ++ (s ++ drop (at + length s) b) → Begun (done ++ s) (at + n) c
begun_more {done} {at} {b} {c} n s r l e =
    let k : length (done ++ s) ≡ at + n = length-append done s ∙ omega (arith, r.count) in
    record {
      count = k;
      front = rw (e, r.front) (ap (take (at + n)) (sym (append_assoc done s (drop (at + length s) b))) ∙ take_at (done ++ s) _ (at + n) k);
    }

pub begun-done : {done : List ℕ} {at : ℕ} {b : List ℕ} → Begun done at b → length b ≤ at → b ≡ done
begun-done {at = at} {b} r h = sym (take_all at b h) ∙ r.front

-- 48 bytes whose front is written
pub record Written (done : List ℕ) (at : ℕ) (b : List ℕ) : Type 0 where
  pub whole : length b ≡ entry_size
  pub front : take at b ≡ done

-- k bytes in the place of those from an offset on
abbrev pub put : ℕ → ℕ → List ℕ → List ℕ → List ℕ
put at k b s = take at b ++ (s ++ drop k (drop at b))

module _ {done : List ℕ} {at : ℕ} {b : List ℕ} (r : Written done at b) where
  written_byte : (x : ℕ) → at < entry_size → Written (done ++ (x ∷ [])) (at + 1) (set b at x)
  written_byte x h =
      let l : at < length b = omega (arith, r.whole) in
      record { whole = length-set b at x ∙ r.whole; front = rw (add-one at) (take-suc-set b at x l ∙ rw r.front) }

  written-part : {s : List ℕ} (t : List ℕ) (k : ℕ) → s ≡ t → length t ≡ k → at + k ≤ entry_size → Written (done ++ t) (at + k) (put at k b s)
  written-part t k e l h =
      let m : length (take at b) ≡ at = length-take-le at b (omega (arith, r.whole)) in
      let n : length (take at b ++ t) ≡ at + k = length-append (take at b) t ∙ rw (m, l) in
      rw e
      (record {
        whole = simp (length-append, length-drop) (omega (arith, r.whole));
        front =
            ap (take (at + k)) (sym (append_assoc (take at b) t (drop k (drop at b))))
            ∙ take_at (take at b ++ t) (drop k (drop at b)) (at + k) n
            ∙ rw r.front;
      })

-- the four bytes before the numbers
abbrev pub four : Entry → List ℕ → List ℕ
four e b = set (set (set (set b 0 e.kind) 1 e.voided) 2 e.mark) 3 e.resends

regroup : (x n a d c t u r z : List ℕ)
    → ((((((((x ++ n) ++ a) ++ d) ++ c) ++ t) ++ u) ++ r) ++ z) ≡ x ++ (n ++ (a ++ (d ++ (c ++ (t ++ (u ++ (r ++ z)))))))
regroup x n a d c t u r z = simp append_assoc

-- an entry's values, written one after the other
pub written : (e : Entry) (b : List ℕ) {t : ℕ} {n a c d u r z : List ℕ} → length b ≡ entry_size → Shaped e → t ≡ e.trace.0
    → n ≡ pack (digits_of (2 * length (part 4 3 (four e b))) t)
    → a ≡ pack (digits_of (2 * length (part 7 6 (put 4 3 (four e b) n))) e.amount)
    → c ≡ e.card → d ≡ e.date → u ≡ e.authorisation → r ≡ e.reference → z ≡ e.reserved
    → put 44 4 (put 32 12 (put 26 6 (put 24 2 (put 14 10 (set (put 7 6 (put 4 3 (four e b) n) a) 13 e.digits) c) d) u) r) z ≡ encode e
unfolding encode
written e b {n = n} l s q p₁ p₂ p₃ p₄ p₅ p₆ p₇ =
    let none : Written [] 0 b = record { whole = l; front = refl } in
    let voided = written_byte (written_byte none e.kind (omega arith)) e.voided (omega arith) in
    let resends = written_byte (written_byte voided e.mark (omega arith)) e.resends (omega arith) in
    let k₁ = length_part 4 3 (four e b) (omega (arith, resends.whole)) in
    let trace = written-part resends (pack (digits_of 6 e.trace.0)) 3 (p₁ ∙ rw (k₁, q)) (length-number 6 e.trace.0) (omega arith) in
    let k₂ = length_part 7 6 (put 4 3 (four e b) n) (omega (arith, trace.whole)) in
    let amount = written-part trace (pack (digits_of 12 e.amount)) 6 (p₂ ∙ rw k₂) (length-number 12 e.amount) (omega arith) in
    let card = written-part (written_byte amount e.digits (omega arith)) e.card 10 p₃ s.card_length (omega arith) in
    let texts = written-part (written-part card e.date 2 p₄ s.date_length (omega arith)) e.authorisation 6 p₅ s.authorisation_length (omega arith) in
    let all = written-part (written-part texts e.reference 12 p₆ s.reference_length (omega arith)) e.reserved 4 p₇ s.reserved_length (omega arith) in
    sym (take_all entry_size _ (omega (arith, all.whole)))
    ∙ all.front
    ∙ regroup (e.kind ∷ e.voided ∷ e.mark ∷ e.resends ∷ []) (pack (digits_of 6 e.trace.0)) (pack (digits_of 12 e.amount))
    (e.digits ∷ []) e.card e.date e.authorisation e.reference e.reserved
