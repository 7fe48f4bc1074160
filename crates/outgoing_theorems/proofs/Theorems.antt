-- The theorems on the messages that leave.
use mathlib.Core.Path.{◌≡◌, refl, sym, ◌∙◌}
use mathlib.Core.List.{List, [], ◌∷◌, ◌++◌}
use mathlib.Core.Bool.{Bool, true, false, cond, not, ◌&&◌, ◌||◌}
use Prim.Native.Nat.{ℕ}
use native.Mathlib.Decide.{ℕ_discrete}
use native.Mathlib.Omega.{arith}
use lib.Dec.{eqb}
use lib.ListN.{length}
use borrow.Author.Tests.{ne_eqb}
use Rattle.digits.specs.Numbers.{digits_of}
use Rattle.message.specs.Build.{Item, has, find, digits, bytes, message_of}
use Rattle.reading.specs.Reading.{Reading}
use Rattle.writing.specs.Writing.{message_bytes}
use Rattle.message_theorems.proofs.Messages.{written-reads_back}
use Rattle.numbers.specs.declared.Batch.{Batch}
use Rattle.kinds.specs.Kinds.{indicator_of, takes_original}
use Rattle.state.specs.State.{has_chip}
use Rattle.state.specs.declared.Chip.{Chip}
use Rattle.state.specs.declared.Request.{Request}
use Rattle.state.specs.declared.Reversal.{Reversal}
use Rattle.state.specs.declared.Settings.{Settings}
use Rattle.compose.proofs.Bitmaps.{names-has}
use Rattle.compose.proofs.Held.{named, held_number, found-held}
use Rattle.compose.proofs.Sound.{shaped, held-field}
use Rattle.outgoing.specs.declared.Original.{Original}
use Rattle.outgoing.specs.Outgoing.{field61, chip_fields, plain_fields, card_fields, original_fields, request_fields, reason_code, reversal_fields, request_message, reversal_message}
use Rattle.outgoing.proofs.Leaving.{by_chip, request-held, reversal-held, request-listed, reversal-listed, written_is}
use Rattle.outgoing_theorems.specs.Theorems.{left_out, Reads, CarriesChip, SentReadsBack, RequestReadsBack, ReversalReadsBack, ReversalFields, ReversalNames, ReversalKeeps, RequestCarriesChip, ReversalCarriesChip}

pub sent-reads_back : SentReadsBack
sent-reads_back i xs o l h r =
    let w = written_is i xs o l h r in
    let b = written-reads_back (message_of i xs) o (length (message_bytes (message_of i xs))) (shaped i xs h) (rw w) in
    let k = rw w at b in
    rw w (record {
      outcome = k.outcome;
      indicator = k.indicator;
      named = λ n p q. rw k.bitmap (names-has xs n p q);
      fields = λ n g. let p = held_number (named n (find xs n)) (found-held xs n h g) in
          k.fields n (names-has xs n p.0 p.1 ∙ g) ∙ held-field i xs n h;
    })

pub request-reads_back : RequestReadsBack
unfolding request_message
request-reads_back x batch c q original o h g r =
    sent-reads_back (indicator_of q.kind) (request_fields x batch c q original) o (request-listed q.kind) (request-held x batch c q original h g) r

pub reversal-reads_back : ReversalReadsBack
unfolding reversal_message
reversal-reads_back x batch c v o h r = sent-reads_back 0x0400 (reversal_fields x batch c v) o reversal-listed (reversal-held x batch c v h) r

-- what stands behind a list does not matter, where it is the same of a field
rest-same : (xs ys zs : List Item) (n : ℕ) → (find ys n ≡ find zs n) × (has ys n ≡ has zs n) → (find (xs ++ ys) n ≡ find (xs ++ zs) n) × (has (xs ++ ys) n ≡ has (xs ++ zs) n)
rest-same [] ys zs n e = e
rest-same (x ∷ xs) ys zs n e = let t = rest-same xs ys zs n e in (rw t.0, rw t.1)

-- of an earlier request there are fields 37, 38 and 61 only
original_only : (kind : ℕ) (o : Original) (n : ℕ) → eqb 37 n ≡ false → eqb 38 n ≡ false → eqb 61 n ≡ false
    → (find [] n ≡ find (original_fields kind o) n) × (has [] n ≡ has (original_fields kind o) n)
original_only kind o n a b c = go (takes_original kind) (eqb kind 25) (eqb kind 11 || eqb kind 20)
  where
    go : (s t u : Bool)
        → let xs = cond s
        (bytes 37 o.reference ∷ bytes 38 o.authorisation ∷ digits 61 (field61 o) ∷ [])
        (cond t
        (bytes 37 o.reference ∷ digits 61 (field61 o) ∷ [])
        (cond u (bytes 38 o.authorisation ∷ digits 61 (field61 o) ∷ []) []))
        in (find [] n ≡ find xs n) × (has [] n ≡ has xs n)
    go true t u = (rw (a, b, c), rw (a, b, c))
    go false true u = (rw (a, c), rw (a, c))
    go false false true = (rw (b, c), rw (b, c))
    go false false false = (refl, refl)

-- of a chip there is field 55 only
chip_only : (c : Chip) (ys : List Item) (n : ℕ) → eqb 55 n ≡ false
    → (find (chip_fields c ++ ys) n ≡ find ys n) × (has (chip_fields c ++ ys) n ≡ has ys n)
chip_only c ys n d =
    by_chip (λ zs. (find (zs ++ ys) n ≡ find ys n) × (has (zs ++ ys) n ≡ has ys n)) c (λ e. (rw d, rw d)) (λ e. (refl, refl))

-- what the theorems say of field n
abbrev Agrees : Settings → Batch → Chip → Reversal → Original → ℕ → Type 0
Agrees x batch c v original n =
    (find (reversal_fields x batch c v) n
    ≡ cond (eqb n 39) (bytes 39 (reason_code v.reason)).field
    (cond (left_out n) (record { count = 0; bytes = [] }) (find (request_fields x batch c v.request original) n)))
    × (has (reversal_fields x batch c v) n ≡ cond (eqb n 39) true (not (left_out n) && has (request_fields x batch c v.request original) n))

module _ (x : Settings) (batch : Batch) (c : Chip) (v : Reversal) (original : Original) where
  reversal-rest : (n : ℕ) → eqb 37 n ≡ false → eqb 38 n ≡ false → eqb 39 n ≡ false → eqb 61 n ≡ false
      → (find (reversal_fields x batch c v) n ≡ find (request_fields x batch c v.request original) n)
      × (has (reversal_fields x batch c v) n ≡ has (request_fields x batch c v.request original) n)
  reversal-rest n a b d e =
      rest-same (card_fields x batch c v.request) (bytes 39 (reason_code v.reason) ∷ []) (original_fields v.request.kind original) n
      (rw d (original_only v.request.kind original n a b e))

  chip-apart : (n : ℕ) → eqb 55 n ≡ false
      → let xs = plain_fields x batch c v.request ++ (bytes 39 (reason_code v.reason) ∷ [])
      in (find (reversal_fields x batch c v) n ≡ find xs n) × (has (reversal_fields x batch c v) n ≡ has xs n)
  chip-apart n d =
      let ys : List Item = bytes 39 (reason_code v.reason) ∷ [] in
      rest-same (plain_fields x batch c v.request) (chip_fields c ++ ys) ys n (chip_only c ys n d)

  reversal-all : (n : ℕ) → Agrees x batch c v original n
  reversal-all n = go (ℕ_discrete n 37) (ℕ_discrete n 38) (ℕ_discrete n 39) (ℕ_discrete n 61)
    where
      go : Dec (n ≡ 37) → Dec (n ≡ 38) → Dec (n ≡ 39) → Dec (n ≡ 61) → Agrees x batch c v original n
      go (yes e) b d f = rw e (chip-apart 37 refl)
      go (no a) (yes e) d f = rw e (chip-apart 38 refl)
      go (no a) (no b) (yes e) f = rw e (chip-apart 39 refl)
      go (no a) (no b) (no d) (yes e) = rw e (chip-apart 61 refl)
      go (no a) (no b) (no d) (no f) =
          rw (ne_eqb n 39 d, ne_eqb n 37 a, ne_eqb n 38 b, ne_eqb n 61 f)
          (reversal-rest n (ne_eqb 37 n (λ e. a (sym e))) (ne_eqb 38 n (λ e. b (sym e))) (ne_eqb 39 n (λ e. d (sym e))) (ne_eqb 61 n (λ e. f (sym e))))

pub reversal_fields_lem : ReversalFields
reversal_fields_lem x batch c v original n = (reversal-all x batch c v original n).0

pub reversal-names : ReversalNames
reversal-names x batch c v original n = (reversal-all x batch c v original n).1

pub reversal_keeps : ReversalKeeps
reversal_keeps x batch c v original i s r h g n p q d e =
    let a = rw (d, e) at (reversal-all x batch c v original n) in
    let k = g.named n p q ∙ a.1 ∙ sym (h.named n p q) in
    (k, λ w. let z = sym (h.named n p q) ∙ w in g.fields n (a.1 ∙ z) ∙ a.0 ∙ sym (h.fields n z))

-- field 22, by whether there is a chip
mode-is : (t : Bool) → (digits 22 (digits_of 3 (cond t 52 12))).field ≡ (digits 22 (cond t (0 ∷ 5 ∷ 2 ∷ []) (0 ∷ 1 ∷ 2 ∷ []))).field
mode-is true = refl
mode-is false = refl

-- what reads back to the fields of a card request, and to others, none of them 55, carries its chip
pub chip-read : (x : Settings) (batch : Batch) (c : Chip) (q : Request) (ys : List Item) (i : ℕ) (r : Reading) → has ys 55 ≡ false
    → Reads i (card_fields x batch c q ++ ys) r → CarriesChip c r.message
chip-read x batch c q ys i r n h =
    record {
      mode = h.fields 22 refl ∙ mode-is (has_chip c);
      named = h.named 55 (omega arith) (omega arith)
          ∙ by_chip (λ zs. has (plain_fields x batch c q ++ zs ++ ys) 55 ≡ has_chip c) c sym (λ e. n ∙ sym e);
      holds = λ e. h.fields 55 (rw e) ∙ rw e;
    }

-- so do a request and a reversal
module _ (x : Settings) (batch : Batch) (c : Chip) where
  pub request-chip : (q : Request) (original : Original) (r : Reading) → Reads (indicator_of q.kind) (request_fields x batch c q original) r
      → CarriesChip c r.message
  request-chip q original r h =
      let none = sym (original_only q.kind original 55 refl refl refl).1 in
      chip-read x batch c q (original_fields q.kind original) (indicator_of q.kind) r none h

  pub reversal_chip : (v : Reversal) (r : Reading) → Reads 0x0400 (reversal_fields x batch c v) r → CarriesChip c r.message
  reversal_chip v r h = chip-read x batch c v.request (bytes 39 (reason_code v.reason) ∷ []) 0x0400 r refl h

pub request-carries_chip : RequestCarriesChip
request-carries_chip x batch c q original o h g r = request-chip x batch c q original _ (request-reads_back x batch c q original o h g r)

pub reversal-carries_chip : ReversalCarriesChip
reversal-carries_chip x batch c v o h r = reversal_chip x batch c v _ (reversal-reads_back x batch c v o h r)
