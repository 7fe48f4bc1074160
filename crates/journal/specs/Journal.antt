-- Document 01, "State and journal": the journal is lent, one entry per approval, oldest first.
use Rattle.std.specs.Prelude.{List, [], ◌∷◌, ◌++◌, Bool, true, false, cond, not, ◌&&◌, ℕ, zero, suc, ◌+◌, ◌*◌, leb, ltb, eqb, length, take, drop, set, Some, None, Option}
use Rattle.numbers.specs.Numbers.{following}
use Rattle.kinds.specs.Kinds.{original_kind}
use Rattle.kinds.specs.Sums.{each_kind, together}
use Rattle.entry.specs.Entry.{entry_size, decode, encode, blank}
use Rattle.entry.specs.Form.{due_entry, fits}
use Rattle.entry.specs.declared.Entry.{Entry}
use Rattle.journal.specs.declared.Query.{Query}
use Rattle.journal.specs.declared.Query.TheVariants.{Trace as OfTrace, Original, Due}
use Rattle.kinds.specs.declared.Totals.{Totals}
use Rattle.kinds.specs.declared.sums.Sum.{Sum}
use Rattle.kinds.specs.declared.sums.Sums.{Sums}

-- the first n entries of the bytes j; what does not stand there whole is no entry, and bytes after the last are not read
abbrev pub entries_of : ℕ → List ℕ → List Entry
entries_of zero j = []
entries_of (suc n) j = cond (ltb (length j) entry_size) [] (decode (take entry_size j) ∷ entries_of n (drop entry_size j))

-- entry i, the oldest being 0
abbrev pub entry_at : List Entry → ℕ → Entry
entry_at [] i = blank
entry_at (e ∷ es) zero = e
entry_at (e ∷ es) (suc i) = entry_at es i

-- each entry satisfies p, which is told its place
abbrev pub every : (ℕ → Entry → Bool) → ℕ → List Entry → Bool
every p i [] = true
every p i (e ∷ es) = p i e && every p (suc i) es

-- the sum of f over the entries that satisfy p
abbrev pub sum_of : (Entry → Bool) → (Entry → ℕ) → List Entry → ℕ
sum_of p f [] = 0
sum_of p f (e ∷ es) = cond (p e) (f e) 0 + sum_of p f es

-- the place of the first entry that satisfies p, where the list begins at place i
abbrev pub first_of : (Entry → Bool) → ℕ → List Entry → Option ℕ
first_of p i [] = None
first_of p i (e ∷ es) = cond (p e) (Some i) (first_of p (suc i) es)

abbrev pub amount : Entry → ℕ
amount e = e.amount

abbrev pub one : Entry → ℕ
one e = 1

-- amount and count of the entries that satisfy p
abbrev pub sum_over : (Entry → Bool) → List Entry → Sum
sum_over p es = record { amount = sum_of p amount es; count = sum_of p one es }

-- an entry that satisfies p is of a kind; a voided sale is a sale
abbrev pub of_kind : (Entry → Bool) → ℕ → Entry → Bool
of_kind p kind e = p e && eqb e.kind kind

-- 001, 4.3.2 (document 02, request 5): of the entries that satisfy p, each kind its own sum
unfoldable pub sums_of : (Entry → Bool) → List Entry → Sums
sums_of p es = each_kind (λ kind. sum_over (of_kind p kind) es)

-- of all entries
abbrev pub batch_sums : List Entry → Sums
batch_sums es = sums_of (λ e. true) es

-- debit and credit, amounts and counts
abbrev pub totals_of : List Entry → Totals
totals_of es = together (batch_sums es)

-- an entry has this trace
unfoldable pub has_trace : ℕ → Entry → Bool
has_trace x e = eqb e.trace.0 x

-- rule 19: an entry of this kind has this trace
unfoldable pub is_original : ℕ → ℕ → Entry → Bool
is_original k x e = eqb e.kind k && has_trace x e

-- the entry that a void of a kind is for: its kind is the needed one, and it has this trace
abbrev pub original_for : ℕ → ℕ → List Entry → Option ℕ
original_for kind x es = first_of (is_original (original_kind kind) x) 0 es

-- an entry is due and has this upload mark
unfoldable pub due_with : (Entry → Bool) → ℕ → Entry → Bool
due_with due mark e = due e && eqb e.mark mark

abbrev pub asked : Query → Entry → Bool
asked (OfTrace x) e = has_trace x.0 e
asked (Original k x) e = is_original k x.0 e
asked (Due mark) e = due_with due_entry mark e

-- there is no such entry
abbrev pub nowhere : Option ℕ → Bool
nowhere (Some i) = false
nowhere None = true

-- it is entry i
abbrev pub is_at : Option ℕ → ℕ → Bool
is_at (Some k) i = eqb k i
is_at None i = false

-- an entry at its place, which may be that of the awaited item, keeps what rule 2 says of it alone
abbrev pub fits_at : ℕ → Bool → Option ℕ → ℕ → Entry → Bool
fits_at l uploading awaited i e = fits l uploading (is_at awaited i) e

-- the first due entry of mark 0 or, where no due one is 0, of mark 1
abbrev pub otherwise : Option ℕ → Option ℕ → Option ℕ
otherwise (Some i) next = Some i
otherwise None next = next

unfoldable pub next_due : (Entry → Bool) → List Entry → Option ℕ
next_due due es = otherwise (first_of (due_with due 0) 0 es) (first_of (due_with due 1) 0 es)

-- no entry has this trace; no two entries have one trace
unfoldable pub absent : ℕ → List Entry → Bool
absent x es = every (λ i e. not (has_trace x e)) 0 es

abbrev pub distinct : List Entry → Bool
distinct [] = true
distinct (e ∷ es) = absent e.trace.0 es && distinct es

-- each new message takes the next trace; a number in the journal is skipped
abbrev pub taken_from : ℕ → List Entry → ℕ → ℕ
taken_from zero es x = x
taken_from (suc k) es x = cond (absent x es) x (taken_from k es (following x))

-- among as many numbers as there are entries, and one more, one is free
unfoldable pub taken : List Entry → ℕ → ℕ
taken es x = taken_from (length es) es x

-- the bytes j with an entry's bytes at place i; it must stand there whole
unfoldable pub put_entry : ℕ → Entry → List ℕ → List ℕ
put_entry i e j =
    cond (leb (entry_size * i + entry_size) (length j))
    (take (entry_size * i) j ++ (encode e ++ drop (entry_size * i + entry_size) j))
    j

-- the bytes j with a byte of entry i changed: 1 voided, 2 upload mark, 3 resends
unfoldable pub set_byte : ℕ → ℕ → ℕ → List ℕ → List ℕ
set_byte i at x j = set j (entry_size * i + at) x

-- an entry with another voided flag, upload mark or number of resends
unfoldable pub with_voided : ℕ → Entry → Entry
with_voided x e =
    record {
      kind = e.kind;
      voided = x;
      mark = e.mark;
      resends = e.resends;
      trace = e.trace;
      amount = e.amount;
      digits = e.digits;
      card = e.card;
      date = e.date;
      authorisation = e.authorisation;
      reference = e.reference;
      reserved = e.reserved;
    }

unfoldable pub with_mark : ℕ → Entry → Entry
with_mark x e =
    record {
      kind = e.kind;
      voided = e.voided;
      mark = x;
      resends = e.resends;
      trace = e.trace;
      amount = e.amount;
      digits = e.digits;
      card = e.card;
      date = e.date;
      authorisation = e.authorisation;
      reference = e.reference;
      reserved = e.reserved;
    }

unfoldable pub with_resends : ℕ → Entry → Entry
with_resends x e =
    record {
      kind = e.kind;
      voided = e.voided;
      mark = e.mark;
      resends = x;
      trace = e.trace;
      amount = e.amount;
      digits = e.digits;
      card = e.card;
      date = e.date;
      authorisation = e.authorisation;
      reference = e.reference;
      reserved = e.reserved;
    }

-- the entries with entry i changed by f
abbrev pub changed_at : ℕ → (Entry → Entry) → List Entry → List Entry
changed_at i f [] = []
changed_at zero f (e ∷ es) = f e ∷ es
changed_at (suc i) f (e ∷ es) = e ∷ changed_at i f es
