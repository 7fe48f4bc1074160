-- Document 01, "State and journal": 48 bytes an entry.
use Rattle.std.specs.Prelude.{List, [], ◌∷◌, ◌++◌, Bool, ℕ, eqb, length, get_or, take, drop, replicate}
use Rattle.digits.specs.Lists.{all}
use Rattle.digits.specs.Digits.{pack}
use Rattle.digits.specs.Numbers.{digits_of}
use Rattle.digits.specs.Packed.{packed_number}
use Rattle.entry.specs.declared.Entry.{Entry}

abbrev pub entry_size : ℕ
entry_size = 48

-- where the bytes that change stand
abbrev pub voided_offset : ℕ
voided_offset = 1

abbrev pub mark_offset : ℕ
mark_offset = 2

abbrev pub resends_offset : ℕ
resends_offset = 3

-- where the packed trace and amount stand
abbrev pub trace_offset : ℕ
trace_offset = 4

abbrev pub amount_offset : ℕ
amount_offset = 7

-- k bytes from an offset on
abbrev pub part : ℕ → ℕ → List ℕ → List ℕ
part at k b = take k (drop at b)

-- offsets: 0 kind; 1 voided; 2 upload mark; 3 resends; 4 trace (3 packed); 7 amount (6 packed); 13 card length;
-- 14 card (10 packed); 24 date (2 packed); 26 field 38; 32 field 37; 44 four zeros
unfoldable pub decode : List ℕ → Entry
decode b =
    record {
      kind = get_or b 0 0;
      voided = get_or b voided_offset 0;
      mark = get_or b mark_offset 0;
      resends = get_or b resends_offset 0;
      trace = record { 0 = packed_number 6 (part trace_offset 3 b) };
      amount = packed_number 12 (part amount_offset 6 b);
      digits = get_or b 13 0;
      card = part 14 10 b;
      date = part 24 2 b;
      authorisation = part 26 6 b;
      reference = part 32 12 b;
      reserved = part 44 4 b;
    }

unfoldable pub encode : Entry → List ℕ
encode e =
    (e.kind ∷ e.voided ∷ e.mark ∷ e.resends ∷ [])
    ++ (pack (digits_of 6 e.trace.0)
    ++ (pack (digits_of 12 e.amount)
    ++ ((e.digits ∷ [])
    ++ (e.card ++ (e.date ++ (e.authorisation ++ (e.reference ++ e.reserved)))))))

-- each byte is zero
unfoldable pub all_zero : List ℕ → Bool
all_zero b = all (length b) (λ i. eqb (get_or b i 0) 0)

-- the values of 48 zeros, which stand for no entry
abbrev pub blank : Entry
blank =
    record {
      kind = 0;
      voided = 0;
      mark = 0;
      resends = 0;
      trace = record { 0 = 0 };
      amount = 0;
      digits = 0;
      card = replicate 10 0;
      date = replicate 2 0;
      authorisation = replicate 6 0;
      reference = replicate 12 0;
      reserved = replicate 4 0;
    }
