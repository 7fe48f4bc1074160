-- What leaves reads back: what a message says that was read from the bytes that left.
use Rattle.std.specs.Prelude.{Some}
use mathlib.Core.Path.{◌≡◌, refl, ap, ◌∙◌}
use mathlib.Core.List.{List, ◌++◌}
use mathlib.Core.Bool.{true}
use Prim.Native.Nat.{ℕ, ◌+◌, ◌^◌, ◌≤◌, ◌<◌}
use native.Mathlib.Omega.{arith}
use lib.ListN.{length, take, drop}
use Rattle.digits.specs.Digits.{pack, all_digits}
use Rattle.digits.specs.Numbers.{digits_of}
use Rattle.digits.proofs.Packing.{digits_append}
use Rattle.field.specs.Table.{among, indicators}
use Rattle.message.specs.Build.{Item, has, find, digits, bytes, message_of}
use Rattle.message.specs.Message.{largest, field_of}
use Rattle.message.specs.declared.Message.{Message}
use Rattle.reading.specs.Reading.{read_message}
use Rattle.writing.specs.Writing.{message_bytes}
use Rattle.parts.specs.Parts.{number_in, part_of}
use Rattle.parts.specs.declared.Part.TheVariants as part
use Rattle.parts.proofs.Numbers.{number_at}
use Rattle.numbers.specs.declared.Trace.{Trace}
use Rattle.numbers.specs.declared.Batch.{Batch}
use Rattle.state.specs.declared.Settings.{Settings}
use Rattle.compose.specs.Compose.{all_held}
use Rattle.outgoing.specs.Outgoing.{field60}
use Rattle.outgoing.proofs.Leaving.{written_is}
use Rattle.outgoing_theorems.specs.Theorems.{Reads}
use Rattle.outgoing_theorems.proofs.Theorems.{sent-reads_back}
use Rattle.history.specs.Words.{message_in}
use Rattle.outgoing.proofs.Fields.{field60-digits}
use Rattle.numbers.specs.Limits.{last_number}

-- the bytes that a call hands out
abbrev pub handed_out : List ℕ → List ℕ → List ℕ
handed_out bs m = take (length bs) (bs ++ drop (length bs) m)

pub sent-reads : (i : ℕ) (xs : List Item) (m : List ℕ) → among i indicators ≡ true → all_held xs ≡ true → largest ≤ length m
    → Reads i xs (read_message (handed_out (message_bytes (message_of i xs)) m))
sent-reads i xs m l h r = rw (written_is i xs m l h r) at (sent-reads_back i xs m l h r)

-- a list of items has this one, the first of its number
abbrev pub Contains : List Item → Item → Type 0
Contains xs x = (has xs x.number ≡ true) × (find xs x.number ≡ x.field)

-- what a message says that an answer has to repeat, and what kind of message it is
pub record Says (x : Settings) (batch : Batch) (trace : Trace) (i kind code : ℕ) (m : Message) : Type 0 where
  pub indicator : m.indicator ≡ i
  pub trace_bytes : (field_of m 11).bytes ≡ pack (digits_of 6 trace.0)
  pub terminal_bytes : (field_of m 41).bytes ≡ x.terminal
  pub merchant_bytes : (field_of m 42).bytes ≡ x.merchant
  pub batch_number : part_of m part.Batch ≡ Some batch.0
  pub kind_number : part_of m part.Kind ≡ Some kind
  pub code_number : part_of m part.Management ≡ Some code

module _ (b : List ℕ) (i : ℕ) (xs : List Item) (r : Reads i xs (read_message b)) where
  -- a number in a field of what was read
  pub number_read : (n : ℕ) (ds : List ℕ) → 0 < n → n ≤ 64 → has xs n ≡ true → find xs n ≡ (digits n ds).field → all_digits ds ≡ true
      → (at k x : ℕ) → at + k ≤ length ds → take k (drop at ds) ≡ digits_of k x → k ≤ 19 → x < 10 ^ k
      → number_in (message_in b) n at k ≡ Some x
  number_read n ds p q h f a = number_at (message_in b) n ds (r.named n p q ∙ h) (r.fields n h ∙ f) a

  pub says : (x : Settings) (batch : Batch) (trace : Trace) (kind code : ℕ) → Contains xs (digits 11 (digits_of 6 trace.0))
      → Contains xs (bytes 41 x.terminal) → Contains xs (bytes 42 x.merchant)
      → (rest : List ℕ) → all_digits rest ≡ true → Contains xs (digits 60 (field60 kind batch code ++ rest)) → batch.0 ≤ last_number → kind ≤ 99 → code ≤ 999 → Says x batch trace i kind code (message_in b)
  says x batch trace kind code trace-in terminal-in merchant-in rest d kind-in u v w =
      let part = number_read 60 (field60 kind batch code ++ rest) (omega arith) (omega arith) kind-in.0 kind-in.1
      (digits_append (field60 kind batch code) rest (field60-digits kind batch code) d) in
      record {
        indicator = r.indicator;
        trace_bytes = ap (λ f. f.bytes) (r.fields 11 trace-in.0 ∙ trace-in.1);
        terminal_bytes = ap (λ f. f.bytes) (r.fields 41 terminal-in.0 ∙ terminal-in.1);
        merchant_bytes = ap (λ f. f.bytes) (r.fields 42 merchant-in.0 ∙ merchant-in.1);
        batch_number = part 2 6 batch.0 (omega arith) refl (omega arith) (omega arith);
        kind_number = part 0 2 kind (omega arith) refl (omega arith) (omega arith);
        code_number = part 8 3 code (omega arith) refl (omega arith) (omega arith);
      }
