-- The five messages that leave: what each says, and what type the history takes it for.
use Rattle.std.specs.Prelude.{Some}
use mathlib.Core.Path.{◌≡◌, refl, ap}
use mathlib.Core.List.{List, [], ◌∷◌}
use mathlib.Core.Bool.{Bool, true, false}
use Prim.Native.Nat.{ℕ, ◌≤◌}
use native.Mathlib.Omega.{arith}
use lib.Dec.{eqb}
use lib.ListN.{length}
use Rattle.numbers.specs.Limits.{largest_total, last_number}
use Rattle.digits.specs.Digits.{pack, all_digits}
use Rattle.digits.specs.Numbers.{digits_of}
use Rattle.digits.proofs.Numbers.{digits_of_digits}
use Rattle.field.specs.Table.{among}
use Rattle.message.specs.Message.{largest, field_of}
use Rattle.message.specs.declared.Message.{Message}
use Rattle.reading.specs.Reading.{read_message}
use Rattle.writing.specs.Writing.{message_bytes}
use Rattle.parts.specs.Parts.{number_in, part_of}
use Rattle.parts.specs.declared.Part.TheVariants as part
use Rattle.numbers.specs.declared.Trace.{Trace}
use Rattle.numbers.specs.declared.Batch.{Batch}
use Rattle.kinds.specs.Kinds.{is_kind, indicator_of}
use Rattle.kinds.proofs.Types.{each_type, kind-small}
use Rattle.entry.specs.declared.Entry.{Entry}
use Rattle.kinds.specs.declared.Totals.{Totals}
use Rattle.state.specs.State.{has_chip}
use Rattle.state.specs.declared.Chip.{Chip}
use Rattle.state.specs.declared.Request.{Request}
use Rattle.state.specs.declared.Reversal.{Reversal}
use Rattle.state.specs.declared.Settings.{Settings}
use Rattle.state_rules.proofs.Holds.{RequestHolds}
use Rattle.outgoing.specs.declared.Original.{Original}
use Rattle.outgoing.specs.Outgoing.{request_fields, reversal_fields, request_message, reversal_message, asks_partial}
use Rattle.outgoing.specs.Held.{CardHeld, OriginalHeld, SettingsHeld}
use Rattle.outgoing.proofs.Codes.{asks-digits}
use Rattle.outgoing.proofs.Leaving.{request-held, reversal-held, request-listed, reversal-listed}
use Rattle.outgoing_theorems.specs.Theorems.{Reads}
use Rattle.outgoing_theorems.proofs.Theorems.{request-chip}
use Rattle.batch_messages.specs.BatchMessages.{field48, settlement_fields, settlement_message, item_fields, item_message, end_fields, end_message, sign_on_fields, sign_on_message}
use Rattle.history.specs.Words.{message_in, kind_in, amount_in, carries_chip, is_request, is_reversal, is_settlement, is_end, is_sign_on}
use Rattle.batch_messages.proofs.Held.{field48-digits, settlement_held, settlement_listed, EntryHeld, item-held, end_held, upload-listed, sign_on-held, sign_on-listed}
use Rattle.history.proofs.Said.{handed_out, sent-reads, Says, number_read, says}

-- which of its words the history uses for a message
pub record Typed (request reversal settlement end : Bool) (m : Message) : Type 0 where
  pub is_request : is_request m ≡ request
  pub is_reversal : is_reversal m ≡ reversal
  pub is_settlement : is_settlement m ≡ settlement
  pub is_end : is_end m ≡ end
  pub is_sign_on : is_sign_on m ≡ false

pub request-typed : (kind : ℕ) (m : Message) → m.indicator ≡ indicator_of kind → Typed true false false false m
unfolding is_request is_reversal is_settlement is_end is_sign_on
request-typed kind m e =
    record {
      is_request = rw e (each_type (λ i. among i (0x0100 ∷ 0x0200 ∷ 0x0220 ∷ []) ≡ true) refl refl refl kind);
      is_reversal = rw e (each_type (λ i. eqb i 0x0400 ≡ false) refl refl refl kind);
      is_settlement = rw e (each_type (λ i. eqb i 0x0500 ≡ false) refl refl refl kind);
      is_end = rw (e, each_type (λ i. eqb i 0x0320 ≡ false) refl refl refl kind);
      is_sign_on = rw e (each_type (λ i. eqb i 0x0800 ≡ false) refl refl refl kind);
    }

pub reversal-typed : (m : Message) → m.indicator ≡ 0x0400 → Typed false true false false m
unfolding is_request is_reversal is_settlement is_end is_sign_on
reversal-typed m e = record { is_request = rw e; is_reversal = rw e; is_settlement = rw e; is_end = rw e; is_sign_on = rw e }

pub settlement_typed : (m : Message) → m.indicator ≡ 0x0500 → Typed false false true false m
unfolding is_request is_reversal is_settlement is_end is_sign_on
settlement_typed m e = record { is_request = rw e; is_reversal = rw e; is_settlement = rw e; is_end = rw e; is_sign_on = rw e }

pub item-typed : (m : Message) → m.indicator ≡ 0x0320 → part_of m part.Management ≡ Some 201 → Typed false false false false m
unfolding is_request is_reversal is_settlement is_end is_sign_on
item-typed m e c =
    record { is_request = rw e; is_reversal = rw e; is_settlement = rw e; is_end = rw (c, e); is_sign_on = rw e }

pub end_typed : (m : Message) → m.indicator ≡ 0x0320 → part_of m part.Management ≡ Some 202 → Typed false false false true m
unfolding is_request is_reversal is_settlement is_end is_sign_on
end_typed m e c =
    record { is_request = rw e; is_reversal = rw e; is_settlement = rw e; is_end = rw (c, e); is_sign_on = rw e }

-- a sign-on
pub record SignsOn (m : Message) : Type 0 where
  pub is_request : is_request m ≡ false
  pub is_reversal : is_reversal m ≡ false
  pub is_settlement : is_settlement m ≡ false
  pub is_end : is_end m ≡ false
  pub is_sign_on : is_sign_on m ≡ true

pub sign_on-typed : (m : Message) → m.indicator ≡ 0x0800 → SignsOn m
unfolding is_request is_reversal is_settlement is_end is_sign_on
sign_on-typed m e = record { is_request = rw e; is_reversal = rw e; is_settlement = rw e; is_end = rw e; is_sign_on = rw e }

-- a settlement's message: what an answer has to repeat, and the totals
pub record Settles (x : Settings) (batch : Batch) (trace : Trace) (t : Totals) (m : Message) : Type 0 where
  pub said : Says x batch trace 0x0500 0 201 m
  pub debit_amount : part_of m part.DebitAmount ≡ Some t.debit
  pub debit_count : part_of m part.DebitCount ≡ Some t.debits
  pub credit_amount : part_of m part.CreditAmount ≡ Some t.credit
  pub credit_count : part_of m part.CreditCount ≡ Some t.credits

-- totals that field 48 can say
pub record Sayable (t : Totals) : Type 0 where
  pub debit_most : t.debit ≤ largest_total
  pub credit_most : t.credit ≤ largest_total
  pub debits_most : t.debits ≤ 999
  pub credits_most : t.credits ≤ 999

-- a card request's message: what an answer has to repeat, and the request's kind and amount
pub record Asks (x : Settings) (batch : Batch) (q : Request) (m : Message) : Type 0 where
  pub said : Says x batch q.trace (indicator_of q.kind) q.kind 0 m
  pub typed : Typed true false false false m
  pub kind_is : kind_in m ≡ q.kind
  pub amount_is : amount_in m ≡ q.amount
  pub amount_bytes : (field_of m 4).bytes ≡ pack (digits_of 12 q.amount)

kind-said : {x : Settings} {batch : Batch} {trace : Trace} {i kind code : ℕ} {m : Message} → Says x batch trace i kind code m
    → kind_in m ≡ kind
unfolding kind_in
kind-said s = rw s.kind_number

amount-said : (m : Message) (n : ℕ) → number_in m 4 0 12 ≡ Some n → amount_in m ≡ n
unfolding amount_in
amount-said m n e = rw e

module _ (x : Settings) (batch : Batch) (m : List ℕ) (room : largest ≤ length m) (small : batch.0 ≤ last_number) where
  request-read : (c : Chip) (q : Request) (o : Original) → CardHeld x c q → OriginalHeld q.kind o
      → Reads (indicator_of q.kind) (request_fields x batch c q o) (read_message (handed_out (message_bytes (request_message x batch c q o)) m))
  unfolding request_message
  request-read c q o h g =
      sent-reads (indicator_of q.kind) (request_fields x batch c q o) m (request-listed q.kind) (request-held x batch c q o h g) room

  -- a request carries field 55 where there is a chip
  pub request-carries : (c : Chip) (q : Request) (o : Original) → CardHeld x c q → OriginalHeld q.kind o
      → carries_chip (message_in (handed_out (message_bytes (request_message x batch c q o)) m)) ≡ has_chip c
  unfolding carries_chip
  request-carries c q o h g = (request-chip x batch c q o _ (request-read c q o h g)).named

  pub request-asks : (c : Chip) (q : Request) (o : Original) → CardHeld x c q → OriginalHeld q.kind o → RequestHolds q
      → Asks x batch q (message_in (handed_out (message_bytes (request_message x batch c q o)) m))
  request-asks c q o w g h =
      let i = indicator_of q.kind in
      let xs = request_fields x batch c q o in
      let r = request-read c q o w g in
      let k = kind-small q.kind h.kind_listed in
      let s = says _ i xs r x batch q.trace q.kind 0 (refl, refl) (refl, refl) (refl, refl) (asks_partial q.kind) (asks-digits q.kind)
      (refl, refl) small k (omega arith) in
      let a = number_read _ i xs r 4 (digits_of 12 q.amount) (omega arith) (omega arith) refl refl (digits_of_digits 12 q.amount)
      0 12 q.amount (omega arith) refl (omega arith) (omega (arith, h.amount_most)) in
      record {
        said = s;
        typed = request-typed q.kind _ s.indicator;
        kind_is = kind-said s;
        amount_is = amount-said _ q.amount a;
        amount_bytes = ap (λ f. f.bytes) (r.fields 4 refl);
      }

  pub reversal-says : (c : Chip) (v : Reversal) → CardHeld x c v.request → RequestHolds v.request
      → Says x batch v.request.trace 0x0400 v.request.kind 0 (message_in (handed_out (message_bytes (reversal_message x batch c v)) m))
  unfolding reversal_message
  reversal-says c v w h =
      let xs = reversal_fields x batch c v in
      says _ 0x0400 xs (sent-reads 0x0400 xs m reversal-listed (reversal-held x batch c v w) room) x batch v.request.trace
      v.request.kind 0 (refl, refl) (refl, refl) (refl, refl) (asks_partial v.request.kind) (asks-digits v.request.kind) (refl, refl) small
      (kind-small v.request.kind h.kind_listed) (omega arith)

  pub settlement_settles : (trace : Trace) (t : Totals) → SettingsHeld x → Sayable t
      → Settles x batch trace t (message_in (handed_out (message_bytes (settlement_message x batch trace t)) m))
  unfolding settlement_message all_digits
  settlement_settles trace t h f =
      let xs = settlement_fields x batch trace t in
      let r = sent-reads 0x0500 xs m settlement_listed (settlement_held x batch h trace t) room in
      let sum = number_read _ 0x0500 xs r 48 (field48 t) (omega arith) (omega arith) refl refl (field48-digits t) in
      record {
        said = says _ 0x0500 xs r x batch trace 0 201 (refl, refl) (refl, refl) (refl, refl) [] refl (refl, refl) small (omega arith) (omega arith);
        debit_amount = sum 0 12 t.debit (omega arith) refl (omega arith) (omega (arith, f.debit_most));
        debit_count = sum 12 3 t.debits (omega arith) refl (omega arith) (omega (arith, f.debits_most));
        credit_amount = sum 15 12 t.credit (omega arith) refl (omega arith) (omega (arith, f.credit_most));
        credit_count = sum 27 3 t.credits (omega arith) refl (omega arith) (omega (arith, f.credits_most));
      }

  pub item-says : (e : Entry) → SettingsHeld x → EntryHeld e → is_kind e.kind ≡ true
      → Says x batch e.trace 0x0320 e.kind 201 (message_in (handed_out (message_bytes (item_message x batch e)) m))
  unfolding item_message all_digits
  item-says e h g k =
      let xs = item_fields x batch e in
      says _ 0x0320 xs (sent-reads 0x0320 xs m upload-listed (item-held x batch h e g) room) x batch e.trace e.kind 201
      (refl, refl) (refl, refl) (refl, refl) [] refl (refl, refl) small (kind-small e.kind k) (omega arith)

  pub end_says : (trace : Trace) → SettingsHeld x
      → Says x batch trace 0x0320 0 202 (message_in (handed_out (message_bytes (end_message x batch trace)) m))
  unfolding end_message all_digits
  end_says trace h =
      let xs = end_fields x batch trace in
      says _ 0x0320 xs (sent-reads 0x0320 xs m upload-listed (end_held x batch h trace) room) x batch trace 0 202
      (refl, refl) (refl, refl) (refl, refl) [] refl (refl, refl) small (omega arith) (omega arith)

  pub sign_on-says : (trace : Trace) → SettingsHeld x
      → Says x batch trace 0x0800 0 3 (message_in (handed_out (message_bytes (sign_on_message x batch trace)) m))
  unfolding sign_on_message all_digits
  sign_on-says trace h =
      let xs = sign_on_fields x batch trace in
      says _ 0x0800 xs (sent-reads 0x0800 xs m sign_on-listed (sign_on-held x batch h trace) room) x batch trace 0 3
      (refl, refl) (refl, refl) (refl, refl) [] refl (refl, refl) small (omega arith) (omega arith)
