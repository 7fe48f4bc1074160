-- An answer that the terminal accepts is one that the history finds matching what left; both read it alike.
use Rattle.std.specs.Prelude.{Some, None, Option}
use mathlib.Core.Path.{◌≡◌, refl}
use mathlib.Core.List.{List}
use mathlib.Core.Bool.{Bool, true, false, ◌&&◌, and-eq-true_iff, and-true, or-false}
use Prim.Native.Nat.{ℕ}
use lib.Dec.{eqb, leb}
use Rattle.digits.specs.Packed.{numeral}
use Rattle.message.specs.declared.Message.{Message}
use Rattle.reading.specs.Reading.{read_message, Read}
use Rattle.parts.specs.Parts.{matches, part_of}
use Rattle.parts.specs.declared.Part.TheVariants as part
use Rattle.numbers.specs.declared.Trace.{Trace}
use Rattle.numbers.specs.declared.Batch.{Batch}
use Rattle.state.specs.declared.Request.{Request}
use Rattle.state.specs.declared.Reversal.{Reversal}
use Rattle.state.specs.declared.Awaited.{Awaited}
use Rattle.state.specs.declared.Awaited.TheVariants as awaited
use Rattle.state.specs.declared.Settings.{Settings}
use Rattle.answer_match.specs.Match as terminal
use Rattle.answer_match.specs.Match.{is_value, is_value_within, repeats, matches_sent, indicator_sent, amount_holds, approval_holds, holds_named, is_answer, approves, good_mac, ends_reversal}
use Rattle.history.specs.Words.{message_in, kind_in, amount_in, is_sign_on, same_field, same_number, code_is, is_approval, approves_request, amount_fits, digit_in, matches_message, holds_its_fields, is_matching, mac_good, ends_it, closes_batch}
use Rattle.history.proofs.Said.{Says}
use Rattle.history.proofs.Sent.{Typed, SignsOn, Asks}

same-value : (b : ℕ) (n : Option ℕ) → is_value b n ≡ same_number n (Some b)
same-value b (Some x) = refl
same-value b None = refl

value-is : (n : Option ℕ) → is_value 1 n ≡ eqb (numeral n) 1
value-is (Some x) = refl
value-is None = refl

value-within : (most : ℕ) (n : Option ℕ) → is_value_within 1 most n ≡ (leb 1 (numeral n) && leb (numeral n) most)
value-within most (Some x) = refl
value-within most None = refl

-- what an answer must repeat stands in the message that left
pub matches_alike : {x : Settings} {batch : Batch} {trace : Trace} {i kind code : ℕ} {m : Message} → Says x batch trace i kind code m
    → is_sign_on m ≡ false → (a : Message) → matches_sent x batch i trace a ≡ matches_message m a
unfolding matches_sent repeats matches_message same_field matches
matches_alike {x} {batch} s n a =
    rw (n, s.batch_number, s.trace_bytes, s.terminal_bytes, s.merchant_bytes, s.indicator, same-value batch.0 (part_of a part.Batch))

-- what approves a request, and its amount
pub request_alike : (m : Message) {kind : ℕ} → kind_in m ≡ kind → (a : Message) → approves_request m a ≡ terminal.approves_request kind a
unfolding approves_request terminal.approves_request code_is matches
request_alike m e a = rw e

amount-read : (a : Message) → amount_in a ≡ numeral (part_of a part.Amount)
unfolding amount_in
amount-read a = refl

amount_alike : {x : Settings} {batch : Batch} {q : Request} {m : Message} → Asks x batch q m
    → (a : Message) → amount_holds q.amount a ≡ amount_fits m a
unfolding amount_holds amount_fits same_field code_is matches
amount_alike {q = q} s a = rw (s.amount_bytes, s.amount_is, amount-read a, value-within q.amount (part_of a part.Amount))

-- what else it must hold
pub request-holds : {x : Settings} {batch : Batch} {q : Request} {m : Message} → Asks x batch q m
    → (a : Message) → holds_named (awaited.Request q) a ≡ holds_its_fields m a
unfolding holds_its_fields approval_holds
request-holds {m = m} s a = rw (s.typed.is_settlement, s.typed.is_request, s.typed.is_sign_on, request_alike m s.kind_is a, amount_alike s a, and-true)

pub other_holds : {reversal end : Bool} {m : Message} → Typed false reversal false end m → (a : Message)
    → terminal.holds_named (awaited.Item 0) a ≡ holds_its_fields m a
unfolding holds_its_fields
other_holds t a = rw (t.is_settlement, t.is_request, t.is_sign_on, and-true, and-true)

pub settlement_holds : {m : Message} (x : Trace) → Typed false false true false m → (a : Message)
    → holds_named (awaited.Settlement x) a ≡ holds_its_fields m a
unfolding holds_its_fields digit_in
settlement_holds x t a = rw t.is_settlement (value-within 3 (part_of a part.Reconciliation))

-- an accepted answer is a matching one
pub accepted : {x : Settings} {batch : Batch} {trace : Trace} {kind code : ℕ} {m : Message} (w : Awaited) (b : List ℕ)
    → Says x batch trace (indicator_sent w) kind code m → is_sign_on m ≡ false → holds_named w (message_in b) ≡ holds_its_fields m (message_in b)
    → (read_message b).outcome ≡ Read → is_answer x batch trace w (message_in b) ≡ true → is_matching m b ≡ true
unfolding is_matching is_answer
accepted {x} {batch} {trace} w b s n h r e =
    let t = (and-eq-true_iff (matches_sent x batch (indicator_sent w) trace (message_in b)) (holds_named w (message_in b))).0 e in
    rw (r, ← matches_alike s n (message_in b), ← h, t.0, t.1)

pub request-accepted : {x : Settings} {batch : Batch} {q : Request} {m : Message} (b : List ℕ) → Asks x batch q m
    → (read_message b).outcome ≡ Read → is_answer x batch q.trace (awaited.Request q) (message_in b) ≡ true → is_matching m b ≡ true
request-accepted {q = q} b s r e = accepted (awaited.Request q) b s.said s.typed.is_sign_on (request-holds s (message_in b)) r e

pub reversal-accepted : {x : Settings} {batch : Batch} {kind code : ℕ} {m : Message} (v : Reversal) (b : List ℕ)
    → Says x batch v.request.trace 0x0400 kind code m → Typed false true false false m
    → (read_message b).outcome ≡ Read → is_answer x batch v.request.trace (awaited.Reversal v) (message_in b) ≡ true → is_matching m b ≡ true
reversal-accepted v b s t r e = accepted (awaited.Reversal v) b s t.is_sign_on (other_holds t (message_in b)) r e

pub settlement_accepted : {x : Settings} {batch : Batch} {kind code : ℕ} {m : Message} (trace : Trace) (b : List ℕ)
    → Says x batch trace 0x0500 kind code m → Typed false false true false m
    → (read_message b).outcome ≡ Read → is_answer x batch trace (awaited.Settlement trace) (message_in b) ≡ true → is_matching m b ≡ true
settlement_accepted trace b s t r e = accepted (awaited.Settlement trace) b s t.is_sign_on (settlement_holds trace t (message_in b)) r e

pub end_accepted : {x : Settings} {batch : Batch} {kind code : ℕ} {m : Message} (trace : Trace) (b : List ℕ)
    → Says x batch trace 0x0320 kind code m → Typed false false false true m
    → (read_message b).outcome ≡ Read → is_answer x batch trace (awaited.End trace) (message_in b) ≡ true → is_matching m b ≡ true
end_accepted trace b s t r e = accepted (awaited.End trace) b s t.is_sign_on (other_holds t (message_in b)) r e

-- what it says: approval, MAC, the end of a reversal
pub approves_alike : (a : Message) → is_approval a ≡ approves a
unfolding code_is matches
approves_alike a = refl

pub mac_alike : (good : Bool) (a : Message) → mac_good good a ≡ good_mac good a
unfolding mac_good good_mac
mac_alike good a = refl

pub ends_alike : (good : Bool) (a : Message) → ends_it good a ≡ ends_reversal good a
unfolding ends_it ends_reversal code_is matches mac_good good_mac
ends_alike good a = refl

-- a closing
pub settlement_closes : {m : Message} → Typed false false true false m → (a : Message) → closes_batch m a ≡ terminal.closes_batch a
unfolding closes_batch terminal.closes_batch digit_in
settlement_closes t a = rw (t.is_settlement, t.is_end, value-is (part_of a part.Reconciliation), or-false)

pub end_closes : {m : Message} → Typed false false false true m → (a : Message) → closes_batch m a ≡ approves a
unfolding closes_batch code_is matches
end_closes t a = rw (t.is_settlement, t.is_end)

pub sign_on-closes : {m : Message} → SignsOn m → (a : Message) → closes_batch m a ≡ false
unfolding closes_batch
sign_on-closes t a = rw (t.is_settlement, t.is_end)

pub other_closes : {request reversal : Bool} {m : Message} → Typed request reversal false false m → (a : Message) → closes_batch m a ≡ false
unfolding closes_batch
other_closes t a = rw (t.is_settlement, t.is_end)
