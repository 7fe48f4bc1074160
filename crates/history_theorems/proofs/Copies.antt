-- Fields 2, 4 and 11 of a card request hold exactly the digits of its card, amount and trace, and field 37 of its approval has as many bytes as
-- its count: so what is spelt from the entry is copied from these messages.
use mathlib.Core.Path.{◌≡◌, refl, sym, ap, ◌∙◌}
use mathlib.Core.List.{List, [], ◌∷◌, ◌++◌}
use mathlib.Core.Bool.{Bool, true, false, cond, not, ◌&&◌, and-eq-true_iff, true≢false}
use Prim.Native.Nat.{ℕ, zero, suc, ◌*◌, ◌/◌, ◌≤◌, ◌<◌}
use native.Mathlib.Omega.{arith}
use lib.Dec.{eqb}
use lib.ListN.{length, take}
use lib.Seq.{ext_get_or, get_or-take}
use borrow.Author.Tests.{eqb-true, eqb-false}
use Rattle.digits.specs.Digits.{half, bytes_for, unpack, pack}
use Rattle.digits.specs.Numbers.{digits_of}
use Rattle.digits.specs.Packed.{packed_number}
use Rattle.digits.proofs.Numbers.{length_digits_of, digits_of_digits, digits_of_value}
use Rattle.digits.proofs.Packed.{length-number, number-value}
use Rattle.digits.proofs.Packing.{length-unpack, get_d_unpack, unpack-pack}
use Rattle.field.specs.Bitmap.{names}
use Rattle.field.specs.Table.{formats}
use Rattle.message.specs.Build.{digits, bytes}
use Rattle.message.specs.Located.{located}
use Rattle.message.specs.Message.{Field, field_of}
use Rattle.message.specs.declared.Message.{Message}
use Rattle.message_theorems.proofs.Readable.{read_keeps_formats}
use Rattle.reading.specs.Reading.{read_message, ReadOutcome, Read, Refused}
use Rattle.numbers.specs.declared.Batch.{Batch}
use Rattle.entry.specs.declared.Entry.{Entry}
use Rattle.journal.specs.Journal.{entry_at}
use Rattle.approval.specs.Cards.{card_of}
use Rattle.state.specs.declared.Awaited.{Awaited}
use Rattle.state.specs.declared.Awaited.TheVariants as awaited
use Rattle.state.specs.declared.Card.{Card}
use Rattle.state.specs.declared.Chip.{Chip}
use Rattle.state.specs.declared.Phase.{Phase}
use Rattle.state.specs.declared.Phase.TheVariants.{Resting, Waiting, Pending, Settling, Uploading}
use Rattle.state.specs.declared.Settings.{Settings}
use Rattle.state.specs.declared.State.{State}
use Rattle.call_definitions.specs.Events.{Event, sign_on_event, starts, answers, no_answer_event, power_returned_event, card_agrees_event, card_declines_event, send_reversal_event, settles, send_next_upload_event}
use Rattle.history.specs.Words.{message_in, reads, carries_chip, is_request, is_settlement, amount_fits, batch_in, is_approval, approves_request, matches_message, holds_its_fields, is_matching, mac_good, closes_batch}
use Rattle.history.specs.History as history
use Rattle.history.specs.History.{Given}
use Rattle.history.proofs.NotEmpty.{reading_above}
use Rattle.history.proofs.Sent.{reversal-typed, settlement_typed, item-typed, end_typed}
use Rattle.history_theorems.specs.Standing as standing
use Rattle.history_theorems.specs.Standing.{Standing, SignOn, trace_in, when_closed, grants, when_decided, when_agreed}
use Rattle.history_theorems.specs.Judged.{unread, awaits, asked, number_of, JudgedBy}
use Rattle.history_theorems.specs.Approvals as approvals
use Rattle.history_theorems.specs.Approvals.{Approval, AtPlace, IsEntry, AreEntries}
use Rattle.history_theorems.specs.Fields.{approved_amount}
use Rattle.history_theorems.proofs.Stands.{PhaseStands, Details, SentLast, AwaitedDetails, Stands}
use Rattle.history_theorems.proofs.Signs.{chosen}

-- a message holds exactly the digits of a card and of its trace
pub record Exact (m : Message) : Type 0 where
  pub card : Card
  pub card_is : field_of m 2 ≡ (digits 2 (digits_of card.length card.number)).field
  pub trace_is : field_of m 11 ≡ (digits 11 (digits_of 6 (trace_in m))).field

-- the digits at the front of some bytes are those of their first bytes
unpack-front : (n k : ℕ) (s : List ℕ) → n ≤ 2 * k → unpack n (take k s) ≡ unpack n s
unfolding half
unpack-front n k s h =
    ext_get_or 0 _ _ (length-unpack n (take k s) ∙ sym (length-unpack n s))
    (λ i l.
    let b : i < n = omega (arith, length-unpack n (take k s)) in
    get_d_unpack n (take k s) i b ∙ rw (get_or-take k s (i / 2) 0 (omega arith)) (sym (get_d_unpack n s i b)))

-- a number read from the digits of x is spelt by the same digits
read-digits : (n x : ℕ) (s : List ℕ) → n ≤ 19 → take (bytes_for n) s ≡ pack (digits_of n x) → digits_of n (packed_number n s) ≡ digits_of n x
read-digits n x s short e =
    let same : unpack n s ≡ digits_of n x =
    sym (unpack-front n (bytes_for n) s (omega arith)) ∙ ap (unpack n) e ∙ rw length_digits_of at (unpack-pack (digits_of n x) (digits_of_digits n x)) in
    rw (number-value n s short (rw same (digits_of_digits n x)), same) (rw length_digits_of at (digits_of_value (digits_of n x) (digits_of_digits n x)))

-- as many bytes as its count
abbrev Whole : Field → Type 0
Whole f = f.count ≡ length f.bytes

-- what is spelt from an entry is copied from the request of its approval and from the answer
pub record Copied (e : Entry) (x : Approval) : Type 0 where
  pub card_copied : (digits 2 (digits_of (card_of e).length (card_of e).number)).field ≡ field_of x.request 2
  pub amount_copied : (digits 4 (digits_of 12 e.amount)).field ≡ (approved_amount x).field
  pub trace_copied : (digits 11 (digits_of 6 e.trace.0)).field ≡ field_of x.request 11
  pub reference_copied : (bytes 37 e.reference).field ≡ field_of x.answer 37

-- of each approval: its request is exact, and so is field 37 of its answer
abbrev pub EachExact : List Approval → Type 0
EachExact [] = Unit {0}
EachExact (x ∷ xs) = (Exact x.request × Whole (field_of x.answer 37)) × EachExact xs

entry-copied : (e : Entry) (x : Approval) (later : List Approval) → e.digits ≤ 19 → IsEntry e x later → Exact x.request
    → Whole (field_of x.answer 37) → Copied e x
entry-copied e x later short h m whole =
    let c = m.card in
    let n : e.digits ≡ c.length = h.digits_are ∙ ap (λ (f : Field). f.count) m.card_is ∙ length_digits_of c.length c.number in
    let front : take (bytes_for c.length) e.card ≡ pack (digits_of c.length c.number) =
    rw (m.card_is, length-number c.length c.number) at h.card_is in
    record {
      card_copied = rw (n, m.card_is, read-digits c.length c.number e.card (omega arith) front);
      amount_copied = rw h.amount_is;
      trace_copied = rw h.trace_is (sym m.trace_is);
      reference_copied = rw (h.reference_is, ← whole);
    }

-- the approval at a place, by its entry and by what the entry copies
pub copied-place : (P : Approval → Type 0) (i : ℕ) (es : List Entry) (xs : List Approval) → AreEntries es xs → EachExact xs → i < length es
    → (entry_at es i).digits ≤ 19
    → ((x : Approval) (later : List Approval) → IsEntry (entry_at es i) x later → Copied (entry_at es i) x → P x) → AtPlace i P xs
copied-place P i [] xs h k l s f = absurd (omega arith)
copied-place P i (e ∷ es) [] h k l s f = absurd h
copied-place P zero (e ∷ es) (x ∷ xs) h k l s f = f x xs h.0 (entry-copied e x xs s h.0 k.0.0 k.0.1)
copied-place P (suc i) (e ∷ es) (x ∷ xs) h k l s f = copied-place P i es xs h.1 k.1 (omega arith) s f

-- a card request that is sent last is exact, by the phase
module _ (x : Settings) (batch : Batch) (c : Chip) (es : List Entry) (y : Standing) (asks : is_request y.message ≡ true) (same : y.request ≡ y.message) where
  not_asked : is_request y.message ≡ false → Exact y.message
  not_asked e = absurd (true≢false (sym asks ∙ e))

  awaited_exact : (w : Awaited) → SentLast x batch es w y → AwaitedDetails x batch c w y → Exact y.message
  awaited_exact (awaited.Request q) h d =
      let held = rw same at d.card.plain in
      record {
        card = q.card;
        card_is = d.says.card_is;
        trace_is = rw d.says.trace_is held.1.1.1.0;
      }
  awaited_exact (awaited.Reversal v) h d = not_asked (reversal-typed y.message h.indicator).is_request
  awaited_exact (awaited.Settlement t) h d = not_asked (settlement_typed y.message h.indicator).is_request
  awaited_exact (awaited.Item i) h d = not_asked (item-typed y.message h.indicator h.code_number).is_request
  awaited_exact (awaited.End t) h d = not_asked (end_typed y.message h.indicator h.code_number).is_request

  idle_exact : y.awaited ≡ true → y.awaited ≡ false → Exact y.message
  idle_exact a e = absurd (true≢false (sym a ∙ e))

  phase_exact : (p : Phase) → y.awaited ≡ true → PhaseStands x batch es p y → Details x batch c p y → Exact y.message
  phase_exact Resting a h d = idle_exact a h.awaits_is
  phase_exact (Waiting w) a h d = awaited_exact w h.1 d
  phase_exact (Pending v) a h d = idle_exact a h.awaits_is
  phase_exact Settling a h d = idle_exact a h.awaits_is
  phase_exact Uploading a h d = idle_exact a h.awaits_is

-- a call that gives a quiet change is refused by no number
quiet-number : (e : Event) (y : Standing) (n : ℕ) → JudgedBy n e y history.quiet → n ≡ 0
quiet-number e y n judged = go (eqb n 0) refl
  where
    go : (t : Bool) → eqb n 0 ≡ t → n ≡ 0
    go true q = eqb-true n 0 q
    go false q =
        let g = judged.refuses (eqb-false n 0 q) in
        let z : ◌≡◌ {A = ℕ} 0 1 = cc in
        absurd (omega arith)

-- an answer that is heard quietly reads and matches
module _ (b : List ℕ) (good reverses : Bool) (w : SignOn) (y : Standing)
    (judged : JudgedBy (number_of (answers b good) w y reverses) (answers b good) y history.quiet) where
  heard-matches : (o : ReadOutcome) → (read_message b).outcome ≡ o
      → unread o (cond (awaits w y && not y.card) (cond (is_matching (asked w y) b) 0 22) 14) ≡ 0
      → (o ≡ Read) × (is_matching (asked w y) b ≡ true)
  heard-matches Read r e = (refl, go (awaits w y && not y.card) (is_matching (asked w y) b) e)
    where
      go : (a m : Bool) → ◌≡◌ {A = ℕ} (cond a (cond m 0 22) 14) 0 → m ≡ true
      go true true e = refl
      go true false e = absurd (omega arith)
      go false m e = absurd (omega arith)
  heard-matches (Refused k) r e = let l : 3 ≤ k = rw r at (reading_above b) in absurd (omega arith)

  heard-reads : y.awaited ≡ true → ((read_message b).outcome ≡ Read) × (is_matching y.message b ≡ true)
  heard-reads e =
      let m = heard-matches (read_message b).outcome refl (quiet-number (answers b good) y (number_of (answers b good) w y reverses) judged) in
      (m.0, rw (chosen e y.message w.message) at m.1)

-- a matching approval of a card request has field 37, as many bytes as its count
not_settlement : (m : Message) → is_request m ≡ true → is_settlement m ≡ false
unfolding is_settlement
not_settlement m e = go (eqb m.indicator 0x0500) refl
  where
    go : (t : Bool) → eqb m.indicator 0x0500 ≡ t → t ≡ false
    go true q = absurd (true≢false (sym e ∙ (settlement_typed m (eqb-true m.indicator 0x0500 q)).is_request))
    go false q = refl

names-reference : (m : Message) (b : List ℕ) → is_matching m b ≡ true → is_request m ≡ true → approves_request m (message_in b) ≡ true
    → names (message_in b).bitmap 37 ≡ true
unfolding is_matching holds_its_fields
names-reference m b e r k =
    let a = message_in b in
    let held = amount_fits m a && names a.bitmap 13 in
    let h = rw (not_settlement m r, r, k) at ((and-eq-true_iff (reads (read_message b).outcome && matches_message m a) (holds_its_fields m a)).0 e).1 in
    let c = ((and-eq-true_iff (names a.bitmap 39 && (held && names a.bitmap 37)) _).0 h).0 in
    ((and-eq-true_iff held (names a.bitmap 37)).0 ((and-eq-true_iff (names a.bitmap 39) (held && names a.bitmap 37)).0 c).1).1

reference-whole : (b : List ℕ) → (read_message b).outcome ≡ Read → names (message_in b).bitmap 37 ≡ true → Whole (field_of (message_in b) 37)
unfolding located formats
reference-whole b r e = sym (read_keeps_formats b r 37 e).size_is

-- the message sent last, where it is a card request, and those of the approvals; where the card's word is awaited, it is one, and its
-- answer has a whole field 37
pub record Exactly (y : Standing) (xs : List Approval) : Type 0 where
  pub last : is_request y.message ≡ true → Exact y.message
  pub granted : y.card ≡ true → (is_request y.message ≡ true) × Whole (field_of y.answer 37)
  pub each : EachExact xs

exact_more : (x : Approval) (xs : List Approval) → EachExact xs → Exact x.request → Whole (field_of x.answer 37) → EachExact (xs ++ (x ∷ []))
exact_more x [] h k w = ((k, w), tt)
exact_more x (z ∷ zs) h k w = (h.0, exact_more x zs h.1 k w)

heard-each : (b : List ℕ) (good : Bool) (y : Standing) (xs : List Approval) → ((read_message b).outcome ≡ Read) × (is_matching y.message b ≡ true)
    → Exactly y xs → EachExact (approvals.when_heard good (message_in b) y xs)
unfolding approvals.when_heard
heard-each b good y xs m h =
    go (closes_batch y.message a) (is_request y.message) (carries_chip y.message) (approves_request y.message a) (mac_good good a) refl refl
  where
    a : Message
    a = message_in b

    go : (c r i k g : Bool) → is_request y.message ≡ r → approves_request y.message a ≡ k
        → EachExact (cond c [] (cond (r && (not i && (k && g))) (xs ++ (record { request = y.message; answer = a } ∷ [])) xs))
    go true r i k g e p = tt
    go false true false true true e p = exact_more _ xs h.each (h.last e) (reference-whole b m.0 (names-reference y.message b m.1 e p))
    go false true false true false e p = h.each
    go false true false false g e p = h.each
    go false true true k g e p = h.each
    go false false i k g e p = h.each

module _ (b : List ℕ) (good : Bool) (y : Standing) (xs : List Approval) (h : Exactly y xs) where
  heard-last : is_request (standing.when_heard good (message_in b) y).message ≡ true → Exact (standing.when_heard good (message_in b) y).message
  unfolding standing.when_heard when_closed when_decided
  heard-last = go (closes_batch y.message (message_in b))
    where
      go : (c : Bool) → is_request (cond c (when_closed y) (when_decided good (message_in b) y)).message ≡ true
          → Exact (cond c (when_closed y) (when_decided good (message_in b) y)).message
      go true e = h.last e
      go false e = h.last e

  heard-granted : ((read_message b).outcome ≡ Read) × (is_matching y.message b ≡ true) → (standing.when_heard good (message_in b) y).card ≡ true
      → (is_request (standing.when_heard good (message_in b) y).message ≡ true) × Whole (field_of (standing.when_heard good (message_in b) y).answer 37)
  unfolding standing.when_heard when_closed when_decided grants
  heard-granted m = go (closes_batch y.message (message_in b))
    where
      a : Message
      a = message_in b

      go : (c : Bool) → (cond c (when_closed y) (when_decided good a y)).card ≡ true
          → (is_request (cond c (when_closed y) (when_decided good a y)).message ≡ true) × Whole (field_of (cond c (when_closed y) (when_decided good a y)).answer 37)
      go true e = absurd (true≢false (sym e))
      go false e =
          let r = (and-eq-true_iff (is_request y.message) (carries_chip y.message && (approves_request y.message a && mac_good good a))).0 e in
          let i = (and-eq-true_iff (carries_chip y.message) (approves_request y.message a && mac_good good a)).0 r.1 in
          let k = (and-eq-true_iff (approves_request y.message a) (mac_good good a)).0 i.1 in
          (r.0, reference-whole b m.0 (names-reference y.message b m.1 r.0 k.0))

  -- the card agrees
  agreed-exactly : y.card ≡ true → Exactly (when_agreed y) (xs ++ (record { request = y.message; answer = y.answer } ∷ []))
  unfolding when_agreed
  agreed-exactly e =
      let g = h.granted e in
      record { last = h.last; granted = λ q. absurd (true≢false (sym q)); each = exact_more _ xs h.each (h.last g.0) g.1 }

-- no word of a card is awaited then
unawaited : (m a : Message) → false ≡ true → (is_request m ≡ true) × Whole (field_of a 37)
unawaited m a q = absurd (true≢false (sym q))

card_awaited : (b : Bool) → ◌≡◌ {A = ℕ} (cond b 0 14) 0 → b ≡ true
card_awaited true e = refl
card_awaited false e = absurd (omega arith)

-- the answer to a sign-on is none to a card request
told-exactly : (a : Message) (y : Standing) (xs : List Approval) → Exactly y xs → Exactly (standing.when_told a y) xs
told-exactly a y xs h = go (is_approval a)
  where
    go : (b : Bool) → Exactly (cond b (standing.when_signed (batch_in a) y) y) xs
    go true = record { last = h.last; granted = h.granted; each = h.each }
    go false = h

module _ (y : Standing) (w : SignOn) (xs : List Approval) (reverses : Bool) (h : Exactly y xs) where
  answer-exactly : (b : List ℕ) (good : Bool) → JudgedBy (number_of (answers b good) w y reverses) (answers b good) y history.quiet
      → (t : Bool) → y.awaited ≡ t
      → Exactly (cond t (standing.when_heard good (message_in b) y) (standing.when_told (message_in b) y)) (cond t (approvals.when_heard good (message_in b) y xs) xs)
  answer-exactly b good j true e =
      let m = heard-reads b good reverses w y j e in
      record { last = heard-last b good y xs h; granted = heard-granted b good y xs h m; each = heard-each b good y xs m h }
  answer-exactly b good j false e = told-exactly (message_in b) y xs h

  quiet-exactly : (e : Event) → JudgedBy (number_of e w y reverses) e y history.quiet → Exactly (standing.when_quiet e y) (approvals.when_quiet e y xs)
  quiet-exactly sign_on_event j = h
  quiet-exactly (starts d b) j = h
  quiet-exactly (answers b good) j = answer-exactly b good j y.awaited refl
  quiet-exactly no_answer_event j = record { last = h.last; granted = unawaited y.message y.answer; each = h.each }
  quiet-exactly power_returned_event j = record { last = h.last; granted = unawaited y.message y.answer; each = h.each }
  quiet-exactly card_agrees_event j = agreed-exactly [] false y xs h (card_awaited y.card (quiet-number card_agrees_event y (number_of card_agrees_event w y reverses) j))
  quiet-exactly card_declines_event j = record { last = h.last; granted = unawaited y.message y.answer; each = h.each }
  quiet-exactly send_reversal_event j = h
  quiet-exactly settles j = h
  quiet-exactly send_next_upload_event j = h

  -- what is sent, but for a sign-on, is awaited
  module _ (m : Message) (s : State) (j : List ℕ) where
    leaving-exactly : Stands s j (standing.when_sent m y) → Exactly (standing.when_sent m y) xs
    leaving-exactly d =
        record {
          last = λ q. phase_exact s.settings s.batch s.chip _ (standing.when_sent m y) q (rw q) s.phase refl d.phase_is d.details;
          granted = unawaited m y.answer;
          each = h.each;
        }

    sent-exactly : (e : Event) → Stands s j (standing.sent_at e m y) → Exactly (standing.sent_at e m y) xs
    sent-exactly sign_on_event d = record { last = h.last; granted = h.granted; each = h.each }
    sent-exactly (starts k b) d = leaving-exactly d
    sent-exactly (answers b good) d = leaving-exactly d
    sent-exactly no_answer_event d = leaving-exactly d
    sent-exactly power_returned_event d = leaving-exactly d
    sent-exactly card_agrees_event d = leaving-exactly d
    sent-exactly card_declines_event d = leaving-exactly d
    sent-exactly send_reversal_event d = leaving-exactly d
    sent-exactly settles d = leaving-exactly d
    sent-exactly send_next_upload_event d = leaving-exactly d

  -- any call keeps them
  pub call-exactly : (e : Event) (g : Given) (s : State) (j : List ℕ) → Stands s j (standing.when_given g e y)
      → ((g ≡ history.refused 1 → ⊥) → (g ≡ history.refused 2 → ⊥) → JudgedBy (number_of e w y reverses) e y g)
      → Exactly (standing.when_given g e y) (approvals.when_given g e y xs)
  call-exactly e (history.sent b) s j d k = sent-exactly (message_in b) s j e d
  call-exactly e history.quiet s j d k =
      quiet-exactly e (k (λ q. let z : ◌≡◌ {A = ℕ} 0 1 = cc in omega arith) (λ q. let z : ◌≡◌ {A = ℕ} 0 1 = cc in omega arith))
  call-exactly e (history.refused n) s j d k = h
