-- The theorems on the answers of the simulated centre.
use Rattle.std.specs.Prelude.{Some, None, Option}
use mathlib.Core.Path.{◌≡◌, refl, sym, ap, ◌∙◌}
use mathlib.Core.List.{List, [], ◌∷◌, ◌++◌}
use mathlib.Core.Bool.{Bool, true, false, cond, not, ◌&&◌, ◌||◌, or-true, and-false, and-eq-true_iff}
use Prim.Native.Nat.{ℕ, ◌/◌, ◌≤◌}
use native.Mathlib.Omega.{arith}
use lib.ListN.{length, get_or, take, drop, replicate}
use lib.Seq.{take_at}
use lib.Dec.{leb, eqb}
use borrow.Author.Tests.{le-leb, eq-eqb, eqb-true}
use Rattle.digits.specs.Lists.{same_bytes}
use Rattle.digits.specs.Digits.{all_digits}
use Rattle.digits.specs.Numbers.{digits_of}
use Rattle.digits.specs.Packed.{numeral}
use Rattle.digits.proofs.Lists.{same_list}
use Rattle.digits.proofs.Numbers.{digits_of_digits}
use Rattle.field.specs.Bitmap.{names}
use Rattle.field.specs.Contents.{allowed, all_printable}
use Rattle.field.specs.Table.{formats, indicators}
use Rattle.message.specs.Build.{Item, digits, bytes, message_of}
use Rattle.message.specs.Message.{largest, field_of}
use Rattle.message.specs.declared.Message.{Message}
use Rattle.reading.specs.Reading.{read_message}
use Rattle.parts.specs.Layout.{widths}
use Rattle.parts.specs.Parts.{number_in}
use Rattle.parts.specs.declared.Part.TheVariants as part
use Rattle.parts.proofs.Laid.{laid-digits}
use Rattle.compose.specs.Compose.{may_hold, all_held}
use Rattle.compose.proofs.Items.{number-held, digits-held, bytes-held}
use Rattle.compose.proofs.Composed.{all_composed}
use Rattle.compose.proofs.Held.{apart, held-append}
use Rattle.outgoing.proofs.Fields.{amount-held, trace-held, reference-held, authorisation-held, reason-held, terminal-held, merchant-held, mac_held}
use Rattle.outgoing_theorems.specs.Theorems.{outgoing_bytes, Reads}
use Rattle.call_definitions.specs.Events.{call}
use Rattle.call_theorems.proofs.Facts.{sent-reads}
use Rattle.centre_types.specs.Types.{left_as, answer_type, is_approval}
use Rattle.centre_totals.specs.Totals.{sent_part, field48_with}
use Rattle.centre.specs.Centre.{sent_number, codes_count, codes_sent, own_fields, sent_fields, trace_figures, mac_field, is_given, answered_amount, approval_fields, also_to, reply_fields, usual_reply, brought_number, sign_on_fields, sign_on_reply, reply, reconciliation_fields, reconciliation}
use Rattle.centre_types.specs.declared.Left.{Left}
use Rattle.centre_types.specs.declared.Left.TheVariants.{Nothing, Request, Reversal, Settlement, Upload, SignOn}
use Rattle.history.specs.Words as words
use Rattle.history.specs.Words.{message_in, holds_its_fields, digit_in}
use Rattle.history.proofs.Said.{number_read}
use Rattle.centre_theorems.specs.Theorems.{HoldsIts, HasLeft, IsCode, SentHasLeft, Answerable, AsSentAnswerable, ReplyAnswers, PartAnswers, SignOnReplyAnswers, ReconciliationAnswers}
use Rattle.centre_theorems.proofs.Kept.{copies-all, digits_sent_lem, part-below}
use Rattle.centre_theorems.proofs.Figures.{figures_length, figures_printable}
use Rattle.centre_theorems.proofs.Types.{is_request, Leaves, leaves, request_type}
use Rattle.centre_theorems.proofs.Answered.{in_form_lem, amount_in-form, field_repeated, code_read, batch_repeated, reads_back, answers}
use Rattle.centre_theorems.proofs.Left.{call-sends}

-- the fields of an answer may be held
batch-held : (x : ℕ) → may_hold formats (digits 60 (digits_of 11 x)) ≡ true
unfolding formats allowed
batch-held x = number-held 60 11 x refl

codes-held : (n : Option ℕ) (x : ℕ) → may_hold formats (digits 60 (digits_of (codes_count n) x)) ≡ true
unfolding formats allowed
codes-held (Some y) x = number-held 60 14 x refl
codes-held None x = number-held 60 11 x refl

date-held : (x : ℕ) → may_hold formats (digits 13 (digits_of 4 x)) ≡ true
unfolding formats allowed
date-held x = number-held 13 4 x refl

field48-digits : (m : Message) (d : ℕ) → all_digits (field48_with m d) ≡ true
field48-digits m d =
    laid-digits (widths 48)
    (sent_part part.DebitAmount m ∷ sent_part part.DebitCount m ∷ sent_part part.CreditAmount m ∷ sent_part part.CreditCount m ∷ d ∷ [])

field48-held : (m : Message) (d : ℕ) → may_hold formats (digits 48 (field48_with m d)) ≡ true
unfolding formats allowed
field48-held m d = digits-held 48 (field48_with m d) refl (field48-digits m d)

keys-held : may_hold formats (bytes 62 (replicate 24 0)) ≡ true
unfolding formats allowed
keys-held = bytes-held 62 (replicate 24 0) refl

-- fields 11, 41 and 42
own_held : (b : List ℕ) → HasLeft b → all_held (own_fields (message_in b)) ≡ true
own_held b left =
    let m = message_in b in
    let f = in_form_lem b left in
    rw (
      copies-all m 41 left.terminal 8 f.terminal,
      copies-all m 42 left.merchant 15 f.merchant,
      trace-held (sent_number 11 0 6 m),
      terminal-held (field_of m 41).bytes f.terminal.size f.terminal.printable,
      merchant-held (field_of m 42).bytes f.merchant.size f.merchant.printable,
    )

-- fields 11, 41, 42 and 60
sent-held : (b : List ℕ) → HasLeft b → all_held (sent_fields (message_in b)) ≡ true
sent-held b left =
    let m = message_in b in
    let n = number_in m 60 0 14 in
    held-append (own_fields m) (codes_sent m ∷ []) refl (own_held b left) (rw (codes-held n (sent_number 60 0 (codes_count n) m)))

-- the fields beside them, and those of an approval or of another answer to a card request
abbrev approvals : Message → ℕ → ℕ → Bool → List Item
approvals m date amount t =
    digits 4 (digits_of 12 (answered_amount amount m))
    ∷ digits 13 (digits_of 4 date)
    ∷ bytes 37 (trace_figures 12 m)
    ∷ (cond t (bytes 38 (trace_figures 6 m) ∷ []) [] ++ mac_field)

approvals-held : (m : Message) (date amount : ℕ) (t : Bool) → all_held (approvals m date amount t) ≡ true
approvals-held m date amount true =
    rw (
      amount-held (answered_amount amount m),
      date-held date,
      reference-held (trace_figures 12 m) (figures_length 12 m) (figures_printable 12 m),
      authorisation-held (trace_figures 6 m) (figures_length 6 m) (figures_printable 6 m),
      mac_held,
    )
approvals-held m date amount false =
    rw (
      amount-held (answered_amount amount m),
      date-held date,
      reference-held (trace_figures 12 m) (figures_length 12 m) (figures_printable 12 m),
      mac_held,
    )

also_held : (l : Left) (m : Message) (date : ℕ) (code : List ℕ) (amount : ℕ) → all_held (also_to l m date code amount) ≡ true
also_held Nothing m date code amount = refl
also_held Request m date code amount = approvals-held m date amount (is_approval code || is_given amount)
also_held Reversal m date code amount = rw mac_held
also_held Settlement m date code amount = refl
also_held Upload m date code amount = refl
also_held SignOn m date code amount = refl

approvals-apart : (m : Message) (date : ℕ) (code : List ℕ) (amount : ℕ) (t : Bool)
    → apart (sent_fields m ++ (bytes 39 code ∷ [])) (approvals m date amount t) ≡ true
approvals-apart m date code amount true = refl
approvals-apart m date code amount false = refl

also_apart : (l : Left) (m : Message) (date : ℕ) (code : List ℕ) (amount : ℕ)
    → apart (sent_fields m ++ (bytes 39 code ∷ [])) (also_to l m date code amount) ≡ true
also_apart Nothing m date code amount = refl
also_apart Request m date code amount = approvals-apart m date code amount (is_approval code || is_given amount)
also_apart Reversal m date code amount = refl
also_apart Settlement m date code amount = refl
also_apart Upload m date code amount = refl
also_apart SignOn m date code amount = refl

reply-held : (b : List ℕ) (date : ℕ) (code : List ℕ) (amount : ℕ) → HasLeft b → IsCode code
    → all_held (reply_fields (message_in b) date code amount) ≡ true
reply-held b date code amount left c =
    let m = message_in b in
    let l = left_as m.indicator in
    held-append (sent_fields m ++ (bytes 39 code ∷ [])) (also_to l m date code amount) (also_apart l m date code amount)
    (held-append (sent_fields m) (bytes 39 code ∷ []) refl (sent-held b left) (rw (reason-held code c.two c.printable)))
    (also_held l m date code amount)

-- what left is of a type that leaves
not_nothing : (l : Left) (m : Message) → HoldsIts l m → l ≡ Nothing → ⊥
not_nothing l m h e = rw e at h

left-leaves : (b : List ℕ) → HasLeft b → Leaves (message_in b).indicator
left-leaves b left = leaves (message_in b).indicator (not_nothing (left_as (message_in b).indicator) (message_in b) left.its)

-- an amount that is not given
pub as_sent_answerable : AsSentAnswerable
unfolding answered_amount words.amount_in
as_sent_answerable m code amount g low =
    record { whole = λ c. rw g; part = λ c k. rw g (low, omega arith) }

-- what is written of a reply to a card request
module _ (b : List ℕ) (left : HasLeft b) (named : names (message_in b).bitmap 4 ≡ true) (date : ℕ) (code : List ℕ) (amount : ℕ)
    (ok : Answerable (message_in b) code amount) (i : ℕ) (s : List ℕ)
    (r : Reads i (sent_fields (message_in b) ++ (bytes 39 code ∷ approval_fields (message_in b) date code amount)) (read_message s)) where
  abbrev m : Message
  m = message_in b

  abbrev x : ℕ
  x = answered_amount amount m

  -- its amount, which is at most the amount asked for
  amount-read : x ≤ words.amount_in m → words.amount_in (message_in s) ≡ x
  unfolding words.amount_in
  amount-read h =
      let below = part-below m 4 named 12 0 12 (amount_in-form b left named) (omega arith) (omega arith) in
      ap numeral
      (number_read s i (sent_fields m ++ (bytes 39 code ∷ approval_fields m date code amount)) r 4 (digits_of 12 x) (omega arith) (omega arith) refl refl
      (digits_of_digits 12 x) 0 12 x (omega arith) refl (omega arith) (omega arith))

  -- the code that it says
  code_said : (c d : ℕ) → words.code_is c d (message_in s) ≡ true → code ≡ c ∷ d ∷ []
  code_said c d e = same_list code (c ∷ d ∷ []) (sym (code_read s r m code (refl, refl) c d) ∙ e)

  whole-fits : words.is_approval (message_in s) ≡ true → words.same_field 4 m (message_in s) ≡ true
  unfolding words.amount_in
  whole-fits e =
      let q : x ≡ sent_number 4 0 12 m = ok.whole (code_said 0x30 0x30 e) in
      field_repeated s r m 4 (omega arith) (omega arith)
      (refl, ap (λ n. (digits 4 (digits_of 12 n)).field) q ∙ digits_sent_lem m 4 named 12 (amount_in-form b left named) (omega arith))

  part-fits : (eqb (words.kind_in m) 22 && words.code_is 0x31 0x30 (message_in s)) ≡ true
      → (leb 1 (words.amount_in (message_in s)) && leb (words.amount_in (message_in s)) (words.amount_in m)) ≡ true
  part-fits e =
      let t = (and-eq-true_iff (eqb (words.kind_in m) 22) (words.code_is 0x31 0x30 (message_in s))).0 e in
      let w = ok.part (code_said 0x31 0x30 t.1) (eqb-true (words.kind_in m) 22 t.0) in
      rw (amount-read w.1, le-leb 1 x w.0, le-leb x (words.amount_in m) w.1)

  amount_fits_lem : words.approves_request m (message_in s) ≡ true → words.amount_fits m (message_in s) ≡ true
  unfolding words.approves_request words.amount_fits
  amount_fits_lem e = go (words.is_approval (message_in s)) refl e
    where
      go : (t : Bool) → words.is_approval (message_in s) ≡ t → (t || eqb (words.kind_in m) 22 && words.code_is 0x31 0x30 (message_in s)) ≡ true
          → cond t (words.same_field 4 m (message_in s))
          (leb 1 (words.amount_in (message_in s)) && leb (words.amount_in (message_in s)) (words.amount_in m)) ≡ true
      go true q e = whole-fits q
      go false q e = part-fits e

-- a reply holds 39, and to a card request also 4, 13 and 37
reply-holds : (b : List ℕ) (date : ℕ) (code : List ℕ) (amount : ℕ) → HasLeft b → (l : Left) → HoldsIts l (message_in b)
    → words.is_settlement (message_in b) ≡ false → words.is_sign_on (message_in b) ≡ false → words.is_request (message_in b) ≡ is_request l
    → (words.is_request (message_in b) ≡ true → Answerable (message_in b) code amount) → (i : ℕ) (s : List ℕ)
    → Reads i (sent_fields (message_in b) ++ (bytes 39 code ∷ also_to l (message_in b) date code amount)) (read_message s)
    → holds_its_fields (message_in b) (message_in s) ≡ true
unfolding holds_its_fields
reply-holds b date code amount left Nothing h t u q ok i s r = absurd h
reply-holds b date code amount left Request h t u q ok i s r = go (words.approves_request (message_in b) (message_in s)) refl
  where
    go : (a : Bool) → words.approves_request (message_in b) (message_in s) ≡ a → holds_its_fields (message_in b) (message_in s) ≡ true
    go true e =
        rw (
          t,
          u,
          r.named 39 (omega arith) (omega arith),
          amount_fits_lem b left h date code amount (ok q) i s r e,
          r.named 13 (omega arith) (omega arith),
          r.named 37 (omega arith) (omega arith),
          or-true (not (words.is_request (message_in b) && words.approves_request (message_in b) (message_in s))),
        )
    go false e = rw (t, u, r.named 39 (omega arith) (omega arith), e, and-false (words.is_request (message_in b)))
reply-holds b date code amount left Reversal h t u q ok i s r = rw (t, u, r.named 39 (omega arith) (omega arith), q)
reply-holds b date code amount left Settlement h t u q ok i s r = rw (t, u, r.named 39 (omega arith) (omega arith), q)
reply-holds b date code amount left Upload h t u q ok i s r = rw (t, u, r.named 39 (omega arith) (omega arith), q)
reply-holds b date code amount left SignOn h t u q ok i s r = rw (t, u, r.named 39 (omega arith) (omega arith), q)

-- what a reply is, and that it reads back
module _ (b o : List ℕ) (date batch : ℕ) (code : List ℕ) (amount : ℕ) (left : HasLeft b) (u : words.is_sign_on (message_in b) ≡ false)
    (c : IsCode code) where
  reply-is : reply (message_in b) date batch code amount
      ≡ message_of (answer_type (message_in b).indicator) (reply_fields (message_in b) date code amount)
  unfolding reply usual_reply words.is_sign_on
  reply-is =
      rw u
      (all_composed (answer_type (message_in b).indicator) (reply_fields (message_in b) date code amount) (reply-held b date code amount left c))

  reply-reads : largest ≤ length o
      → Reads (answer_type (message_in b).indicator) (reply_fields (message_in b) date code amount)
      (read_message (outgoing_bytes (reply (message_in b) date batch code amount) o))
  reply-reads room =
      reads_back o (answer_type (message_in b).indicator) (reply_fields (message_in b) date code amount) reply-is
      (left-leaves b left).answer_listed (reply-held b date code amount left c) room

-- a reply
pub reply-answers : ReplyAnswers
unfolding words.is_settlement words.is_sign_on words.is_request
reply-answers b o date batch code amount left t u c ok room =
    let m = message_in b in
    let i = answer_type m.indicator in
    let xs = reply_fields m date code amount in
    let l = left-leaves b left in
    let h = reply-held b date code amount left c in
    let e : reply m date batch code amount ≡ message_of i xs = reply-is b o date batch code amount left u c in
    let s = outgoing_bytes (reply m date batch code amount) o in
    let r = reply-reads b o date batch code amount left u c room in
    answers o i xs e l.answer_listed h room b left l.answer
    (record { trace = (refl, refl); terminal = (refl, refl); merchant = (refl, refl) })
    (batch_repeated b left s r (refl, refl))
    (reply-holds b date code amount left (left_as m.indicator) left.its t u l.requests ok i s r)

-- a reply of 10 with an amount from 1 to the amount asked for
module _ (b : List ℕ) (amount : ℕ) (left : HasLeft b) (named : names (message_in b).bitmap 4 ≡ true)
    (high : amount ≤ words.amount_in (message_in b)) where
  amount-given : answered_amount amount (message_in b) ≡ amount
  unfolding answered_amount words.amount_in
  amount-given =
      let below = part-below (message_in b) 4 named 12 0 12 (amount_in-form b left named) (omega arith) (omega arith) in
      rw (le-leb amount 999999999999 (omega arith))

  part_answerable : 1 ≤ amount → Answerable (message_in b) (0x31 ∷ 0x30 ∷ []) amount
  part_answerable low =
      record {
        whole = λ c. let z : ◌≡◌ {A = ℕ} 0x31 0x30 = ap (λ (ds : List ℕ). get_or ds 0 0) c in absurd (omega arith);
        part = λ c k. rw amount-given (low, high);
      }

part_code : IsCode (0x31 ∷ 0x30 ∷ [])
unfolding all_printable
part_code = record { two = refl; printable = refl }

pub part-answers : PartAnswers
unfolding words.is_request words.is_settlement words.is_sign_on words.approves_request same_bytes
part-answers b o date batch amount left q k low high room =
    let m = message_in b in
    let code : List ℕ = 0x31 ∷ 0x30 ∷ [] in
    let i = answer_type m.indicator in
    let t = request_type m.indicator q in
    let named : names m.bitmap 4 ≡ true = rw t.left_is at left.its in
    let ok = part_answerable b amount left named high low in
    let s = outgoing_bytes (reply m date batch code amount) o in
    let r : Reads i (sent_fields m ++ (bytes 39 code ∷ approval_fields m date code amount)) (read_message s) =
    rw t.left_is at (reply-reads b o date batch code amount left t.no_sign_on part_code room) in
    let e = amount-given b amount left named high in
    record {
      answers = reply-answers b o date batch code amount left t.no_settlement t.no_sign_on part_code (λ z. ok) room;
      approves = rw (code_read s r m code (refl, refl) 0x31 0x30, eq-eqb (words.kind_in m) 22 k) (or-true (words.is_approval (message_in s)));
      answered = amount-read b left named date code amount ok i s r (rw e high) ∙ e;
    }

-- the fields of a sign-on's answer beside 11, 41 and 42
abbrev brought : ℕ → List ℕ → Bool → List Item
brought x code t = digits 60 (digits_of 11 x) ∷ bytes 39 code ∷ cond t (bytes 62 (replicate 24 0) ∷ []) []

brought-held : (x : ℕ) (code : List ℕ) → IsCode code → (t : Bool) → all_held (brought x code t) ≡ true
brought-held x code c true = rw (batch-held x, reason-held code c.two c.printable, keys-held)
brought-held x code c false = rw (batch-held x, reason-held code c.two c.printable)

brought-apart : (m : Message) (x : ℕ) (code : List ℕ) (t : Bool) → apart (own_fields m) (brought x code t) ≡ true
brought-apart m x code true = refl
brought-apart m x code false = refl

sign_on-held : (b : List ℕ) (batch : ℕ) (code : List ℕ) → HasLeft b → IsCode code → all_held (sign_on_fields (message_in b) batch code) ≡ true
sign_on-held b batch code left c =
    let m = message_in b in
    let x = brought_number batch m in
    held-append (own_fields m) (brought x code (is_approval code)) (brought-apart m x code (is_approval code)) (own_held b left)
    (brought-held x code c (is_approval code))

-- 60.2 of it
brought-digits : (x : ℕ) → take 6 (drop 2 (digits_of 11 x)) ≡ digits_of 6 (x / 10 / 10 / 10)
brought-digits x = refl

-- what is written of it
module _ (m : Message) (batch : ℕ) (code : List ℕ) (i : ℕ) (s : List ℕ) (r : Reads i (sign_on_fields m batch code) (read_message s)) where
  batch-brought : batch ≤ 999999 → words.batch_in (message_in s) ≡ batch
  unfolding words.batch_in brought_number
  batch-brought high =
      let x = brought_number batch m in
      let e : x / 10 / 10 / 10 ≡ batch = rw (le-leb batch 999999 high) (omega arith) in
      ap numeral
      (number_read s i (sign_on_fields m batch code) r 60 (digits_of 11 x) (omega arith) (omega arith) refl refl (digits_of_digits 11 x) 2 6 batch
      (omega arith) (brought-digits x ∙ rw e) (omega arith) (omega arith))

  -- an answer that says 00 was given the code 00
  zeros-said : words.is_approval (message_in s) ≡ true → is_approval code ≡ true
  unfolding is_approval
  zeros-said h = rw (same_list code (0x30 ∷ 0x30 ∷ []) (sym (code_read s r m code (refl, refl) 0x30 0x30) ∙ h))

  sign_on_holds : words.is_settlement m ≡ false → words.is_request m ≡ false → 1 ≤ batch → batch ≤ 999999 → holds_its_fields m (message_in s) ≡ true
  unfolding holds_its_fields
  sign_on_holds t q low high = go (words.is_approval (message_in s)) refl
    where
      go : (a : Bool) → words.is_approval (message_in s) ≡ a → holds_its_fields m (message_in s) ≡ true
      go true e =
          rw (
            t,
            q,
            r.named 39 (omega arith) (omega arith),
            batch-brought high,
            le-leb 1 batch low,
            le-leb batch 999999 high,
            r.named 62 (omega arith) (omega arith),
            zeros-said e,
          )
          (or-true (not (words.is_sign_on m && words.is_approval (message_in s))))
      go false e = rw (t, q, r.named 39 (omega arith) (omega arith), e, and-false (words.is_sign_on m))

-- a sign-on's answer
pub sign_on_reply-answers : SignOnReplyAnswers
unfolding reply sign_on_reply words.is_settlement words.is_sign_on words.is_request indicators
sign_on_reply-answers b o date batch code amount left u low high c room =
    let m = message_in b in
    let xs = sign_on_fields m batch code in
    let k : m.indicator ≡ 0x0800 = eqb-true m.indicator 0x0800 u in
    let h = sign_on-held b batch code left c in
    let e : reply m date batch code amount ≡ message_of 0x0810 xs = rw u (all_composed 0x0810 xs h) in
    let s = outgoing_bytes (reply m date batch code amount) o in
    let r = reads_back o 0x0810 xs e refl h room in
    record {
      answers =
          answers o 0x0810 xs e refl h room b left (rw k)
          (record { trace = (refl, refl); terminal = (refl, refl); merchant = (refl, refl) })
          (rw u)
          (sign_on_holds m batch code 0x0810 s r (rw k) (rw k) low high);
      brought = batch-brought m batch code 0x0810 s r high;
    }

-- a settlement's answer
pub reconciliation-answers : ReconciliationAnswers
unfolding reconciliation words.is_settlement holds_its_fields digit_in
reconciliation-answers b o d left t low high room =
    let m = message_in b in
    let i = answer_type m.indicator in
    let xs = reconciliation_fields m d in
    let l = left-leaves b left in
    let h : all_held xs ≡ true = rw (field48-held m d) (sent-held b left) in
    let e : reconciliation m d ≡ message_of i xs = all_composed i xs h in
    let s = outgoing_bytes (reconciliation m d) o in
    let r = reads_back o i xs e l.answer_listed h room in
    let v : digit_in (message_in s) ≡ d =
    ap numeral
    (number_read s i xs r 48 (field48_with m d) (omega arith) (omega arith) refl refl (field48-digits m d) 30 1 d (omega arith) refl
    (omega arith) (omega arith)) in
    record {
      answers =
          answers o i xs e l.answer_listed h room b left l.answer
          (record { trace = (refl, refl); terminal = (refl, refl); merchant = (refl, refl) })
          (batch_repeated b left s r (refl, refl))
          (rw (t, v, le-leb 1 d low, le-leb d 3 high));
      carried = v;
    }

-- what a call sends
pub sent-has-left : SentHasLeft
sent-has-left e s lent k x y h =
    let l = sent-reads e s lent k x y h in
    let t : take k (call e s lent).lent.message ≡ l.bytes = rw l.rest (take_at l.bytes (drop k lent.message) k l.count) in
    (call-sends e s lent).leaving k h (rw t l.reads)
