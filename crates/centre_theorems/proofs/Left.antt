-- What a call sends: its type and its fields are read from the bytes that leave.
use Rattle.std.specs.Prelude.{Some, None, Option}
use mathlib.Core.Path.{◌≡◌, refl, ◌∙◌}
use mathlib.Core.List.{List}
use mathlib.Core.Bool.{Bool, true, false, cond}
use Prim.Native.Nat.{ℕ, ◌*◌, ◌/◌, ◌%◌, ◌+◌, ◌≤◌, ◌<◌}
use native.Mathlib.Omega.{arith}
use lib.Dec.{eqb}
use lib.ListN.{length, take, drop}
use lib.Seq.{take_at}
use Rattle.field.specs.Table.{formats}
use Rattle.field.specs.Bitmap.{names}
use Rattle.message.specs.Build.{Item, has, bitmap_for, message_of}
use Rattle.message.specs.declared.Message.{Message}
use Rattle.reading.specs.Reading.{read_message, ReadOutcome as Judgement, Read, Refused as Unread}
use Rattle.writing.specs.Writing.{fields_bytes, message_bytes}
use Rattle.message_theorems.proofs.Messages.{read_head}
use Rattle.numbers.specs.declared.Trace.{Trace}
use Rattle.numbers.specs.declared.Batch.{Batch}
use Rattle.kinds.specs.Kinds.{indicator_of}
use Rattle.kinds.proofs.Types.{each_type}
use Rattle.entry.specs.declared.Entry.{Entry}
use Rattle.journal.specs.Journal.{entries_of, entry_at, next_due, taken}
use Rattle.kinds.specs.declared.Totals.{Totals}
use Rattle.state.specs.declared.Chip.{Chip}
use Rattle.state.specs.declared.Request.{Request as Asked}
use Rattle.state.specs.declared.Reversal.{Reversal as Undone}
use Rattle.state.specs.declared.Settings.{Settings}
use Rattle.state.specs.declared.Phase.{Phase}
use Rattle.state.specs.declared.Phase.TheVariants.{Resting, Waiting, Pending, Settling, Uploading}
use Rattle.state.specs.declared.State.{State}
use Rattle.state.specs.declared.Outcome.TheVariants.{Send}
use Rattle.checks.specs.Checks.{first_broken}
use Rattle.state.specs.Calls.{Lent, with_journal, Result, judged, refused, quiet, sends}
use Rattle.compose.proofs.Bitmaps.{names-has}
use Rattle.rules.specs.Rules.{rules12, due}
use Rattle.outgoing.specs.declared.Original.{Original}
use Rattle.outgoing.specs.Outgoing.{request_fields, reversal_fields, request_message, reversal_message}
use Rattle.call_definitions.specs.SignOn.{sign_on_rules, sign_on}
use Rattle.call_definitions.specs.Start.{original_of, entry_of, named_by, start_rules, start}
use Rattle.desk.specs.DeskRules.{chip_from, request_of}
use Rattle.call_definitions.specs.SendReversal.{send_from, send_reversal_rules, send_reversal}
use Rattle.effect_definitions.specs.StateEffects.{again}
use Rattle.call_definitions.specs.Settle.{settle_rules, settle}
use Rattle.batch_messages.specs.BatchMessages.{settlement_fields, settlement_message, item_fields, item_message, end_fields, end_message, sign_on_fields, sign_on_message}
use Rattle.call_definitions.specs.SendNextUpload.{sends_next, upload_from, send_next_upload_rules, send_next_upload}
use Rattle.call_definitions.specs.Answer.{no_answer_rules, no_answer, power_returned, card_rules, card_agrees, card_declines, answer_rules, read_in, answer}
use Rattle.call_definitions.specs.Events.{Event, sign_on_event, starts, answers, no_answer_event, power_returned_event, card_agrees_event, card_declines_event, send_reversal_event, settles, send_next_upload_event, call}
use Rattle.centre_types.specs.Types.{left_as}
use Rattle.centre_types.specs.declared.Left.{Left}
use Rattle.centre_types.specs.declared.Left.TheVariants.{Nothing, Request, Reversal, Settlement, Upload, SignOn}
use Rattle.history.specs.Words.{message_in}
use Rattle.centre_theorems.specs.Theorems.{HoldsIts, HasLeft}

-- 0 and 1, which two different outcomes would make equal
never : {A : Type 0} → ◌≡◌ {A = ℕ} 0 1 → A
never z = absurd (omega arith)

-- the fields of a list that what left holds
abbrev Has : Left → List Item → Type 0
Has Nothing xs = ⊥
Has Request xs = has xs 4 ≡ true
Has Reversal xs = Unit {0}
Has Settlement xs = has xs 48 ≡ true
Has Upload xs = Unit {0}
Has SignOn xs = Unit {0}

holds : (l : Left) (m : Message) (xs : List Item) → ((n : ℕ) → 0 < n → n ≤ 64 → names m.bitmap n ≡ has xs n) → Has l xs → HoldsIts l m
holds Nothing m xs e h = h
holds Request m xs e h = e 4 (omega arith) (omega arith) ∙ h
holds Reversal m xs e h = h
holds Settlement m xs e h = e 48 (omega arith) (omega arith) ∙ h
holds Upload m xs e h = h
holds SignOn m xs e h = h

-- bytes that, where they read, have left
abbrev pub Sound : List ℕ → Type 0
Sound bs = (read_message bs).outcome ≡ Read → HasLeft bs

sound : (i : ℕ) (xs : List Item) → has xs 11 ≡ true → has xs 41 ≡ true → has xs 42 ≡ true → has xs 60 ≡ true → Has (left_as i) xs
    → Sound (message_bytes (message_of i xs))
unfolding message_bytes
sound i xs a b c d h q =
    let m = message_of i xs in
    let f = read_head (message_bytes m) q in
    let e : i / 256 * 256 + i % 256 ≡ i = omega arith in
    let t : (message_in (message_bytes m)).indicator ≡ i = f.0 ∙ e in
    let w : (message_in (message_bytes m)).bitmap ≡ bitmap_for xs =
    f.1 ∙ take_at (bitmap_for xs) (fields_bytes formats m.bitmap m.counts m.contents) 8 refl in
    let named : (n : ℕ) → 0 < n → n ≤ 64 → names (message_in (message_bytes m)).bitmap n ≡ has xs n = λ n p l. rw w (names-has xs n p l) in
    record {
      reads = q;
      trace = named 11 (omega arith) (omega arith) ∙ a;
      terminal = named 41 (omega arith) (omega arith) ∙ b;
      merchant = named 42 (omega arith) (omega arith) ∙ c;
      batch = named 60 (omega arith) (omega arith) ∙ d;
      its = rw t (holds (left_as i) (message_in (message_bytes m)) xs named h);
    }

-- the six messages
request-left : (kind : ℕ) → left_as (indicator_of kind) ≡ Request
unfolding left_as
request-left kind = each_type (λ i. left_as i ≡ Request) refl refl refl kind

module _ (x : Settings) (batch : Batch) where
  request-sound : (c : Chip) (q : Asked) (o : Original) → Sound (message_bytes (request_message x batch c q o))
  unfolding request_message
  request-sound c q o = sound (indicator_of q.kind) (request_fields x batch c q o) refl refl refl refl (rw (request-left q.kind) refl)

  reversal-sound : (c : Chip) (v : Undone) → Sound (message_bytes (reversal_message x batch c v))
  unfolding reversal_message left_as
  reversal-sound c v = sound 0x0400 (reversal_fields x batch c v) refl refl refl refl tt

  settlement_sound : (trace : Trace) (t : Totals) → Sound (message_bytes (settlement_message x batch trace t))
  unfolding settlement_message left_as
  settlement_sound trace t = sound 0x0500 (settlement_fields x batch trace t) refl refl refl refl refl

  item-sound : (e : Entry) → Sound (message_bytes (item_message x batch e))
  unfolding item_message left_as
  item-sound e = sound 0x0320 (item_fields x batch e) refl refl refl refl tt

  end_sound : (trace : Trace) → Sound (message_bytes (end_message x batch trace))
  unfolding end_message left_as
  end_sound trace = sound 0x0320 (end_fields x batch trace) refl refl refl refl tt

  sign_on-sound : (trace : Trace) → Sound (message_bytes (sign_on_message x batch trace))
  unfolding sign_on_message left_as
  sign_on-sound trace = sound 0x0800 (sign_on_fields x batch trace) refl refl refl refl tt

-- what a call sends, if anything
pub record Sends (r : Result) : Type 0 where
  pub leaving : (k : ℕ) → r.outcome ≡ Send k → Sound (take k r.lent.message)

same_count : (k n : ℕ) → Send k ≡ Send n → k ≡ n
same_count k n e = cc

sends-bytes : (bs : List ℕ) {t : State} {i : List ℕ} (lent : Lent) → Sound bs → Sends (sends bs t (with_journal i lent))
sends-bytes bs lent h = record { leaving = λ k e. rw (take_at bs (drop (length bs) lent.message) k (same_count (length bs) k e)) h }

refuses : {n : ℕ} {s : State} {lent : Lent} → Sends (refused n s lent)
refuses = record { leaving = λ k e. never (cc) }

is-quiet : {s : State} {lent : Lent} → Sends (quiet s lent)
is-quiet = record { leaving = λ k e. never (cc) }

module _ (s : State) (lent : Lent) where
  -- refused by the first rule broken, or as is said
  judges : (n : ℕ) (done : Result) → Sends done → Sends (judged n s lent done)
  unfolding judged
  judges n done h = go (eqb n 0)
    where
      go : (b : Bool) → Sends (cond b done (refused n s lent))
      go true = h
      go false = refuses

  read_in_lem : (o : Judgement) (g : Bool) (a : Message) → Sends (read_in o g a s lent)
  read_in_lem Read g a = judges (first_broken (answer_rules a s lent.journal)) _ is-quiet
  read_in_lem (Unread n) g a = refuses

  send_from_lem : (p : Phase) → Sends (send_from p s lent)
  send_from_lem Resting = is-quiet
  send_from_lem (Waiting a) = is-quiet
  send_from_lem (Pending v) = sends-bytes _ lent (reversal-sound s.settings s.batch s.chip (again v))
  send_from_lem Settling = is-quiet
  send_from_lem Uploading = is-quiet

  next-leaves : (f : Option ℕ) → Sends (sends_next f s lent)
  next-leaves (Some i) = sends-bytes _ lent (item-sound s.settings s.batch (entry_at (entries_of s.entries lent.journal) i))
  next-leaves None = sends-bytes _ lent (end_sound s.settings s.batch (record { 0 = taken (entries_of s.entries lent.journal) s.next.0 }))

  upload_from_lem : (p : Phase) → Sends (upload_from p s lent)
  upload_from_lem Resting = is-quiet
  upload_from_lem (Waiting a) = is-quiet
  upload_from_lem (Pending v) = is-quiet
  upload_from_lem Settling = is-quiet
  upload_from_lem Uploading = next-leaves (next_due (due Uploading) (entries_of s.entries lent.journal))

pub call-sends : (e : Event) (s : State) (lent : Lent) → Sends (call e s lent)
unfolding sign_on start answer no_answer power_returned card_agrees card_declines send_reversal settle send_next_upload
call-sends sign_on_event s lent =
    let es = entries_of s.entries lent.journal in
    judges s lent (first_broken (sign_on_rules s lent)) _
    (sends-bytes _ lent (sign_on-sound s.settings s.batch (record { 0 = taken es s.next.0 })))
call-sends (starts d b) s lent =
    let es = entries_of s.entries lent.journal in
    let e = entry_of (original_of d es) es in
    judges s lent (first_broken (start_rules d b s es e lent)) _
    (sends-bytes _ lent
    (request-sound s.settings s.batch (chip_from d b) (request_of d e (taken es s.next.0)) (named_by d s.batch e)))
call-sends (answers b g) s lent =
    judges s lent (first_broken (rules12 s lent)) _ (read_in_lem s lent (read_message b).outcome g (read_message b).message)
call-sends no_answer_event s lent = judges s lent (first_broken (no_answer_rules s lent)) _ is-quiet
call-sends power_returned_event s lent = judges s lent (first_broken (rules12 s lent)) _ is-quiet
call-sends card_agrees_event s lent = judges s lent (first_broken (card_rules s lent)) _ is-quiet
call-sends card_declines_event s lent = judges s lent (first_broken (card_rules s lent)) _ is-quiet
call-sends send_reversal_event s lent = judges s lent (first_broken (send_reversal_rules s lent)) _ (send_from_lem s lent s.phase)
call-sends settles s lent =
    let es = entries_of s.entries lent.journal in
    judges s lent (first_broken (settle_rules s lent)) _
    (sends-bytes _ lent (settlement_sound s.settings s.batch (record { 0 = taken es s.next.0 }) s.totals))
call-sends send_next_upload_event s lent = judges s lent (first_broken (send_next_upload_rules s lent)) _ (upload_from_lem s lent s.phase)
