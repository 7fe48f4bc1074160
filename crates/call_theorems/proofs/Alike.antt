-- Fields 32, 44 and 63 of an answer change nothing, nor do the bytes of 62: each word that a call uses of an answer says the same of two answers that
-- are alike in all other fields.
use mathlib.Core.Path.{◌≡◌, refl}
use mathlib.Core.List.{List}
use mathlib.Core.Bool.{Bool, false, true≢false}
use Prim.Native.Nat.{ℕ}
use Rattle.message.specs.declared.Message.{Message}
use Rattle.reading.specs.Reading.{read_message}
use Rattle.numbers.specs.declared.Trace.{Trace}
use Rattle.numbers.specs.declared.Batch.{Batch}
use Rattle.parts.specs.Parts.{matches, copies, number_in}
use Rattle.entry.specs.declared.Entry.{Entry}
use Rattle.state.specs.declared.Awaited.{Awaited}
use Rattle.state.specs.declared.Awaited.TheVariants as awaited
use Rattle.state.specs.declared.Phase.{Phase}
use Rattle.state.specs.declared.Phase.TheVariants.{Resting, Waiting, Pending, Settling, Uploading}
use Rattle.state.specs.declared.Settings.{Settings}
use Rattle.state.specs.declared.State.{State}
use Rattle.state.specs.Calls.{Lent}
use Rattle.answer_match.specs.Match.{repeats, matches_sent, batch_in, sign_on_holds, is_sign_on_answer, has_code, approves_request, amount_holds, approval_holds, holds_named, is_answer, good_mac, ends_reversal, closes_batch}
use Rattle.approval.specs.Approval.{field_or, approval_of}
use Rattle.effect_definitions.specs.JournalEffects.{granted, on_request, on_item, answered, answered_in, heard}
use Rattle.effect_definitions.specs.StateEffects.{on_reversal, on_settlement, on_end, on_sign_on}
use Rattle.call_definitions.specs.Answer.{answers_in, answer_in, answer}
use Rattle.call_theorems.specs.UnusedFields.{unused, unread, AlikeButUnused, UnusedFieldsChangeNothing, KeysChangeNothing}

module _ (a b : Message) (h : AlikeButUnused a b) where
  -- the words for a field
  matches-same : (n : ℕ) → unused n ≡ false → unread n ≡ false → (x : List ℕ) → matches a n x ≡ matches b n x
  unfolding matches
  matches-same n u v x = rw (h.named n u, h.fields n v)

  copies-same : (n k : ℕ) → unused n ≡ false → unread n ≡ false → copies a n k ≡ copies b n k
  unfolding copies
  copies-same n k u v = rw (h.named n u, h.fields n v)

  number_same : (n i k : ℕ) → unused n ≡ false → unread n ≡ false → number_in a n i k ≡ number_in b n i k
  unfolding number_in
  number_same n i k u v = rw (h.named n u, h.fields n v)

  field-same : (n k : ℕ) (x : List ℕ) → unused n ≡ false → unread n ≡ false → field_or n k x a ≡ field_or n k x b
  unfolding field_or
  field-same n k x u v = rw (copies-same n k u v, h.fields n v)

  -- what the answer says
  code_same : (x y : ℕ) → has_code x y a ≡ has_code x y b
  code_same x y = matches-same 39 refl refl _

  mac_same : (good : Bool) → good_mac good a ≡ good_mac good b
  unfolding good_mac
  mac_same good = rw (h.named 64 refl)

  ends_same : (good : Bool) → ends_reversal good a ≡ ends_reversal good b
  unfolding ends_reversal
  ends_same good = rw (code_same 0x30 0x30, code_same 0x32 0x35, code_same 0x31 0x32, mac_same good)

  closes-same : closes_batch a ≡ closes_batch b
  unfolding closes_batch
  closes-same = rw (number_same 48 30 1 refl refl)

  says_same : approval_of a ≡ approval_of b
  unfolding approval_of
  says_same = rw (number_same 4 0 12 refl refl, field-same 13 2 _ refl refl, field-same 38 6 _ refl refl, field-same 37 12 _ refl refl)

  -- whether it is the answer
  repeats-same : (x : Settings) (n : ℕ) (trace : Trace) → repeats x n trace a ≡ repeats x n trace b
  unfolding repeats
  repeats-same x n trace = rw (matches-same 11 refl refl _, matches-same 41 refl refl _, matches-same 42 refl refl _, h.indicator)

  sent_same : (x : Settings) (batch : Batch) (n : ℕ) (trace : Trace) → matches_sent x batch n trace a ≡ matches_sent x batch n trace b
  unfolding matches_sent
  sent_same x batch n trace = rw (repeats-same x n trace, number_same 60 2 6 refl refl)

  batch-same : batch_in a ≡ batch_in b
  unfolding batch_in
  batch-same = rw (number_same 60 2 6 refl refl)

  sign_on-same : (x : Settings) (trace : Trace) → is_sign_on_answer x trace a ≡ is_sign_on_answer x trace b
  unfolding is_sign_on_answer sign_on_holds
  sign_on-same x trace = rw (repeats-same x 0x0800 trace, h.named 39 refl, code_same 0x30 0x30, batch-same, h.named 62 refl)

  request-same : (kind : ℕ) → approves_request kind a ≡ approves_request kind b
  unfolding approves_request
  request-same kind = rw (code_same 0x30 0x30, code_same 0x31 0x30)

  approval-same : (kind n : ℕ) → approval_holds kind n a ≡ approval_holds kind n b
  unfolding approval_holds amount_holds
  approval-same kind n =
      rw (request-same kind, code_same 0x30 0x30, matches-same 4 refl refl _, number_same 4 0 12 refl refl, h.named 13 refl, h.named 37 refl)

  holds_same : (w : Awaited) → holds_named w a ≡ holds_named w b
  holds_same (awaited.Request q) = rw (h.named 39 refl, approval-same q.kind q.amount)
  holds_same (awaited.Reversal v) = h.named 39 refl
  holds_same (awaited.Settlement x) = rw (number_same 48 30 1 refl refl)
  holds_same (awaited.Item i) = h.named 39 refl
  holds_same (awaited.End x) = h.named 39 refl

  is_same : (x : Settings) (batch : Batch) (trace : Trace) (w : Awaited) → is_answer x batch trace w a ≡ is_answer x batch trace w b
  unfolding is_answer
  is_same x batch trace w = rw (sent_same x batch _ trace, holds_same w)

  answers-same : (p : Phase) (es : List Entry) (s : State) → answers_in p es s a ≡ answers_in p es s b
  answers-same Resting es s = refl
  answers-same (Waiting w) es s = is_same s.settings s.batch _ w
  answers-same (Pending v) es s = refl
  answers-same Settling es s = refl
  answers-same Uploading es s = refl

  -- what it leaves
  answered-same : (good : Bool) (w : Awaited) (s : State) (j : List ℕ) → answered good a w s j ≡ answered good b w s j
  unfolding answered on_request granted on_reversal on_settlement on_item on_end
  answered-same good (awaited.Request q) s j = rw (request-same q.kind, mac_same good, says_same)
  answered-same good (awaited.Reversal v) s j = rw (ends_same good)
  answered-same good (awaited.Settlement x) s j = rw (closes-same)
  answered-same good (awaited.Item i) s j = rw (code_same 0x30 0x30)
  answered-same good (awaited.End x) s j = rw (code_same 0x30 0x30)

  in_phase-same : (p : Phase) (good : Bool) (s : State) (j : List ℕ) → answered_in p good a s j ≡ answered_in p good b s j
  in_phase-same Resting good s j = refl
  in_phase-same (Waiting w) good s j = answered-same good w s j
  in_phase-same (Pending v) good s j = refl
  in_phase-same Settling good s j = refl
  in_phase-same Uploading good s j = refl

  signed-on-same : (s : State) → on_sign_on a s ≡ on_sign_on b s
  unfolding on_sign_on
  signed-on-same s = rw (code_same 0x30 0x30, batch-same)

  heard-same : (good : Bool) (s : State) (j : List ℕ) → heard good a s j ≡ heard good b s j
  unfolding heard
  heard-same good s j = rw (signed-on-same s, in_phase-same s.phase good s j)

  answer-same : (good : Bool) (s : State) (lent : Lent) → answer_in good a s lent ≡ answer_in good b s lent
  answer-same good s lent =
      rw (sign_on-same s.settings s.sign_on, answers-same s.phase _ s, heard-same good s lent.journal)

pub unused-fields_change_nothing : UnusedFieldsChangeNothing
unfolding answer
unused-fields_change_nothing a b good s lent p q h = rw (p, q, answer-same (read_message a).message (read_message b).message h good s lent)

-- a field that is read is not 62
not_keys : (n : ℕ) → unread n ≡ false → n ≡ 62 → ⊥
not_keys n h e = true≢false (rw e at h)

pub keys_change_nothing : KeysChangeNothing
keys_change_nothing a b good s lent p q h =
    unused-fields_change_nothing a b good s lent p q
    (record { indicator = h.indicator; named = λ n u. rw h.bitmap; fields = λ n v. h.fields n (not_keys n v) })
