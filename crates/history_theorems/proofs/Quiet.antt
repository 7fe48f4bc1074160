-- Answer, no answer, power returned and the card's word keep the invariant, and give what the history says.
use mathlib.Core.Path.{◌≡◌, refl, sym, ap, ◌∙◌}
use mathlib.Core.List.{List, [], ◌∷◌}
use mathlib.Core.Bool.{Bool, true, false, cond, not, ◌&&◌, ◌||◌, true≢false, and-true, and-false, and-eq-true_iff, or-false}
use Prim.Native.Nat.{ℕ, ◌≤◌}
use native.Mathlib.Omega.{arith}
use lib.Dec.{eqb}
use lib.ListN.{length, drop}
use borrow.Author.Tests.{ne_eqb, not-false}
use Rattle.numbers.specs.Numbers.{is_number}
use Rattle.numbers.specs.declared.Batch.{Batch}
use Rattle.numbers.specs.declared.Trace.{Trace}
use Rattle.field.specs.Bitmap.{names}
use Rattle.message.specs.declared.Message.{Message}
use Rattle.reading.specs.Reading.{read_message, ReadOutcome, Read, Refused}
use Rattle.entry.specs.declared.Entry.{Entry}
use Rattle.journal.specs.Journal.{entries_of}
use Rattle.state.specs.declared.Awaited.{Awaited}
use Rattle.state.specs.declared.Awaited.TheVariants as awaited
use Rattle.state.specs.declared.Counts.{Counts}
use Rattle.state.specs.declared.Phase.{Phase}
use Rattle.state.specs.declared.Phase.TheVariants.{Resting, Waiting, Pending, Settling, Uploading}
use Rattle.state.specs.declared.Settings.{Settings}
use Rattle.state.specs.declared.State.{State}
use Rattle.state.specs.State as state
use Rattle.state.specs.State.{in_phase, waits, signs_on, is_waiting}
use Rattle.state.specs.Calls.{Lent, judged, refused}
use Rattle.checks.specs.Checks.{rule, first_broken}
use Rattle.rules.proofs.InOrder.{Fit}
use Rattle.state_rules.specs.StateRules.{awaits_request, request_awaited}
use Rattle.state_rules.proofs.Holds.{consent_holds}
use Rattle.effect_definitions.specs.StateEffects as effects
use Rattle.effect_definitions.specs.StateEffects.{on, sign_on_ended, on_sign_on}
use Rattle.call_definitions.specs.Answer.{trace_sent, quietly, no_answer_rules, no_answer, without_power, power_returned, card_rules, card_agrees, card_declines, answers_in, answer_rules, answer_in, read_in, answer}
use Rattle.effect_definitions.specs.JournalEffects as effect
use Rattle.effect_definitions.specs.JournalEffects.{changed, silent_in, unanswered, approved, agreed, agreed_in, answered, answered_in}
use Rattle.answer_match.specs.Match as match
use Rattle.answer_match.specs.Match.{repeats, is_answer, approves, sign_on_holds, is_sign_on_answer}
use Rattle.call_definitions.specs.Events.{Event, answers, no_answer_event, power_returned_event, card_agrees_event, card_declines_event}
use Rattle.effect_definitions.proofs.SignOn.{heard_as}
use Rattle.history.specs.Words as words
use Rattle.history.specs.Words.{message_in, is_matching}
use Rattle.history.specs.History.{Account}
use Rattle.history.proofs.Tied.{Shape, Tied}
use Rattle.history.proofs.Matching.{approves_alike}
use Rattle.history.proofs.Events.{under_sign_on}
use Rattle.history.proofs.NotEmpty.{reading_above}
use Rattle.history_theorems.specs.Standing.{Stage, Standing, SignOn, adopts, when_signed, when_told, when_agreed}
use Rattle.history_theorems.specs.Judged.{reversal_pending, unread, awaits, asked, number_of}
use Rattle.history_theorems.proofs.Stands as stands
use Rattle.history_theorems.proofs.Stands.{At, PhaseStands, Details, Stands, idle_unapproved, still_phase}
use Rattle.history_theorems.proofs.Signs.{Signs, awaits_both, silence_keeps, chosen, number_alike, sign_on-matches}
use Rattle.history_theorems.proofs.Said.{Said, goes, refused-said, judged-said, same_number}
use Rattle.history_theorems.proofs.Heard.{Silenced, silenced_in, accepted-is, heard}

-- a test and its opposite
pub flip : (b : Bool) (x y : ℕ) → cond (not b) x y ≡ cond b y x
flip true x y = refl
flip false x y = refl

-- a rule that is not broken, and the rules after it
pub unless : (b : Bool) (x n : ℕ) → (x ≡ 0 → ⊥) → cond b x n ≡ 0 → (b ≡ false) × (n ≡ 0)
unless true x n f e = absurd (f e)
unless false x n f e = (refl, e)

pub never : {x : ℕ} → 1 ≤ x → x ≡ 0 → ⊥
never {x} h e = omega arith

-- the card agrees to the request that is awaited
agreed-awaited : (w : Awaited) (y : Standing) (s : State) (j : List ℕ) → Stands (in_phase (Waiting w) s) j y → awaits_request w ≡ true
    → Stands (agreed w s j).state (agreed w s j).journal (when_agreed y)
unfolding agreed approved when_agreed
agreed-awaited (awaited.Request q) y s j h r =
    record {
      members = (h.members.0, h.members.1, h.members.2, h.members.3, refl);
      phase_is = record { awaits_is = refl; stage_is = h.phase_is.0.stage_is };
      details = tt;
    }
agreed-awaited (awaited.Reversal v) y s j h r = absurd (true≢false (sym r))
agreed-awaited (awaited.Settlement t) y s j h r = absurd (true≢false (sym r))
agreed-awaited (awaited.Item i) y s j h r = absurd (true≢false (sym r))
agreed-awaited (awaited.End t) y s j h r = absurd (true≢false (sym r))

agreed-stands : (p : Phase) (y : Standing) (s : State) (j : List ℕ) → Stands (in_phase p s) j y → request_awaited p ≡ true
    → Stands (agreed_in p (in_phase p s) j).state (agreed_in p (in_phase p s) j).journal (when_agreed y)
agreed-stands Resting y s j h r = absurd (true≢false (sym r))
agreed-stands (Waiting w) y s j h r = agreed-awaited w y (in_phase (Waiting w) s) j h r
agreed-stands (Pending v) y s j h r = absurd (true≢false (sym r))
agreed-stands Settling y s j h r = absurd (true≢false (sym r))
agreed-stands Uploading y s j h r = absurd (true≢false (sym r))

-- an answer to a sign-on that is accepted holds what it must
holds_where : (x : Settings) (trace : Trace) (m : Message) → is_sign_on_answer x trace m ≡ true → sign_on_holds m ≡ true
unfolding is_sign_on_answer
holds_where x trace m e = ((and-eq-true_iff (repeats x 0x0800 trace m && names m.bitmap 39) (sign_on_holds m)).0 e).1

-- what a terminal that stands so gives; the history's number goes by whether a reversal is to be sent
module _ (l : ℕ) (s : State) (lent : Lent) (a : Account) (y : Standing) (w : SignOn) (tied : Tied l s a) (h : Stands s lent.journal y)
    (g : Signs s w) where
  abbrev reverses : Bool
  reverses = reversal_pending a.requests

  abbrev entries : List Entry
  entries = entries_of s.entries lent.journal

  awaits_here : waits s.phase ≡ y.awaited
  awaits_here = stands.awaits s.settings s.batch entries y s.phase h.phase_is

  awaits_now : is_waiting s ≡ awaits w y
  awaits_now = awaits_both s w y awaits_here g

  -- outside the rest neither adopts it
  neither_adopts : (b : Bool) → (eqb s.counts.sent 0 && false) ≡ (eqb y.requests 0 && b && false)
  neither_adopts b = and-false (eqb s.counts.sent 0) ∙ sym (and-false (eqb y.requests 0 && b))

  -- the number is adopted alike: a reversal that is to be sent is one of a card request that was sent
  adopts_in : (p : Phase) → waits p ≡ false → PhaseStands s.settings s.batch entries p y → Shape l s.settings s.batch s.chip p a
      → (eqb s.counts.sent 0 && state.rests p) ≡ adopts y
  unfolding adopts
  adopts_in Resting w k d = rw (h.members.2, k.awaits_is, k.stage_is) (sym (and-true (eqb y.requests 0 && true)))
  adopts_in (Waiting v) w k d = absurd (true≢false w)
  adopts_in (Pending v) w k d =
      let some : eqb s.counts.sent 0 ≡ false = ne_eqb s.counts.sent 0
      (λ z. let c = ap (λ (x : Counts). x.sent) tied.kept.books.counted in let n = ap length d.requests_are in omega arith) in
      rw (← h.members.2, some)
  adopts_in Settling w k d = rw k.stage_is (neither_adopts (not y.awaited))
  adopts_in Uploading w k d = rw k.stage_is (neither_adopts (not y.awaited))

  adopts_alike : waits s.phase ≡ false → effects.adopts s ≡ adopts y
  unfolding effects.adopts
  adopts_alike w = adopts_in s.phase w h.phase_is tied.shape

  -- over a reversal that is to be sent none is adopted
  same-details : (p : Phase) (batch : Batch) → waits p ≡ false → Details s.settings s.batch s.chip p y
      → Details s.settings (cond (eqb s.counts.sent 0 && state.rests p) batch s.batch) s.chip p (when_signed batch.0 y)
  same-details Resting batch w d = tt
  same-details (Waiting v) batch w d = absurd (true≢false w)
  same-details (Pending v) batch w d = rw (and-false (eqb s.counts.sent 0)) d
  same-details Settling batch w d = tt
  same-details Uploading batch w d = tt

  number_adopted : (batch : Batch) → waits s.phase ≡ false
      → (cond (effects.adopts s) batch s.batch).0 ≡ cond (adopts y) batch.0 y.batch
  number_adopted batch w = rw (adopts_alike w) (go (adopts y))
    where
      go : (b : Bool) → (cond b batch s.batch).0 ≡ cond b batch.0 y.batch
      go true = refl
      go false = h.members.1

  -- the answer to a sign-on: a 00 that is accepted brings a batch number
  told-approved : (m : Message) → waits s.phase ≡ false → (match.batch_in m).0 ≡ words.batch_in m
      → Stands (on (cond (effects.adopts s) (match.batch_in m) s.batch) (sign_on_ended s)) lent.journal (when_signed (words.batch_in m) y)
  unfolding effects.adopts
  told-approved m v e =
      rw (← e)
      (record {
        members = (refl, number_adopted (match.batch_in m) v, h.members.2, h.members.3, h.members.4);
        phase_is = still_phase s.settings s.batch _ entries y (when_signed (match.batch_in m).0 y) refl refl s.phase v h.phase_is;
        details = same-details s.phase (match.batch_in m) v h.details;
      })

  told : (m : Message) → waits s.phase ≡ false → sign_on_holds m ≡ true → Stands (on_sign_on m s) lent.journal (when_told m y)
  unfolding on_sign_on sign_on_holds
  told m v k = rw (approves_alike m) (go (approves m) k)
    where
      go : (b : Bool) → (not b || is_number (match.batch_in m).0 && names m.bitmap 62) ≡ true
          → Stands (cond b (on (cond (effects.adopts s) (match.batch_in m) s.batch) (sign_on_ended s)) (sign_on_ended s)) lent.journal
          (cond b (when_signed (words.batch_in m) y) y)
      go true q =
          let c = ((and-eq-true_iff (is_number (match.batch_in m).0) (names m.bitmap 62)).0 q).0 in
          told-approved m v (rw c at (number_alike m))
      go false q = record { members = h.members; phase_is = h.phase_is; details = h.details }

  -- no answer, power returned
  silent_now : (power : Bool) → Fit s lent → Silenced power y (unanswered s lent.journal)
  silent_now power f =
      silence_keeps (Silenced power y) (λ c k. k) s lent f (silenced_in power y s.phase s lent.journal f.order.state.chip h)

  pub silence_said : Said no_answer_event y (number_of no_answer_event w y reverses) (no_answer s lent)
  unfolding no_answer first_broken
  silence_said =
      let done = quietly (unanswered s lent.journal) lent in
      judged-said no_answer_event y n s lent h (drop 2 (no_answer_rules s lent)) done (same_number no_answer_event y n _ number)
      (λ z u f.
      let k = silent_now true f in
      goes no_answer_event y n done (sym number ∙ z) (record { members = k.1; phase_is = k.0; details = k.2 }) refl)
    where
      n : ℕ
      n = number_of no_answer_event w y reverses

      number : cond (not (is_waiting s)) 14 0 ≡ n
      number = rw awaits_now (flip (awaits w y) 14 0)

  pub power_said : Said power_returned_event y 0 (power_returned s lent)
  unfolding power_returned first_broken
  power_said =
      let done = without_power (unanswered s lent.journal) lent in
      judged-said power_returned_event y 0 s lent h [] done (λ f. absurd (f refl))
      (λ z u f.
      let k = silent_now false f in
      goes power_returned_event y 0 done refl (record { members = (refl, k.1.1, k.1.2, k.1.3, k.1.4); phase_is = k.0; details = k.2 }) refl)

  -- the card's word
  card-number : ◌≡◌ {A = ℕ} (cond (not s.chip.approved) 14 0) (cond y.card 0 14)
  card-number = rw h.members.4 (flip y.card 14 0)

  pub declines_said : Said card_declines_event y (number_of card_declines_event w y reverses) (card_declines s lent)
  unfolding card_declines first_broken
  declines_said =
      let done = quietly (silent_in s.phase s lent.journal) lent in
      let n = number_of card_declines_event w y reverses in
      judged-said card_declines_event y n s lent h (drop 2 (card_rules s lent)) done (same_number card_declines_event y n _ card-number)
      (λ z u f.
      let k = silenced_in true y s.phase s lent.journal f.order.state.chip h in
      goes card_declines_event y n done (sym card-number ∙ z) (record { members = k.1; phase_is = k.0; details = k.2 }) refl)

  pub agrees_said : Said card_agrees_event y (number_of card_agrees_event w y reverses) (card_agrees s lent)
  unfolding card_agrees first_broken
  agrees_said =
      let done = quietly (agreed_in s.phase s lent.journal) lent in
      let n = number_of card_agrees_event w y reverses in
      judged-said card_agrees_event y n s lent h (drop 2 (card_rules s lent)) done (same_number card_agrees_event y n _ card-number)
      (λ z u f.
      let e = not-false _ (unless (not s.chip.approved) 14 0 (never (omega arith)) z).0 in
      goes card_agrees_event y n done (sym card-number ∙ z)
      (agreed-stands s.phase y s lent.journal h (consent_holds s.phase s.chip f.order.state.chip e).request) refl)

  -- an answer that reads, to a sign-on: the rules and the history's number come to whether it matches
  module _ (b : List ℕ) (good : Bool) (read : (read_message b).outcome ≡ Read) (f : Fit s lent) (e : signs_on s ≡ true) where
    abbrev accepts : Bool
    accepts = is_sign_on_answer s.settings s.sign_on (message_in b)

    idle_here : waits s.phase ≡ false
    idle_here = under_sign_on s lent f e

    told_rules : first_broken (answer_rules (message_in b) s lent.journal) ≡ cond (not accepts) 22 0
    unfolding first_broken
    told_rules = rw (idle_here, e, idle_unapproved s.phase s.chip f.order.state.chip idle_here)

    told-number : ◌≡◌ {A = ℕ} (cond (awaits w y && not y.card) (cond (is_matching (asked w y) b) 0 22) 14) (cond accepts 0 22)
    told-number =
        rw (
          sign_on-matches s.settings s.batch s.sign_on w.message b read (g.says e),
          ← awaits_here,
          idle_here,
          ← g.awaited_is,
          e,
          ← h.members.4,
          idle_unapproved s.phase s.chip f.order.state.chip idle_here,
        )

    told_by : (x : Bool) → accepts ≡ x
        → Said (answers b good) y (cond x 0 22)
        (cond (eqb (cond (not x) 22 0) 0) (quietly (changed (on_sign_on (message_in b) s) lent.journal) lent) (refused (cond (not x) 22 0) s lent))
    told_by true q =
        goes (answers b good) y 0 (quietly (changed (on_sign_on (message_in b) s) lent.journal) lent) refl
        (rw (chosen (sym awaits_here ∙ idle_here) _ _) (told (message_in b) idle_here (holds_where s.settings s.sign_on (message_in b) q))) refl
    told_by false q = refused-said (answers b good) y 22 s lent h 22 (same_number (answers b good) y 22 22 refl (never (omega arith)))

    told-said : Said (answers b good) y (cond (awaits w y && not y.card) (cond (is_matching (asked w y) b) 0 22) 14) (answer_in good (message_in b) s lent)
    unfolding judged
    told-said =
        rw (told-number, told_rules)
        (heard_as
        (λ c. Said (answers b good) y (cond accepts 0 22)
        (cond (eqb (cond (not accepts) 22 0) 0) (quietly c lent) (refused (cond (not accepts) 22 0) s lent)))
        good (message_in b) s lent.journal (λ k. told_by accepts refl) (λ k. absurd (true≢false (sym e ∙ k))))

-- an answer that reads, to anything else: 14 where nothing is awaited from the centre, 22 where it does not match
module _ (s : State) (lent : Lent) (y : Standing) (w : SignOn) (none : w.awaited ≡ false) (b : List ℕ) (good : Bool) (read : (read_message b).outcome ≡ Read) where
  abbrev e : Event
  e = answers b good

  abbrev n : ℕ
  n = cond (awaits w y && not y.card) (cond (is_matching (asked w y) b) 0 22) 14

  -- nothing is awaited, or the card's word
  late : (t : State) {stage : Stage} → At false stage y → Stands t lent.journal y → Said e y n (refused 14 t lent)
  late t k h = refused-said e y n t lent h 14 (same_number e y n 14 (rw (k.awaits_is, none)) (never (omega arith)))

  inside : (t : State) {stage : Stage} → At true stage y → y.card ≡ true → Stands t lent.journal y → Said e y n (refused 14 t lent)
  inside t k c h = refused-said e y n t lent h 14 (same_number e y n 14 (rw (k.awaits_is, c)) (never (omega arith)))

  waiting-said : (v : Awaited) (t : State) → Stands (in_phase (Waiting v) t) lent.journal y → t.chip.approved ≡ false
      → (x : Bool) → is_answer t.settings t.batch (trace_sent (entries_of t.entries lent.journal) v) v (message_in b) ≡ x
      → Said e y n
      (cond (eqb (cond (not x) 22 0) 0) (quietly (answered good (message_in b) v (in_phase (Waiting v) t) lent.journal) lent)
      (refused (cond (not x) 22 0) (in_phase (Waiting v) t) lent))
  waiting-said v t h u x g = go x refl
    where
      es : List Entry
      es = entries_of t.entries lent.journal

      matching : is_matching y.message b ≡ x
      matching = sym (accepted-is t.settings t.batch b read v es y h.phase_is.1) ∙ g

      card : y.card ≡ false
      card = sym h.members.4 ∙ u

      go : (z : Bool) → x ≡ z → Said e y n
          (cond (eqb (cond (not z) 22 0) 0) (quietly (answered good (message_in b) v (in_phase (Waiting v) t) lent.journal) lent)
          (refused (cond (not z) 22 0) (in_phase (Waiting v) t) lent))
      go true q =
          goes e y n (quietly (answered good (message_in b) v (in_phase (Waiting v) t) lent.journal) lent)
          (rw (h.phase_is.0.awaits_is, card, matching, q))
          (rw (chosen h.phase_is.0.awaits_is _ _)
          (heard good b read y (in_phase (Waiting v) t) lent.journal h.members v h.phase_is.0 h.phase_is.1 h.details refl u (g ∙ q))) refl
      go false q =
          refused-said e y n (in_phase (Waiting v) t) lent h 22
          (same_number e y n 22 (rw (h.phase_is.0.awaits_is, card, matching, q)) (never (omega arith)))

  waiting_in : (v : Awaited) (t : State) → Stands (in_phase (Waiting v) t) lent.journal y → (c : Bool) → t.chip.approved ≡ c
      → (x : Bool) → is_answer t.settings t.batch (trace_sent (entries_of t.entries lent.journal) v) v (message_in b) ≡ x
      → Said e y n
      (cond (eqb (cond c 14 (cond (not x) 22 0)) 0) (quietly (answered good (message_in b) v (in_phase (Waiting v) t) lent.journal) lent)
      (refused (cond c 14 (cond (not x) 22 0)) (in_phase (Waiting v) t) lent))
  waiting_in v t h true u x g = inside (in_phase (Waiting v) t) h.phase_is.0 (sym h.members.4 ∙ u) h
  waiting_in v t h false u x g = waiting-said v t h u x g

  -- by the phase, where no sign-on is awaited
  answer_in_lem : (p : Phase) (t : State) → Stands (in_phase p t) lent.journal y
      → Said e y n
      (judged (first_broken (rule 14 (not (waits p) || t.chip.approved)
      ∷ rule 22 (not (answers_in p (entries_of t.entries lent.journal) (in_phase p t) (message_in b))) ∷ []))
      (in_phase p t) lent (quietly (answered_in p good (message_in b) (in_phase p t) lent.journal) lent))
  unfolding judged first_broken
  answer_in_lem Resting t h = late (in_phase Resting t) h.phase_is h
  answer_in_lem (Waiting w) t h = waiting_in w t h t.chip.approved refl _ refl
  answer_in_lem (Pending v) t h = late (in_phase (Pending v) t) h.phase_is h
  answer_in_lem Settling t h = late (in_phase Settling t) h.phase_is h
  answer_in_lem Uploading t h = late (in_phase Uploading t) h.phase_is h

-- any bytes: those that do not read are refused by the reading's own number
module _ (l : ℕ) (s : State) (lent : Lent) (a : Account) (y : Standing) (w : SignOn) (tied : Tied l s a) (h : Stands s lent.journal y) (g : Signs s w)
    (b : List ℕ) (good : Bool) where
  answered_now : (read_message b).outcome ≡ Read → Fit s lent → (x : Bool) → signs_on s ≡ x
      → Said (answers b good) y (cond (awaits w y && not y.card) (cond (is_matching (asked w y) b) 0 22) 14) (answer_in good (message_in b) s lent)
  unfolding effect.heard
  answered_now read f true e = told-said l s lent a y w tied h g b good read f e
  answered_now read f false e =
      rw (e, or-false (waits s.phase)) (answer_in_lem s lent y w (sym g.awaited_is ∙ e) b good read s.phase s h)

  read-said : Fit s lent → (o : ReadOutcome) → (read_message b).outcome ≡ o
      → Said (answers b good) y (unread o (cond (awaits w y && not y.card) (cond (is_matching (asked w y) b) 0 22) 14)) (read_in o good (message_in b) s lent)
  read-said f Read r = answered_now r f (signs_on s) refl
  read-said f (Refused k) r =
      let m : 3 ≤ k = rw r at (reading_above b) in
      refused-said (answers b good) y k s lent h k (same_number (answers b good) y k k refl (never (omega arith)))

  pub answer-said : Said (answers b good) y (number_of (answers b good) w y (reversal_pending a.requests)) (answer b good s lent)
  unfolding answer first_broken
  answer-said =
      judged-said (answers b good) y (number_of (answers b good) w y (reversal_pending a.requests)) s lent h []
      (read_in (read_message b).outcome good (read_message b).message s lent) (λ f. absurd (f refl))
      (λ z u f. read-said f (read_message b).outcome refl)
