-- Silence and answers: where they leave the terminal, and which answers are accepted.
use mathlib.Core.Path.{◌≡◌, refl, sym, ap, ◌∙◌}
use mathlib.Core.List.{List, [], ◌∷◌}
use mathlib.Core.Bool.{Bool, true, false, cond, ◌&&◌, and-false, and-eq-true_iff}
use Prim.Native.Nat.{ℕ}
use lib.Dec.{leb}
use Rattle.field.specs.Bitmap.{names}
use Rattle.message.specs.declared.Message.{Message}
use Rattle.reading.specs.Reading.{read_message, Read}
use Rattle.numbers.specs.Numbers.{following}
use Rattle.numbers.specs.declared.Batch.{Batch}
use Rattle.entry.specs.declared.Entry.{Entry}
use Rattle.journal.specs.Journal.{entries_of}
use Rattle.kinds.specs.Kinds.{is_never_reversed}
use Rattle.state.specs.declared.Awaited.{Awaited}
use Rattle.state.specs.declared.Awaited.TheVariants as awaited
use Rattle.state.specs.declared.Chip.{Chip}
use Rattle.state.specs.declared.Count.TheVariants.{Declined, GivenUp, Unanswered}
use Rattle.state.specs.declared.Count.TheVariants as count
use Rattle.state.specs.declared.Phase.{Phase}
use Rattle.state.specs.declared.Phase.TheVariants.{Resting, Waiting, Pending, Settling, Uploading}
use Rattle.state.specs.declared.Reason.TheVariants.{Silence, BadMac, CardDeclined}
use Rattle.state.specs.declared.Request.{Request}
use Rattle.state.specs.declared.Reversal.{Reversal}
use Rattle.state.specs.declared.Settings.{Settings}
use Rattle.state.specs.declared.State.{State}
use Rattle.state.specs.State.{no_chip, has_chip, as_sent, approved_by, in_phase, with_chip, closed}
use Rattle.state_rules.proofs.Holds.{ChipHolds}
use Rattle.outgoing.specs.Outgoing.{reason_code}
use Rattle.answer_match.specs.Match as match
use Rattle.answer_match.specs.Match.{is_answer, matches_sent, indicator_sent, holds_named, approves, approves_request, approval_holds, good_mac, ends_reversal}
use Rattle.approval.specs.Approval.{approval_of, approved_entry}
use Rattle.effect_definitions.specs.StateEffects as effects
use Rattle.effect_definitions.specs.StateEffects.{pending_or_unanswered, silence_of, failed, on_reversal, on_settlement, on_end}
use Rattle.effect_definitions.specs.JournalEffects.{Changed, changed, silent, silent_in, approved, granted, on_request, answered}
use Rattle.call_definitions.specs.Answer.{trace_sent}
use Rattle.history.specs.Words.{message_in, is_request, is_settlement, is_sign_on, is_matching, holds_its_fields, closes_batch}
use Rattle.history.proofs.Said.{Says}
use Rattle.history.proofs.Sent.{Typed, Asks, reversal-typed, settlement_typed, item-typed, end_typed}
use Rattle.history.proofs.Matching.{matches_alike, request-holds, other_holds, settlement_holds, request_alike, mac_alike, settlement_closes, end_closes, other_closes}
use Rattle.history_theorems.specs.Standing.{Stage, running, uploading, Standing, next, when_closed, grants, when_decided, when_heard, when_silent}
use Rattle.history_theorems.proofs.Stands.{At, SentLast, stage_of, PhaseStands, Members, HoldsCard, Reversed, RequestDetails, AwaitedDetails, Details, Stands, unapproved}

-- a chip as it was sent holds the same card
as_sent_lem : (x : Settings) (batch : Batch) (c : Chip) (q : Request) (m : Message) → HoldsCard x batch c q m → HoldsCard x batch (as_sent c) q m
as_sent_lem x batch c q m h = record { plain = h.plain; carries = h.carries; chip = h.chip }

-- silence, with power or without
module _ (power : Bool) (y : Standing) where
  quiet_at : {stage : Stage} {b : Bool} → At b stage y → At false stage (when_silent power y)
  quiet_at h = record { awaits_is = refl; stage_is = h.stage_is }

  abbrev pub Silenced : Changed → Type 0
  Silenced c =
      PhaseStands c.state.settings c.state.batch (entries_of c.state.entries c.journal) c.state.phase (when_silent power y)
      × Members c.state (when_silent true y)
      × Details c.state.settings c.state.batch c.state.chip c.state.phase (when_silent power y)

  module _ (s : State) (j : List ℕ) (same : Members s y) where
    now_quiet : (c : Chip) → c.approved ≡ false → Members (with_chip c s) (when_silent true y)
    now_quiet c e = (same.0, same.1, same.2, same.3, e)

    -- the reason of a card's silence, or of the line's
    reason_alike : At true running y → is_request y.message ≡ true → reason_code (silence_of s) ≡ (when_silent power y).reason
    reason_alike h t = ap (λ (b : Bool). reason_code (cond b CardDeclined Silence)) same.4 ∙ go y.card
      where
        go : (b : Bool) → reason_code (cond b CardDeclined Silence)
            ≡ cond b (0x30 ∷ 0x36 ∷ []) (cond (y.awaited && is_request y.message) (0x39 ∷ 0x38 ∷ []) y.reason)
        go true = refl
        go false = rw (h.awaits_is, t)

    unanswered : (q : Request) → At true running y → is_request y.message ≡ true → HoldsCard s.settings s.batch s.chip q y.request
        → Silenced (changed (pending_or_unanswered (silence_of s) q s) j)
    unfolding pending_or_unanswered
    unanswered q h t d = go (is_never_reversed q.kind)
      where
        go : (b : Bool) → Silenced (changed (cond b (effects.ended Unanswered s)
            (in_phase (Pending (record { request = q; reason = silence_of s; sendings = 0 })) (with_chip (as_sent s.chip) s))) j)
        go true = (quiet_at h, now_quiet no_chip refl, tt)
        go false = (quiet_at h, now_quiet (as_sent s.chip) refl, (as_sent_lem s.settings s.batch s.chip q y.request d, reason_alike h t))

    -- what is awaited is no card request, nor a card's word: the reason stays
    reason_stays : is_request y.message ≡ false → s.chip.approved ≡ false → (when_silent power y).reason ≡ y.reason
    reason_stays t u = rw (← same.4, u, t, and-false)

    unsent : (v : Reversal) → At true running y → is_request y.message ≡ false → s.chip.approved ≡ false
        → Reversed s.settings s.batch s.chip v y → Silenced (changed (failed v s) j)
    unfolding failed
    unsent v h t u d = go (leb s.settings.sendings v.sendings)
      where
        go : (b : Bool) → Silenced (changed (cond b (effects.ended GivenUp s) (in_phase (Pending v) s)) j)
        go true = (quiet_at h, now_quiet no_chip refl, tt)
        go false = (quiet_at h, now_quiet s.chip u, (d.0, d.1 ∙ sym (reason_stays t u)))

    silenced : (w : Awaited) → ChipHolds (Waiting w) s.chip → At true (stage_of w) y
        → SentLast s.settings s.batch (entries_of s.entries j) w y → AwaitedDetails s.settings s.batch s.chip w y → Silenced (silent w s j)
    unfolding silent
    silenced (awaited.Request q) k h l d = unanswered q h l.typed.is_request d.card
    silenced (awaited.Reversal v) k h l d =
        unsent v h (reversal-typed y.message l.indicator).is_request (unapproved (Waiting (awaited.Reversal v)) s.chip k refl) d
    silenced (awaited.Settlement t) k h l d = (quiet_at h, now_quiet s.chip (unapproved (Waiting (awaited.Settlement t)) s.chip k refl), tt)
    silenced (awaited.Item i) k h l d = (quiet_at h, now_quiet s.chip (unapproved (Waiting (awaited.Item i)) s.chip k refl), tt)
    silenced (awaited.End t) k h l d = (quiet_at h, now_quiet s.chip (unapproved (Waiting (awaited.End t)) s.chip k refl), tt)

  pub silenced_in : (p : Phase) (s : State) (j : List ℕ) → ChipHolds p s.chip → Stands (in_phase p s) j y → Silenced (silent_in p (in_phase p s) j)
  silenced_in Resting s j k h = (quiet_at h.phase_is, now_quiet s j h.members s.chip (unapproved Resting s.chip k refl), tt)
  silenced_in (Waiting w) s j k h =
      silenced (in_phase (Waiting w) s) j h.members w k h.phase_is.0 h.phase_is.1 h.details
  silenced_in (Pending v) s j k h =
      let u = unapproved (Pending v) s.chip k refl in (
        quiet_at h.phase_is,
        now_quiet s j h.members s.chip u,
        (h.details.0, rw (← h.members.4, u, h.phase_is.awaits_is) h.details.1),
      )
  silenced_in Settling s j k h = (quiet_at h.phase_is, now_quiet s j h.members s.chip (unapproved Settling s.chip k refl), tt)
  silenced_in Uploading s j k h = (quiet_at h.phase_is, now_quiet s j h.members s.chip (unapproved Uploading s.chip k refl), tt)

-- an answer is accepted exactly where it matches the message sent last
module _ (x : Settings) (batch : Batch) (b : List ℕ) (read : (read_message b).outcome ≡ Read) where
  alike : {kind code : ℕ} {m : Message} (w : Awaited) (es : List Entry) → Says x batch (trace_sent es w) (indicator_sent w) kind code m
      → is_sign_on m ≡ false → holds_named w (message_in b) ≡ holds_its_fields m (message_in b) → is_answer x batch (trace_sent es w) w (message_in b) ≡ is_matching m b
  unfolding is_matching is_answer
  alike w es s n h = rw (read, ← matches_alike s n (message_in b), ← h)

  pub accepted-is : (w : Awaited) (es : List Entry) (y : Standing) → SentLast x batch es w y
      → is_answer x batch (trace_sent es w) w (message_in b) ≡ is_matching y.message b
  accepted-is (awaited.Request q) es y h = alike (awaited.Request q) es h.said h.typed.is_sign_on (request-holds h (message_in b))
  accepted-is (awaited.Reversal v) es y h =
      let t = reversal-typed y.message h.indicator in
      alike (awaited.Reversal v) es h t.is_sign_on (other_holds t (message_in b))
  accepted-is (awaited.Settlement t) es y h =
      let k = settlement_typed y.message h.indicator in
      alike (awaited.Settlement t) es h k.is_sign_on (settlement_holds t k (message_in b))
  accepted-is (awaited.Item i) es y h =
      let t = item-typed y.message h.indicator h.code_number in
      alike (awaited.Item i) es h t.is_sign_on (other_holds t (message_in b))
  accepted-is (awaited.End t) es y h =
      let k = end_typed y.message h.indicator h.code_number in
      alike (awaited.End t) es h k.is_sign_on (other_holds k (message_in b))

-- where an accepted answer leaves the terminal
module _ (good : Bool) (b : List ℕ) (read : (read_message b).outcome ≡ Read) (y : Standing) where
  abbrev a : Message
  a = message_in b

  abbrev Answered : Changed → Type 0
  Answered c = Stands c.state c.journal (when_heard good a y)

  heard_open : closes_batch y.message a ≡ false → when_heard good a y ≡ when_decided good a y
  unfolding when_heard
  heard_open e = rw e

  -- no card's word is awaited then
  grants-none : is_request y.message ≡ false → grants good a y.message ≡ false
  unfolding grants
  grants-none t = rw t

  -- to what is no settlement
  decided-at : (stage : Stage) (t : Bool) → y.stage ≡ stage → is_settlement y.message ≡ false → grants good a y.message ≡ t
      → At t stage (when_decided good a y)
  unfolding when_decided
  decided-at stage t e n g = record { awaits_is = g; stage_is = rw n e }

  module _ (s : State) (j : List ℕ) (same : Members s y) where
    decided-members : (c : Chip) → grants good a y.message ≡ c.approved → Members (with_chip c s) (when_decided good a y)
    unfolding when_decided
    decided-members c g = (same.0, same.1, same.2, same.3, sym g)

    -- a request in doubt for its MAC; a reversal that stays to be sent
    doubt_mac : (q : Request) → is_request y.message ≡ true → HoldsCard s.settings s.batch s.chip q y.request
        → Reversed s.settings s.batch (as_sent s.chip) (record { request = q; reason = BadMac; sendings = 0 }) (when_decided good a y)
    unfolding when_decided
    doubt_mac q t d = (as_sent_lem s.settings s.batch s.chip q y.request d, rw t)

    doubt_again : (v : Reversal) → is_request y.message ≡ false → Reversed s.settings s.batch s.chip v y
        → Reversed s.settings s.batch s.chip v (when_decided good a y)
    unfolding when_decided
    doubt_again v t d = (d.0, rw t d.1)

    -- the card's word is awaited
    asks-after : (q : Request) → Asks s.settings s.batch q y.message → Asks s.settings s.batch q (when_decided good a y).message
    unfolding when_decided
    asks-after q k = k

    consent_details : (q : Request) → approval_holds q.kind q.amount a ≡ true → approves_request q.kind a ≡ true
        → RequestDetails s.settings s.batch s.chip q y
        → RequestDetails s.settings s.batch (approved_by (approval_of a) s.chip) q (when_decided good a y)
    unfolding when_decided
    consent_details q k e d =
        record {
          card = record { plain = d.card.plain; carries = d.card.carries; chip = d.card.chip };
          says = d.says;
          carries = d.carries;
          granted = λ t. record { bytes = b; read = read; answer_is = refl; holds = k; good = e; approval_is = refl };
        }

    -- whether it is
    given : (q : Request) → Typed true false false false y.message → RequestDetails s.settings s.batch s.chip q y
        → (x z c : Bool) → approves_request q.kind a ≡ x → good_mac good a ≡ z → has_chip s.chip ≡ c → grants good a y.message ≡ (c && (x && z))
    unfolding grants
    given q t d x z c e f g = rw (t.is_request, d.carries, request_alike y.message d.says.kind_is a, mac_alike good a, e, f, g)

    request-heard : (q : Request) → At true running y → Asks s.settings s.batch q y.message
        → RequestDetails s.settings s.batch s.chip q y → s.phase ≡ Waiting (awaited.Request q) → approval_holds q.kind q.amount a ≡ true
        → Answered (on_request good a q s j)
    unfolding on_request granted approved pending_or_unanswered
    request-heard q h asks d phase n =
        rw (heard_open (other_closes t a)) (go (approves_request q.kind a) (good_mac good a) (has_chip s.chip) (is_never_reversed q.kind) refl refl refl)
      where
        t : Typed true false false false y.message
        t = asks.typed

        k : (v : Bool) → grants good a y.message ≡ v → At v running (when_decided good a y)
        k v g = decided-at running v h.stage_is t.is_settlement g

        none : (x z c : Bool) → approves_request q.kind a ≡ x → good_mac good a ≡ z → has_chip s.chip ≡ c → (c && (x && z)) ≡ false → grants good a y.message ≡ false
        none x z c e f g w = given q t d x z c e f g ∙ w

        go : (x z c w : Bool) → approves_request q.kind a ≡ x → good_mac good a ≡ z → has_chip s.chip ≡ c → (let r = cond x
            (cond z
            (cond c (changed (with_chip (approved_by (approval_of a) s.chip) s) j) (approved q (approved_entry q (approval_of a)) s j))
            (changed (cond w (effects.ended Unanswered s)
            (in_phase (Pending (record { request = q; reason = BadMac; sendings = 0 })) (with_chip (as_sent s.chip) s))) j))
            (changed (effects.ended Declined s) j) in Stands r.state r.journal (when_decided good a y))
        go true true true w e f g =
            let z = given q t d true true true e f g in
            record {
              members = decided-members (approved_by (approval_of a) s.chip) z;
              phase_is = rw phase (k true z, asks-after q asks);
              details = rw phase (consent_details q n e d);
            }
        go true true false w e f g = let z = none true true false e f g refl in record { members = decided-members no_chip z; phase_is = k false z; details = tt }
        go true false c true e f g =
            let z = none true false c e f g (and-false c) in record { members = decided-members no_chip z; phase_is = k false z; details = tt }
        go true false c false e f g =
            let z = none true false c e f g (and-false c) in
            record { members = decided-members (as_sent s.chip) z; phase_is = k false z; details = doubt_mac q t.is_request d.card }
        go false z c w e f g =
            let v = none false z c e f g (and-false c) in record { members = decided-members no_chip v; phase_is = k false v; details = tt }

    reversal-heard : (v : Reversal) → At true running y → Typed false true false false y.message → s.chip.approved ≡ false
        → Reversed s.settings s.batch s.chip v y → Answered (changed (on_reversal good a v s) j)
    unfolding on_reversal failed
    reversal-heard v h t u d = rw (heard_open (other_closes t a)) (go (ends_reversal good a) (leb s.settings.sendings v.sendings))
      where
        g : grants good a y.message ≡ false
        g = grants-none t.is_request

        k : At false running (when_decided good a y)
        k = decided-at running false h.stage_is t.is_settlement g

        go : (x z : Bool)
            → Stands (cond x (effects.ended count.Reversed s) (cond z (effects.ended GivenUp s) (in_phase (Pending v) s))) j (when_decided good a y)
        go true z = record { members = decided-members no_chip g; phase_is = k; details = tt }
        go false true = record { members = decided-members no_chip g; phase_is = k; details = tt }
        go false false = record { members = decided-members s.chip (g ∙ sym u); phase_is = k; details = doubt_again v t.is_request d }

    -- a closing, or the upload
    closed_or : (x : Bool) → closes_batch y.message a ≡ x → is_request y.message ≡ false → s.chip.approved ≡ false
        → cond (is_settlement y.message) uploading y.stage ≡ uploading → Answered (changed (cond x (closed s) (in_phase Uploading s)) j)
    unfolding when_heard when_closed when_decided next following
    closed_or true e t u w =
        rw e (record { members = (refl, rw same.1, refl, same.3, u); phase_is = record { awaits_is = refl; stage_is = refl }; details = tt })
    closed_or false e t u w =
        let g = grants-none t in
        rw e
        (record {
          members = (same.0, same.1, same.2, same.3, u ∙ sym g);
          phase_is = record { awaits_is = g; stage_is = w };
          details = tt;
        })

    pub heard : (w : Awaited) → At true (stage_of w) y → SentLast s.settings s.batch (entries_of s.entries j) w y
        → AwaitedDetails s.settings s.batch s.chip w y → s.phase ≡ Waiting w → s.chip.approved ≡ false
        → is_answer s.settings s.batch (trace_sent (entries_of s.entries j) w) w a ≡ true → Answered (answered good a w s j)
    unfolding answered on_settlement on_end is_answer
    heard (awaited.Request q) h d c p u e =
        let w = awaited.Request q in
        let m = (and-eq-true_iff (matches_sent s.settings s.batch (indicator_sent w) q.trace a) (holds_named w a)).0 e in
        let n = (and-eq-true_iff (names a.bitmap 39) (approval_holds q.kind q.amount a)).0 m.1 in
        request-heard q h d c p n.1
    heard (awaited.Reversal v) h d c p u e = reversal-heard v h (reversal-typed y.message d.indicator) u c
    heard (awaited.Settlement t) h d c p u e =
        let k = settlement_typed y.message d.indicator in
        closed_or (match.closes_batch a) (settlement_closes k a) k.is_request u (rw k.is_settlement)
    heard (awaited.Item i) h d c p u e =
        let t = item-typed y.message d.indicator d.code_number in
        let g = grants-none t.is_request in
        rw (heard_open (other_closes t a))
        (record {
          members = decided-members s.chip (g ∙ sym u);
          phase_is = decided-at uploading false h.stage_is t.is_settlement g;
          details = tt;
        })
    heard (awaited.End t) h d c p u e =
        let k = end_typed y.message d.indicator d.code_number in
        closed_or (approves a) (end_closes k a) k.is_request u (rw (k.is_settlement, h.stage_is))
