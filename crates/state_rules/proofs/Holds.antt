-- What follows from rule 2 for settings and state, and the way back: where it holds, the rule lets them pass.
use mathlib.Core.Path.{◌≡◌, refl, sym, ◌∙◌}
use mathlib.Core.List.{List, [], ◌∷◌}
use mathlib.Core.Bool.{Bool, true, false, cond, not, ◌&&◌, ◌||◌, and-false, and-eq-true_iff, true≢false}
use Prim.Native.Nat.{ℕ, ◌+◌, ◌^◌, ◌≤◌, ◌<◌}
use native.Mathlib.Omega.{arith}
use lib.Dec.{leb, ltb, eqb}
use lib.ListN.{length}
use borrow.Author.Tests.{leb-true, ltb-true, eqb-true, le-leb, lt-ltb, eq-eqb}
use Rattle.numbers.specs.Limits.{largest_amount, last_number, most_requests, most_entries, most_sendings}
use Rattle.numbers.specs.Numbers.{within, is_number}
use Rattle.numbers.specs.declared.Trace.{Trace}
use Rattle.numbers.proofs.Bounds.{within-bounds, within_yes}
use Rattle.field.specs.Contents.{all_printable}
use Rattle.digits.specs.Digits.{is_packed}
use Rattle.elements.specs.Elements.{chip_in_form}
use Rattle.kinds.specs.Kinds.{is_kind, takes_original, is_never_reversed, sends_chip, allows_partial}
use Rattle.kinds.specs.declared.Totals.{Totals}
use Rattle.state.specs.declared.Approval.{Approval}
use Rattle.state.specs.declared.Card.{Card}
use Rattle.state.specs.declared.Chip.{Chip}
use Rattle.state.specs.declared.Awaited.TheVariants as awaited
use Rattle.state.specs.declared.Phase.{Phase}
use Rattle.state.specs.declared.Phase.TheVariants.{Resting, Waiting, Pending, Settling, Uploading}
use Rattle.state.specs.declared.Request.{Request}
use Rattle.state.specs.declared.Reversal.{Reversal}
use Rattle.state.specs.declared.Settings.{Settings}
use Rattle.state.specs.declared.State.{State}
use Rattle.state.specs.State.{no_chip, chip_bytes, has_chip, as_sent, approval_in, CountsBounded, ended_in, waits}
use Rattle.state_rules.specs.StateRules.{settings_in_form, is_card, request_in_form, reversal_in_form, phase_in_form, kind_in, amount_in, request_awaited, approval_in_form, answered_kept, consent_kept, chip_kept, sign_on_kept, state_in_form, waiting, balanced, totals_true, all_of, state_clauses, state_kept}

-- settings in their ranges
pub record SettingsHold (x : Settings) : Type 0 where
  pub limit_least : 1 ≤ x.limit
  pub limit_most : x.limit ≤ most_entries
  pub sendings_least : 1 ≤ x.sendings
  pub sendings_most : x.sendings ≤ most_sendings
  pub refund_least : 1 ≤ x.refund
  pub refund_most : x.refund ≤ largest_amount
  pub terminal_printable : all_printable x.terminal ≡ true
  pub merchant_printable : all_printable x.merchant ≡ true

pub settings_hold : (x : Settings) → settings_in_form x ≡ true → SettingsHold x
unfolding settings_in_form
settings_hold x e =
    let a = (and-eq-true_iff (within 1 x.limit most_entries && within 1 x.sendings most_sendings && within 1 x.refund largest_amount && all_printable x.terminal) (all_printable x.merchant)).0 e in
    let b = (and-eq-true_iff (within 1 x.limit most_entries && within 1 x.sendings most_sendings && within 1 x.refund largest_amount) (all_printable x.terminal)).0 a.0 in
    let d = (and-eq-true_iff (within 1 x.limit most_entries && within 1 x.sendings most_sendings) (within 1 x.refund largest_amount)).0 b.0 in
    let f = (and-eq-true_iff (within 1 x.limit most_entries) (within 1 x.sendings most_sendings)).0 d.0 in
    let l = within-bounds 1 x.limit most_entries f.0 in
    let n = within-bounds 1 x.sendings most_sendings f.1 in
    let r = within-bounds 1 x.refund largest_amount d.1 in
    record {
      limit_least = l.0;
      limit_most = l.1;
      sendings_least = n.0;
      sendings_most = n.1;
      refund_least = r.0;
      refund_most = r.1;
      terminal_printable = b.1;
      merchant_printable = a.1;
    }

-- a request's values in their ranges
pub record RequestHolds (q : Request) : Type 0 where
  pub kind_listed : is_kind q.kind ≡ true
  pub amount_least : 1 ≤ q.amount
  pub amount_most : q.amount ≤ largest_amount
  pub card_least : 13 ≤ q.card.length
  pub card_most : q.card.length ≤ 19
  pub card_below : q.card.number < 10 ^ q.card.length
  pub trace_least : 1 ≤ q.trace.0
  pub trace_most : q.trace.0 ≤ last_number
  pub original_form : cond (takes_original q.kind) (within 1 q.original.0 last_number) (eqb q.original.0 0) ≡ true

pub record CardHolds (c : Card) : Type 0 where
  pub least : 13 ≤ c.length
  pub most : c.length ≤ 19
  pub below : c.number < 10 ^ c.length

pub card-holds : (c : Card) → is_card c ≡ true → CardHolds c
unfolding is_card
card-holds c e =
    let a = (and-eq-true_iff (within 13 c.length 19) (ltb c.number (10 ^ c.length))).0 e in
    let l = within-bounds 13 c.length 19 a.0 in
    record { least = l.0; most = l.1; below = ltb-true c.number (10 ^ c.length) a.1 }

pub request-holds : (q : Request) → request_in_form q ≡ true → RequestHolds q
unfolding request_in_form
request-holds q e =
    let last = cond (takes_original q.kind) (within 1 q.original.0 last_number) (eqb q.original.0 0) in
    let a = (and-eq-true_iff (is_kind q.kind && within 1 q.amount largest_amount && is_card q.card && within 1 q.trace.0 last_number) last).0 e in
    let b = (and-eq-true_iff (is_kind q.kind && within 1 q.amount largest_amount && is_card q.card) (within 1 q.trace.0 last_number)).0 a.0 in
    let d = (and-eq-true_iff (is_kind q.kind && within 1 q.amount largest_amount) (is_card q.card)).0 b.0 in
    let f = (and-eq-true_iff (is_kind q.kind) (within 1 q.amount largest_amount)).0 d.0 in
    let m = within-bounds 1 q.amount largest_amount f.1 in
    let k = card-holds q.card d.1 in
    let t = within-bounds 1 q.trace.0 last_number b.1 in
    record {
      kind_listed = f.0;
      amount_least = m.0;
      amount_most = m.1;
      card_least = k.least;
      card_most = k.most;
      card_below = k.below;
      trace_least = t.0;
      trace_most = t.1;
      original_form = a.1;
    }

pub reversal-holds : (v : Reversal) → reversal_in_form v ≡ true → RequestHolds v.request
unfolding reversal_in_form
reversal-holds v e = request-holds v.request ((and-eq-true_iff (request_in_form v.request) (not (is_never_reversed v.request.kind))).0 e).0

-- the amount of the card request that is awaited
pub amount_small : (p : Phase) → phase_in_form p ≡ true → amount_in p ≤ largest_amount
amount_small Resting h = omega arith
amount_small (Waiting (awaited.Request q)) h = (request-holds q h).amount_most
amount_small (Waiting (awaited.Reversal v)) h = omega arith
amount_small (Waiting (awaited.Settlement x)) h = omega arith
amount_small (Waiting (awaited.Item i)) h = omega arith
amount_small (Waiting (awaited.End x)) h = omega arith
amount_small (Pending v) h = omega arith
amount_small Settling h = omega arith
amount_small Uploading h = omega arith

-- an approval: four packed digits, six and twelve printable bytes
pub record ApprovalHolds (a : Approval) : Type 0 where
  pub date_packed : is_packed 4 a.date ≡ true
  pub authorisation_length : length a.authorisation ≡ 6
  pub authorisation_printable : all_printable a.authorisation ≡ true
  pub reference_length : length a.reference ≡ 12
  pub reference_printable : all_printable a.reference ≡ true

pub approval_holds_lem : (a : Approval) → approval_in_form a ≡ true → ApprovalHolds a
unfolding approval_in_form
approval_holds_lem a e =
    let both : Bool = eqb (length a.authorisation) 6 && all_printable a.authorisation in
    let p = (and-eq-true_iff (is_packed 4 a.date && both) (eqb (length a.reference) 12 && all_printable a.reference)).0 e in
    let d = (and-eq-true_iff (is_packed 4 a.date) both).0 p.0 in
    let f = (and-eq-true_iff (eqb (length a.authorisation) 6) (all_printable a.authorisation)).0 d.1 in
    let r = (and-eq-true_iff (eqb (length a.reference) 12) (all_printable a.reference)).0 p.1 in
    record {
      date_packed = d.0;
      authorisation_length = eqb-true (length a.authorisation) 6 f.0;
      authorisation_printable = f.1;
      reference_length = eqb-true (length a.reference) 12 r.0;
      reference_printable = r.1;
    }

pub approval_back : (a : Approval) → ApprovalHolds a → approval_in_form a ≡ true
unfolding approval_in_form
approval_back a h =
    rw (
      h.date_packed,
      eq-eqb _ _ h.authorisation_length,
      h.authorisation_printable,
      eq-eqb _ _ h.reference_length,
      h.reference_printable,
    )

-- a test that holds where another does
if_so : (b x : Bool) → (not b || x) ≡ true → b ≡ true → x ≡ true
if_so true x e q = e
if_so false x e q = absurd (true≢false (sym q))

so_if : (b x : Bool) → (b ≡ true → x ≡ true) → (not b || x) ≡ true
so_if true x h = h refl
so_if false x h = refl

-- an amount that may be approved for a request of this kind, which asks for so much
pub record AnsweredHolds (kind asked x : ℕ) : Type 0 where
  pub least : 1 ≤ asked → 1 ≤ x
  pub most : x ≤ asked
  pub whole : allows_partial kind ≡ false → x ≡ asked

pub answered-holds : (p : Phase) (x : ℕ) → answered_kept p x ≡ true → AnsweredHolds (kind_in p) (amount_in p) x
unfolding answered_kept
answered-holds p x e = go (allows_partial (kind_in p)) refl e
  where
    go : (b : Bool) → allows_partial (kind_in p) ≡ b → cond b (within 1 x (amount_in p)) (eqb x (amount_in p)) ≡ true
        → AnsweredHolds (kind_in p) (amount_in p) x
    go true q e =
        let w = within-bounds 1 x (amount_in p) e in
        record { least = λ l. w.0; most = w.1; whole = λ n. absurd (true≢false (sym q ∙ n)) }
    go false q e =
        let w = eqb-true x (amount_in p) e in
        record { least = λ l. rw w l; most = omega (arith, w); whole = λ n. w }

pub answered_back : (p : Phase) (x : ℕ) → 1 ≤ amount_in p → AnsweredHolds (kind_in p) (amount_in p) x → answered_kept p x ≡ true
unfolding answered_kept
answered_back p x l h = go (allows_partial (kind_in p)) refl
  where
    go : (b : Bool) → allows_partial (kind_in p) ≡ b → cond b (within 1 x (amount_in p)) (eqb x (amount_in p)) ≡ true
    go true q = within_yes 1 x (amount_in p) (h.least l) h.most
    go false q = eq-eqb x (amount_in p) (h.whole q)

-- a chip, and the wait for the card's word, in their place
pub record ChipHolds (p : Phase) (c : Chip) : Type 0 where
  pub sent : has_chip c ≡ true → (sends_chip (kind_in p) && chip_in_form (chip_bytes c)) ≡ true
  pub awaited : c.approved ≡ true → (request_awaited p && has_chip c && approval_in_form (approval_in c) && answered_kept p c.amount) ≡ true

pub chip-holds : (p : Phase) (c : Chip) → chip_kept p c ≡ true → ChipHolds p c
unfolding chip_kept consent_kept
chip-holds p c e =
    let sent : Bool = sends_chip (kind_in p) && chip_in_form (chip_bytes c) in
    let awaited : Bool = request_awaited p && has_chip c && approval_in_form (approval_in c) && answered_kept p c.amount in
    let a = (and-eq-true_iff (not (has_chip c) || sent) (not c.approved || awaited)).0 e in
    record { sent = if_so (has_chip c) sent a.0; awaited = if_so c.approved awaited a.1 }

pub chip_back : (p : Phase) (c : Chip) → ChipHolds p c → chip_kept p c ≡ true
unfolding chip_kept consent_kept
chip_back p c h =
    rw (
      so_if (has_chip c) (sends_chip (kind_in p) && chip_in_form (chip_bytes c)) h.sent,
      so_if c.approved (request_awaited p && has_chip c && approval_in_form (approval_in c) && answered_kept p c.amount) h.awaited,
    )

-- no chip holds in every phase
pub no_chip_lem : (p : Phase) → ChipHolds p no_chip
no_chip_lem p = record { sent = λ y. absurd (true≢false (sym y)); awaited = λ y. absurd (true≢false (sym y)) }

-- one as it was sent holds where the request's kind stays
pub chip-reversed : (p r : Phase) (c : Chip) → kind_in p ≡ kind_in r → ChipHolds p c → ChipHolds r (as_sent c)
chip-reversed p r c k h = record { sent = λ y. rw (← k) (h.sent y); awaited = λ y. absurd (true≢false (sym y)) }

-- any holds where the kind stays and no card request is awaited
pub chip_stays : (p r : Phase) (c : Chip) → kind_in p ≡ kind_in r → request_awaited p ≡ false → ChipHolds p c → ChipHolds r c
chip_stays p r c k w h = record { sent = λ y. rw (← k) (h.sent y); awaited = λ y. absurd (true≢false (sym (rw w at (h.awaited y)))) }

-- an approval that a request may have
abbrev pub MayApprove : Request → Approval → Type 0
MayApprove q a = ApprovalHolds a × AnsweredHolds q.kind q.amount a.amount

-- the card's word, where it is awaited: for a request that sent a chip, and for the approval it may have
pub record ConsentHolds (p : Phase) (c : Chip) : Type 0 where
  pub request : request_awaited p ≡ true
  pub chip : has_chip c ≡ true
  pub may : ApprovalHolds (approval_in c) × AnsweredHolds (kind_in p) (amount_in p) c.amount

pub consent_holds : (p : Phase) (c : Chip) → ChipHolds p c → c.approved ≡ true → ConsentHolds p c
consent_holds p c h y =
    let first : Bool = request_awaited p && has_chip c in
    let a = (and-eq-true_iff (first && approval_in_form (approval_in c)) (answered_kept p c.amount)).0 (h.awaited y) in
    let b = (and-eq-true_iff first (approval_in_form (approval_in c))).0 a.0 in
    let d = (and-eq-true_iff (request_awaited p) (has_chip c)).0 b.0 in
    record {
      request = d.0;
      chip = d.1;
      may = (approval_holds_lem (approval_in c) b.1, answered-holds p c.amount a.1);
    }

-- rule 2 of settings and state, by the totals of the journal, and the bounds that follow
pub record StateHolds (s : State) (t : Totals) : Type 0 where
  pub settings : SettingsHold s.settings
  pub batch_least : 1 ≤ s.batch.0
  pub batch_most : s.batch.0 ≤ last_number
  pub next_least : 1 ≤ s.next.0
  pub next_most : s.next.0 ≤ last_number
  pub sent_most : s.counts.sent ≤ most_requests
  pub phase_form : phase_in_form s.phase ≡ true
  pub chip : ChipHolds s.phase s.chip
  pub sign_on : sign_on_kept s.phase s.sign_on ≡ true
  pub few : s.entries ≤ s.settings.limit
  pub balance : s.counts.sent ≡ ended_in s.counts + waiting s.phase
  pub approvals : s.counts.approved ≡ s.entries
  pub totals : s.totals ≡ t

-- the tests of a list, all true
abbrev pub Each : List Bool → Type 0
Each [] = Unit
Each (b ∷ bs) = (b ≡ true) × Each bs

pub each : (bs : List Bool) → all_of bs ≡ true → Each bs
each [] e = tt
each (b ∷ bs) e = let a = (and-eq-true_iff b (all_of bs)).0 e in (a.0, each bs a.1)

-- four numbers that are the same
pub totals-same : (stored found : Totals) → totals_true stored found ≡ true → stored ≡ found
unfolding totals_true
totals-same u t e =
    let a = (and-eq-true_iff (eqb u.debit t.debit && eqb u.debits t.debits && eqb u.credit t.credit) (eqb u.credits t.credits)).0 e in
    let b = (and-eq-true_iff (eqb u.debit t.debit && eqb u.debits t.debits) (eqb u.credit t.credit)).0 a.0 in
    let d = (and-eq-true_iff (eqb u.debit t.debit) (eqb u.debits t.debits)).0 b.0 in
    rw (
      ← eqb-true u.debit t.debit d.0,
      ← eqb-true u.debits t.debits d.1,
      ← eqb-true u.credit t.credit b.1,
      ← eqb-true u.credits t.credits a.1,
    )

same-totals : (t : Totals) → totals_true t t ≡ true
unfolding totals_true
same-totals t = rw (eq-eqb t.debit _ refl, eq-eqb t.debits _ refl, eq-eqb t.credit _ refl, eq-eqb t.credits _ refl)

pub state-holds : (s : State) (t : Totals) → state_kept s t ≡ true → StateHolds s t
unfolding state_kept state_in_form balanced
state-holds s t e =
    let a = each (state_clauses s t) e in
    let c = s.counts in
    let j = (and-eq-true_iff (within 1 s.batch.0 last_number && within 1 s.next.0 last_number && leb c.sent most_requests && phase_in_form s.phase && chip_kept s.phase s.chip) (sign_on_kept s.phase s.sign_on)).0 a.1.0 in
    let o = (and-eq-true_iff (within 1 s.batch.0 last_number && within 1 s.next.0 last_number && leb c.sent most_requests && phase_in_form s.phase) (chip_kept s.phase s.chip)).0 j.0 in
    let p = (and-eq-true_iff (within 1 s.batch.0 last_number && within 1 s.next.0 last_number && leb c.sent most_requests) (phase_in_form s.phase)).0 o.0 in
    let q = (and-eq-true_iff (within 1 s.batch.0 last_number && within 1 s.next.0 last_number) (leb c.sent most_requests)).0 p.0 in
    let r = (and-eq-true_iff (within 1 s.batch.0 last_number) (within 1 s.next.0 last_number)).0 q.0 in
    let b = within-bounds 1 s.batch.0 last_number r.0 in
    let n = within-bounds 1 s.next.0 last_number r.1 in
    let whole = ended_in c + waiting s.phase in
    let u = (and-eq-true_iff (eqb c.sent whole) (eqb c.approved s.entries)).0 a.1.1.1.0 in
    record {
      settings = settings_hold s.settings a.0;
      batch_least = b.0;
      batch_most = b.1;
      next_least = n.0;
      next_most = n.1;
      sent_most = leb-true c.sent most_requests q.1;
      phase_form = p.1;
      chip = chip-holds s.phase s.chip o.1;
      sign_on = j.1;
      few = leb-true s.entries s.settings.limit a.1.1.0;
      balance = eqb-true c.sent whole u.0;
      approvals = eqb-true c.approved s.entries u.1;
      totals = totals-same s.totals t a.1.1.1.1.0;
    }

-- where no sign-on is awaited its clause holds in every phase; over a wait none is awaited
pub no_sign_on_lem : (p : Phase) (x : Trace) → x.0 ≡ 0 → sign_on_kept p x ≡ true
unfolding sign_on_kept
no_sign_on_lem p x e = rw (eq-eqb x.0 0 e)

pub none_over_wait : (p : Phase) (x : Trace) → waits p ≡ true → sign_on_kept p x ≡ true → x.0 ≡ 0
unfolding sign_on_kept
none_over_wait p x w e = go (eqb x.0 0) refl (rw w at e)
  where
    go : (t : Bool) → eqb x.0 0 ≡ t → (t || is_number x.0 && false) ≡ true → x.0 ≡ 0
    go true q h = eqb-true x.0 0 q
    go false q h = absurd (true≢false (sym h ∙ and-false (is_number x.0)))

-- the counts are bounded by what has been sent, so each has room for one more
pub room_for_one : (s : State) {t : Totals} → StateHolds s t → CountsBounded s
room_for_one s o =
    let l = o.settings in
    record {
      entries = omega arith;
      counts = record {
        sent = omega arith;
        approved = omega arith;
        declined = omega arith;
        reversed = omega arith;
        given_up = omega arith;
        unanswered = omega arith;
      };
    }

-- the way back
pub settings_back : (x : Settings) → SettingsHold x → settings_in_form x ≡ true
unfolding settings_in_form
settings_back x h =
    rw (
      within_yes 1 x.limit most_entries h.limit_least h.limit_most,
      within_yes 1 x.sendings most_sendings h.sendings_least h.sendings_most,
      within_yes 1 x.refund largest_amount h.refund_least h.refund_most,
      h.terminal_printable,
      h.merchant_printable,
    )

pub card_back : (c : Card) → CardHolds c → is_card c ≡ true
unfolding is_card
card_back c h = rw (within_yes 13 c.length 19 h.least h.most, lt-ltb c.number (10 ^ c.length) h.below)

pub request_back : (q : Request) → RequestHolds q → request_in_form q ≡ true
unfolding request_in_form
request_back q h =
    rw (
      h.kind_listed,
      within_yes 1 q.amount largest_amount h.amount_least h.amount_most,
      card_back q.card (record { least = h.card_least; most = h.card_most; below = h.card_below }),
      within_yes 1 q.trace.0 last_number h.trace_least h.trace_most,
    )
    h.original_form

pub state_form_back : (s : State) {t : Totals} → StateHolds s t → state_in_form s ≡ true
unfolding state_in_form
state_form_back s h =
    rw (
      within_yes 1 s.batch.0 last_number h.batch_least h.batch_most,
      within_yes 1 s.next.0 last_number h.next_least h.next_most,
      le-leb s.counts.sent most_requests h.sent_most,
      h.phase_form,
      chip_back s.phase s.chip h.chip,
    )
    h.sign_on

pub state_back : (s : State) (t : Totals) → StateHolds s t → state_kept s t ≡ true
unfolding state_kept balanced
state_back s t h =
    rw (
      settings_back s.settings h.settings,
      state_form_back s h,
      le-leb s.entries s.settings.limit h.few,
      eq-eqb _ _ h.balance,
      eq-eqb _ _ h.approvals,
      h.totals,
      same-totals t,
    )
