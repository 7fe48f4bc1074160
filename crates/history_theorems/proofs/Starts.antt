-- Start keeps the invariant, and gives what the history says.
use Rattle.std.specs.Prelude.{Some, None, Option}
use mathlib.Core.Path.{◌≡◌, refl, sym, ap, ◌∙◌}
use mathlib.Core.List.{List, [], ◌∷◌, ◌++◌}
use mathlib.Core.Bool.{Bool, true, false, cond, not, ◌&&◌, ◌||◌, and-eq-true_iff, true≢false}
use Prim.Native.Nat.{ℕ, ◌+◌, ◌-◌, ◌≤◌}
use native.Mathlib.Omega.{arith}
use lib.Dec.{leb, eqb}
use lib.ListN.{length}
use borrow.Author.Tests.{leb-true}
use Rattle.numbers.specs.declared.Batch.{Batch}
use Rattle.writing.specs.Writing.{message_bytes}
use Rattle.entry.specs.declared.Entry.{Entry}
use Rattle.journal.specs.Journal.{entries_of, entry_at, is_original, original_for, nowhere, taken, totals_of}
use Rattle.journal.proofs.Searches.{first_at}
use Rattle.elements.specs.Elements.{chip_in_form}
use Rattle.field.specs.Table.{among}
use Rattle.state.specs.declared.Chip.{Chip}
use Rattle.state.specs.declared.Phase.{Phase}
use Rattle.state.specs.declared.Phase.TheVariants.{Resting, Waiting, Pending, Settling, Uploading}
use Rattle.state.specs.declared.Request.{Request}
use Rattle.state.specs.declared.Settings.{Settings}
use Rattle.state.specs.declared.State.{State}
use Rattle.state.specs.State as state
use Rattle.state.specs.State.{waits, is_waiting, pends}
use Rattle.state.specs.Calls.{Lent, Result, sends}
use Rattle.checks.specs.Checks.{Rule, first_broken}
use Rattle.rules.proofs.InOrder.{Fit}
use Rattle.state_rules.proofs.Holds.{request-holds}
use Rattle.digits.specs.Numbers.{digits_of}
use Rattle.digits.proofs.Numbers.{digits_of_digits}
use Rattle.message.specs.declared.Message.{Message}
use Rattle.parts.specs.Parts.{part_of}
use Rattle.parts.specs.declared.Part.TheVariants as part
use Rattle.kinds.specs.Kinds.{indicator_of, takes_original, original_kind}
use Rattle.numbers.specs.Limits.{last_number}
use Rattle.numbers.specs.Numbers.{within, following}
use Rattle.message.specs.Build.{has, find, digits, bytes}
use Rattle.parts.specs.Layout.{widths}
use Rattle.parts.proofs.Laid.{laid-digits}
use Rattle.message.specs.Message.{largest}
use Rattle.outgoing.specs.Held.{CardHeld, OriginalHeld}
use Rattle.outgoing.specs.Outgoing as outgoing
use Rattle.outgoing.specs.Outgoing.{field61, original_fields, request_fields, request_message}
use Rattle.outgoing.proofs.Leaving.{by_chip, request-held, request-listed}
use Rattle.outgoing.specs.declared.Original.{Original}
use Rattle.effect_definitions.specs.StateEffects.{requested}
use Rattle.desk.specs.declared.Desk.{Desk}
use Rattle.desk.specs.DeskRules.{sends_field55, chip_from, chip_rules, request_of, rest_rules, desk_rules, journal_rules}
use Rattle.call_definitions.specs.Start.{original_of, entry_of, named_by, start_rules, start}
use Rattle.call_definitions.proofs.Refusals.{unbroken}
use Rattle.call_definitions.specs.Sending.{MaySend}
use Rattle.call_definitions.proofs.Held.{may_send}
use Rattle.call_definitions.specs.Events.{starts}
use Rattle.call_definitions.proofs.Quietly.{idle}
use Rattle.history.specs.Words.{message_in, is_request, chip_kinds}
use Rattle.history.specs.History as history
use Rattle.history.specs.History.{Account}
use Rattle.history.proofs.Said.{handed_out, sent-reads, number_read}
use Rattle.history.proofs.Sent.{Asks, request-asks}
use Rattle.history.proofs.Tied.{Tied}
use Rattle.history.proofs.Starts.{sent-unapproved, request-form}
use Rattle.history_theorems.specs.Approvals.{original_in}
use Rattle.history_theorems.specs.Standing.{running, Standing, trace_in, is_new, next, when_sent, SignOn}
use Rattle.history_theorems.specs.Judged.{reversal_pending, closes, number_of, JudgedBy}
use Rattle.history_theorems.proofs.Stands as stands
use Rattle.history_theorems.proofs.Stands.{PhaseStands, Members, HoldsCard, card-read, Names, Stands, closing, pending-is}
use Rattle.history_theorems.proofs.Signs.{Signs, awaits_both}
use Rattle.history_theorems.proofs.ByKind.{chip_is}
use Rattle.history_theorems.proofs.Ledger.{original-trace}
use Rattle.history_theorems.proofs.Said.{Said, goes, judged-said}
use Rattle.history_theorems.proofs.Sends.{idle_number, sent_at, numbered}

-- the numbers of some rules lie between two
abbrev all_within : ℕ → ℕ → List Rule → Bool
all_within low high [] = true
all_within low high (r ∷ rs) = leb low r.number && leb r.number high && all_within low high rs

first-within : (low high : ℕ) (rs : List Rule) → all_within low high rs ≡ true → (first_broken rs ≡ 0 → ⊥)
    → (low ≤ first_broken rs) × (first_broken rs ≤ high)
unfolding first_broken
first-within low high [] w f = absurd (f refl)
first-within low high (r ∷ rs) w f =
    let a = (and-eq-true_iff (leb low r.number && leb r.number high) (all_within low high rs)).0 w in
    let b = (and-eq-true_iff (leb low r.number) (leb r.number high)).0 a.0 in
    go r.broken (leb-true low r.number b.0) (leb-true r.number high b.1) (first-within low high rs a.1) f
  where
    go : (x : Bool) → low ≤ r.number → r.number ≤ high → ((first_broken rs ≡ 0 → ⊥) → (low ≤ first_broken rs) × (first_broken rs ≤ high))
        → (cond x r.number (first_broken rs) ≡ 0 → ⊥)
        → (low ≤ cond x r.number (first_broken rs)) × (cond x r.number (first_broken rs) ≤ high)
    go true p q ih f = (p, q)
    go false p q ih f = ih f

-- 23 and 10 to 13 are the history's; what is left is refused by 15 to 21
by_rest : (d : Desk) (chip : List ℕ) (y : Standing) (t a b c e : Bool) (k r : ℕ)
    → cond t 23 (cond a 10 (cond b 11 (cond c 12 (cond e 13 r)))) ≡ k → (k ≡ 0 → ⊥) → ((r ≡ 0 → ⊥) → (15 ≤ r) × (r ≤ 21))
    → JudgedBy (cond t 23 (cond a 10 (cond b 11 (cond c 12 (cond e 13 0))))) (starts d chip) y (history.refused k)
by_rest d chip y true a b c e k r p f g = record { refuses = λ u. ap history.refused (sym p); gives = λ z. absurd (omega arith) }
by_rest d chip y false true b c e k r p f g = record { refuses = λ u. ap history.refused (sym p); gives = λ z. absurd (omega arith) }
by_rest d chip y false false true c e k r p f g = record { refuses = λ u. ap history.refused (sym p); gives = λ z. absurd (omega arith) }
by_rest d chip y false false false true e k r p f g = record { refuses = λ u. ap history.refused (sym p); gives = λ z. absurd (omega arith) }
by_rest d chip y false false false false true k r p f g = record { refuses = λ u. ap history.refused (sym p); gives = λ z. absurd (omega arith) }
by_rest d chip y false false false false false k r p f g = record { refuses = λ u. absurd (u refl); gives = λ z. rw p at (g (λ q. f (sym p ∙ q))) }

-- nothing is awaited and the batch is not closing
runs_on : (x : Settings) (batch : Batch) (es : List Entry) (y : Standing) (p : Phase) → waits p ≡ false → state.closes p ≡ false
    → PhaseStands x batch es p y → y.stage ≡ running
runs_on x batch es y Resting w c h = h.stage_is
runs_on x batch es y (Waiting a) w c h = absurd (true≢false w)
runs_on x batch es y (Pending v) w c h = h.stage_is
runs_on x batch es y Settling w c h = absurd (true≢false c)
runs_on x batch es y Uploading w c h = absurd (true≢false c)

-- rules after five that are not broken
none_after : (t a b c e : Bool) (r : ℕ) → cond t 23 (cond a 10 (cond b 11 (cond c 12 (cond e 13 r)))) ≡ 0
    → (b ≡ false) × (e ≡ false) × ◌≡◌ {A = ℕ} (cond t 23 (cond a 10 (cond b 11 (cond c 12 (cond e 13 0))))) 0
none_after true a b c e r z = absurd (omega arith)
none_after false true b c e r z = absurd (omega arith)
none_after false false true c e r z = absurd (omega arith)
none_after false false false true e r z = absurd (omega arith)
none_after false false false false true r z = absurd (omega arith)
none_after false false false false false r z = (refl, refl, refl)

-- a card request is counted, and takes its trace
request-members : (s : State) (m : Message) (y : Standing) (c : Chip) (q : Request) → is_request m ≡ true → trace_in m ≡ q.trace.0
    → c.approved ≡ false → Members s y → Members (requested s c q) (when_sent m y)
unfolding is_new next following
request-members s m y c q e t u h = (h.0, h.1, rw e (ap (λ (n : ℕ). n + 1) h.2), rw (e, t), u)

trace-said : (m : Message) (n : ℕ) → part_of m part.Trace ≡ Some n → trace_in m ≡ n
unfolding trace_in
trace-said m n e = rw e

original-said : (m : Message) (n : ℕ) → part_of m part.OriginalTrace ≡ Some n → original_in m ≡ n
unfolding original_in
original-said m n e = rw e

-- field 61 of a void
original_there : (x : Settings) (batch : Batch) (c : Chip) (q : Request) (o : Original) → takes_original q.kind ≡ true
    → (has (request_fields x batch c q o) 61 ≡ true) × (find (request_fields x batch c q o) 61 ≡ (digits 61 (field61 o)).field)
original_there x batch c q o t =
    by_chip
    (λ ys. (has ((outgoing.plain_fields x batch c q ++ ys) ++ original_fields q.kind o) 61 ≡ true)
    × (find ((outgoing.plain_fields x batch c q ++ ys) ++ original_fields q.kind o) 61 ≡ (digits 61 (field61 o)).field))
    c (λ e. (rw t, rw t)) (λ e. (rw t, rw t))

-- an original that is found has the trace by which it was looked for
found-trace : (kind x : ℕ) (es : List Entry) (f : Option ℕ) → original_for kind x es ≡ f → nowhere f ≡ false → (entry_of f es).trace.0 ≡ x
found-trace kind x es (Some i) e n =
    let z : i - 0 ≡ i = omega arith in
    original-trace (original_kind kind) x (entry_at es i) (rw z at (first_at (is_original (original_kind kind) x) 0 es i e).holds)
found-trace kind x es None e n = absurd (true≢false n)

-- what a request names of an earlier one is no field 55
no_chip_lem : (kind : ℕ) (o : Original) → has (original_fields kind o) 55 ≡ false
no_chip_lem kind o = go (takes_original kind) (eqb kind 25) (eqb kind 11 || eqb kind 20)
  where
    go : (a b c : Bool) → has (cond a (bytes 37 o.reference ∷ bytes 38 o.authorisation ∷ digits 61 (field61 o) ∷ [])
        (cond b (bytes 37 o.reference ∷ digits 61 (field61 o) ∷ []) (cond c (bytes 38 o.authorisation ∷ digits 61 (field61 o) ∷ []) []))) 55 ≡ false
    go true b c = refl
    go false true c = refl
    go false false true = refl
    go false false false = refl

-- a request holds what every card request holds
request_card : (x : Settings) (batch : Batch) (m : List ℕ) (c : Chip) (q : Request) (o : Original) → CardHeld x c q → OriginalHeld q.kind o
    → largest ≤ length m → HoldsCard x batch c q (message_in (handed_out (message_bytes (request_message x batch c q o)) m))
unfolding request_message
request_card x batch m c q o h g room =
    card-read x batch c q (indicator_of q.kind) (original_fields q.kind o) _ (no_chip_lem q.kind o)
    (sent-reads (indicator_of q.kind) (request_fields x batch c q o) m (request-listed q.kind) (request-held x batch c q o h g) room)

module _ (l : ℕ) (s : State) (lent : Lent) (a : Account) (y : Standing) (tied : Tied l s a) (h : Stands s lent.journal y) (d : Desk) (chip : List ℕ)
    (authorisation : length d.authorisation ≡ 6) (reference : length d.reference ≡ 12) where
  abbrev pub entries : List Entry
  entries = entries_of s.entries lent.journal

  abbrev pub original : Entry
  original = entry_of (original_of d entries) entries

  abbrev pub request : Request
  request = request_of d original (taken entries s.next.0)

  abbrev pub named : Original
  named = named_by d s.batch original

  abbrev pub sent_chip : Chip
  sent_chip = chip_from d chip

  -- the rules after 13
  abbrev pub own : List Rule
  own = desk_rules d s.settings.refund ++ journal_rules d s (totals_of entries) (original_of d entries) original

  -- rule 23
  abbrev pub broken : Bool
  broken = sends_field55 d && not (chip_in_form chip)

  abbrev pub rest : List Rule
  rest = chip_rules d chip ++ (rest_rules s ++ own)

  -- what the request says of itself; a void names the trace of its original
  original-named : takes_original d.kind ≡ true → first_broken (start_rules d chip s entries original lent) ≡ 0 → named.trace.0 ≡ d.original.0
  unfolding original_of
  original-named t u =
      let n : nowhere (original_for d.kind d.original.0 entries) ≡ false = rw t at ((unbroken d chip s original lent u).found t) in
      rw t (found-trace d.kind d.original.0 entries (original_for d.kind d.original.0 entries) refl n)

  names-request : first_broken (start_rules d chip s entries original lent) ≡ 0 → Fit s lent
      → Asks s.settings s.batch request (message_in (handed_out (message_bytes (request_message s.settings s.batch sent_chip request named)) lent.message))
      → CardHeld s.settings sent_chip request → OriginalHeld request.kind named
      → Names request (message_in (handed_out (message_bytes (request_message s.settings s.batch sent_chip request named)) lent.message))
  unfolding request_message within
  names-request u f asks c g =
      let i = indicator_of d.kind in
      let xs = request_fields s.settings s.batch sent_chip request named in
      let r = sent-reads i xs lent.message (request-listed d.kind) (request-held s.settings s.batch sent_chip request named c g) f.message_room in
      let w = request-holds request (request-form l d chip s lent a tied authorisation reference u f) in
      let trace = number_read _ i xs r 11 (digits_of 6 request.trace.0) (omega arith) (omega arith) refl refl
      (digits_of_digits 6 request.trace.0) 0 6 request.trace.0 (omega arith) refl (omega arith) (omega (arith, w.trace_most)) in
      record {
        kind_is = asks.kind_is;
        amount_is = asks.amount_is;
        trace_is = trace-said _ request.trace.0 trace;
        card_is = r.fields 2 refl;
        original_is =
            λ t.
            let z = original-named t u in
            let k : within 1 d.original.0 last_number ≡ true = rw t at w.original_form in
            let most = leb-true d.original.0 last_number ((and-eq-true_iff (leb 1 d.original.0) (leb d.original.0 last_number)).0 k).1 in
            let y = original_there s.settings s.batch sent_chip request named t in
            let part = number_read _ i xs r 61 (field61 named) (omega arith) (omega arith) y.0 y.1
            (laid-digits (widths 61) (named.batch.0 ∷ named.trace.0 ∷ named.date ∷ [])) 6 6 named.trace.0 (omega arith) refl (omega arith)
            (omega arith) in
            original-said _ named.trace.0 part ∙ z ∙ sym (rw t);
      }

  -- what is sent reads back so
  sendable : first_broken (start_rules d chip s entries original lent) ≡ 0 → MaySend s sent_chip request named lent.message
  sendable u =
      may_send d chip s lent tied.kept.shaped.terminal_length tied.kept.shaped.merchant_length reference authorisation
      (taken entries s.next.0) (unbroken d chip s original lent u)

  asks_back : first_broken (start_rules d chip s entries original lent) ≡ 0 → Fit s lent
      → Asks s.settings s.batch request (message_in (handed_out (message_bytes (request_message s.settings s.batch sent_chip request named)) lent.message))
  asks_back u f =
      request-asks s.settings s.batch lent.message f.message_room f.order.state.batch_most sent_chip request named (sendable u).card (sendable u).original
      (request-holds request (request-form l d chip s lent a tied authorisation reference u f))

  pub named_back : first_broken (start_rules d chip s entries original lent) ≡ 0 → Fit s lent
      → Names request (message_in (handed_out (message_bytes (request_message s.settings s.batch sent_chip request named)) lent.message))
  named_back u f = names-request u f (asks_back u f) (sendable u).card (sendable u).original

  abbrev pub done : Result
  done = sends (message_bytes (request_message s.settings s.batch sent_chip request named)) (requested s sent_chip request) lent

  -- with the sign-on that may be awaited
  module _ (w : SignOn) (g : Signs s w) where
    abbrev pub number : ℕ
    number = number_of (starts d chip) w y (reversal_pending a.requests)

    pub number_is : cond broken 23 (cond (not s.signed_on) 10 (cond (is_waiting s) 11 (cond (pends s.phase) 12 (cond (state.closes s.phase) 13 0))))
        ≡ number
    number_is =
        let here = stands.awaits s.settings s.batch entries y s.phase h.phase_is in
        rw (chip_is d.kind)
        (ap (λ (n : ℕ). cond (d.chip && among d.kind chip_kinds && not (chip_in_form chip)) 23 n)
        (idle_number s.signed_on (is_waiting s) w y _ (cond (reversal_pending a.requests) 12 (cond (closes y.stage) 13 0)) h.members.0 (awaits_both s w y here g)
        (λ v.
        rw (
          pending-is l s.settings s.batch s.chip a s.phase tied.shape,
          closing s.settings s.batch entries y s.phase (idle s v).0 h.phase_is,
        ))))

    start-refused : (first_broken rest ≡ 0 → ⊥) → JudgedBy number (starts d chip) y (history.refused (first_broken rest))
    unfolding first_broken
    start-refused f =
        rw (← number_is)
        (by_rest d chip y broken (not s.signed_on) (is_waiting s) (pends s.phase) (state.closes s.phase) _ (first_broken own) refl f
        (first-within 15 21 own refl))

    pub start_goes : first_broken rest ≡ 0 → first_broken (start_rules d chip s entries original lent) ≡ 0 → Fit s lent
        → Said (starts d chip) y number done
    unfolding first_broken
    start_goes z u f =
        let v = sendable u in
        let b = handed_out (message_bytes (request_message s.settings s.batch sent_chip request named)) lent.message in
        let asks = asks_back u f in
        let said = named_back u f in
        let card = request_card s.settings s.batch lent.message sent_chip request named v.card v.original f.message_room in
        let p = none_after broken (not s.signed_on) (is_waiting s) (pends s.phase) (state.closes s.phase) (first_broken own) z in
        let stage = runs_on s.settings s.batch entries y s.phase (idle s p.0).0 p.1 h.phase_is in
        goes (starts d chip) y number done (sym number_is ∙ p.2)
        (record {
          members = request-members s (message_in b) y sent_chip request asks.typed.is_request said.trace_is (sent-unapproved d chip) h.members;
          phase_is = (sent_at (message_in b) y running (rw asks.typed.is_settlement stage), asks);
          details =
              record {
                card = rw asks.typed.is_request card;
                says = said;
                carries = card.carries;
                granted = λ q. absurd (true≢false (sym q ∙ sent-unapproved d chip));
              };
        })
        (asks.typed.is_request, numbered s y asks.said.batch_number h.members)

    pub start-said : Said (starts d chip) y number (start d chip s lent)
    unfolding start
    start-said = judged-said (starts d chip) y number s lent h rest done start-refused start_goes
