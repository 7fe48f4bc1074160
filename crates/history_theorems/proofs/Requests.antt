-- The message of a start is the one that the history says, field by field.
use Rattle.std.specs.Prelude.{Some, None, Option}
use mathlib.Core.Path.{◌≡◌, refl, sym, ap, ◌∙◌}
use mathlib.Core.List.{List, [], ◌∷◌, ◌++◌, append_assoc, append-nil}
use mathlib.Core.Bool.{Bool, true, false, cond, not, ◌&&◌, ◌||◌, and-eq-true_iff, and-false, true≢false}
use Prim.Native.Nat.{ℕ, ◌+◌, ◌-◌, ◌*◌, ◌/◌, ◌%◌, ◌≤◌}
use native.Mathlib.Omega.{arith}
use lib.Dec.{eqb}
use lib.ListN.{length, replicate}
use borrow.Author.Tests.{ne_eqb, eqb-true}
use Rattle.digits.specs.Digits.{unpack, is_packed}
use Rattle.digits.specs.Numbers.{digits_of}
use Rattle.digits.specs.Packed.{packed_number}
use Rattle.digits.proofs.Numbers.{digits_of_value}
use Rattle.digits.proofs.Packing.{length-unpack, unpack-digits}
use Rattle.digits.proofs.Packed.{number-value}
use Rattle.message.specs.Build.{Item, digits, bytes}
use Rattle.message.specs.Message.{Field, field_of}
use Rattle.reading.specs.Reading.{Reading, read_message}
use Rattle.numbers.specs.Numbers.{within}
use Rattle.numbers.proofs.Bounds.{within-bounds}
use Rattle.numbers.specs.declared.Batch.{Batch}
use Rattle.kinds.specs.Kinds as kinds
use Rattle.kinds.specs.Kinds.{takes_original, keys_authorisation, keys_date, is_kind, indicator_of, original_kind}
use Rattle.entry.specs.declared.Entry.{Entry}
use Rattle.entry.proofs.Form.{InForm, in_form_lem}
use Rattle.state.specs.declared.Request.{Request}
use Rattle.state.specs.declared.Settings.{Settings}
use Rattle.outgoing.specs.Outgoing.{field61, chip_fields, plain_fields, original_fields, request_fields, request_message}
use Rattle.outgoing.specs.declared.Original.{Original}
use Rattle.outgoing_theorems.specs.Theorems.{Reads}
use Rattle.approval.specs.Cards.{card_of}
use Rattle.desk.specs.declared.Desk.{Desk}
use Rattle.desk.specs.DeskRules.{sends_field55, chip_from, chip_rules, desk_in_form, request_of}
use Rattle.desk.proofs.Chips.{chip-passed, chip-length, chip_bytes_lem}
use Rattle.call_definitions.specs.Start.{named_by, original_of, entry_of, start_rules}
use Rattle.writing.specs.Writing.{message_bytes}
use Rattle.journal.specs.Journal.{entries_of, has_trace, is_original, nowhere, taken}
use Rattle.journal.proofs.Searches.{first_at}
use Rattle.state.specs.declared.Chip.{Chip}
use Rattle.state.specs.declared.State.{State}
use Rattle.state.specs.State.{no_chip, chip_of, has_chip}
use Rattle.state.specs.Calls.{Lent}
use Rattle.checks.specs.Checks.{first_broken}
use Rattle.rules.proofs.InOrder.{Fit}
use Rattle.outgoing.proofs.Leaving.{request-held, request-listed}
use Rattle.call_definitions.proofs.Refusals.{unbroken}
use Rattle.call_definitions.proofs.Held.{found_for, entry-in_form, may_send}
use Rattle.history.specs.Words.{message_in, type_for}
use Rattle.history.specs.History.{Account}
use Rattle.history.proofs.Said.{handed_out, sent-reads}
use Rattle.history.proofs.Tied.{Tied}
use Rattle.history_theorems.specs.Standing.{trace_in, Standing}
use Rattle.history_theorems.specs.Approvals.{Approval, AtPlace, IsEntry}
use Rattle.history_theorems.specs.Fields.{copied, approved_amount, sends_chip, entry_mode, chip_items, request_items, keyed_date, keyed_items, original_items}
use Rattle.history_theorems.specs.Requests.{is_named, SaysRequest}
use Rattle.history_theorems.proofs.ByKind.{chip_is, authorisation-keyed, processing_is, condition_is, void_is, type_is}
use Rattle.history_theorems.proofs.Copies.{Copied, EachExact, copied-place}
use Rattle.history_theorems.proofs.Stands.{Stands}
use Rattle.history_theorems.proofs.Starts.{named_back}
use Rattle.history_theorems.proofs.Booked.{Booked}

-- what every card request holds
mode-is : (b : Bool) → digits 22 (digits_of 3 (cond b 52 12)) ≡ entry_mode b
mode-is true = refl
mode-is false = refl

card_items : (x : Settings) (batch : Batch) (c : Chip) (q : Request)
    → plain_fields x batch c q
    ≡ request_items x batch.0 q.trace.0 q.kind (has_chip c) (digits 2 (digits_of q.card.length q.card.number))
    (digits 4 (digits_of 12 q.amount))
card_items x batch c q = rw (ap (digits 3) (processing_is q.kind), ap (digits 25) (condition_is q.kind), mode-is (has_chip c))

-- the desk's chip, where 23 lets it pass
chip-sends : (d : Desk) (b : List ℕ) → first_broken (chip_rules d b) ≡ 0 → (has_chip (chip_from d b) ≡ sends_chip d) × (chip_fields (chip_from d b) ≡ chip_items d b)
chip-sends d b h =
    let k : sends_field55 d ≡ sends_chip d = ap (λ (t : Bool). d.chip && t) (chip_is d.kind) in
    rw (← k) (go (sends_field55 d) refl)
  where
    go : (t : Bool) → sends_field55 d ≡ t → (has_chip (cond t (chip_of b) no_chip) ≡ t) × (chip_fields (cond t (chip_of b) no_chip) ≡ cond t (bytes 55 b ∷ []) [])
    go true e =
        let n : eqb (length b) 0 ≡ false = ne_eqb (length b) 0 (λ z. omega (arith, (chip-length b (chip-passed d b h e)).0, z)) in
        (rw n, rw (n, chip_bytes_lem b))
    go false e = (refl, refl)

-- a void has none
void_chip : (d : Desk) (b : List ℕ) → takes_original d.kind ≡ true → chip_from d b ≡ no_chip
unfolding takes_original
void_chip d b t = rw (go (eqb d.kind 21) (eqb d.kind 23) refl refl t, and-false d.chip)
  where
    go : (x y : Bool) → eqb d.kind 21 ≡ x → eqb d.kind 23 ≡ y → (x || y) ≡ true → kinds.sends_chip d.kind ≡ false
    go true y e f h = rw (eqb-true d.kind 21 e)
    go false true e f h = rw (eqb-true d.kind 23 f)
    go false false e f h = absurd (true≢false (sym h))

-- month and day, two digits each
date-digits : (month day : ℕ) → day ≤ 31 → digits_of 4 (month * 100 + day) ≡ digits_of 2 month ++ digits_of 2 day
date-digits month day h =
    let a : (month * 100 + day) / 10 / 10 / 10 % 10 ≡ month / 10 % 10 = omega arith in
    let b : (month * 100 + day) / 10 / 10 % 10 ≡ month % 10 = omega arith in
    let c : (month * 100 + day) / 10 % 10 ≡ day / 10 % 10 = omega arith in
    let e : (month * 100 + day) % 10 ≡ day % 10 = omega arith in
    rw (a, b, c, e)

-- a request other than a void names no batch and no trace
module _ (d : Desk) where
  abbrev keyed_by : Original
  keyed_by =
      record {
        batch = record { 0 = 0 };
        trace = record { 0 = 0 };
        date = d.month * 100 + d.day;
        authorisation = d.authorisation;
        reference = d.reference;
      }

  abbrev keyed_for : ℕ → Request
  keyed_for trace = record { kind = d.kind; amount = d.amount; card = d.card; trace = record { 0 = trace }; original = record { 0 = 0 } }

  date-laid : (within 1 d.month 12 && within 1 d.day 31) ≡ true → digits 61 (field61 keyed_by) ≡ keyed_date d
  date-laid h =
      let k = within-bounds 1 d.day 31 ((and-eq-true_iff (within 1 d.month 12) (within 1 d.day 31)).0 h).1 in
      ap (λ (ds : List ℕ). digits 61 (replicate 12 0 ++ ds)) (date-digits d.month d.day k.1)

  date_items : (x : Item) → (within 1 d.month 12 && within 1 d.day 31) ≡ true
      → ◌≡◌ {A = List Item} (x ∷ digits 61 (field61 keyed_by) ∷ []) (x ∷ keyed_date d ∷ [])
  date_items x h = ap (λ (y : Item). x ∷ y ∷ []) (date-laid h)

  added : (r a : Bool) → (not (a || r) || within 1 d.month 12 && within 1 d.day 31) ≡ true
      → cond r (bytes 37 d.reference ∷ digits 61 (field61 keyed_by) ∷ [])
      (cond a (bytes 38 d.authorisation ∷ digits 61 (field61 keyed_by) ∷ []) [])
      ≡ cond r (bytes 37 d.reference ∷ keyed_date d ∷ []) (cond a (bytes 38 d.authorisation ∷ keyed_date d ∷ []) [])
  added true true h = date_items (bytes 37 d.reference) h
  added true false h = date_items (bytes 37 d.reference) h
  added false true h = date_items (bytes 38 d.authorisation) h
  added false false h = refl

  module _ (keyed : takes_original d.kind ≡ false) where
    keyed_items_lem : (not (keys_date d.kind) || within 1 d.month 12 && within 1 d.day 31) ≡ true → original_fields d.kind keyed_by ≡ keyed_items d
    keyed_items_lem h =
        rw (keyed, ← authorisation-keyed d.kind) (added (eqb d.kind 25) (keys_authorisation d.kind) h)

    named-keyed : (batch : Batch) (e : Entry) → named_by d batch e ≡ keyed_by
    named-keyed batch e = rw keyed

    keyed-request : (e : Entry) (trace : ℕ) → request_of d e trace ≡ keyed_for trace
    keyed-request e trace = rw keyed

appended : {us vs xs ys : List Item} → us ≡ vs → xs ≡ ys → us ++ xs ≡ vs ++ ys
appended p q = rw (p, q)

-- what every card request holds of a card and an amount that were keyed, with a chip or without
abbrev request_card : Settings → ℕ → ℕ → Desk → Bool → List Item
request_card x batch trace d chip =
    request_items x batch trace d.kind chip (digits 2 (digits_of d.card.length d.card.number)) (digits 4 (digits_of 12 d.amount))

-- the fields of a request other than a void
keyed-fields : (x : Settings) (batch : Batch) (trace : ℕ) (d : Desk) (chip : List ℕ) (e : Entry) → takes_original d.kind ≡ false
    → desk_in_form d ≡ true → first_broken (chip_rules d chip) ≡ 0
    → request_fields x batch (chip_from d chip) (request_of d e trace) (named_by d batch e)
    ≡ request_card x batch.0 trace d (sends_chip d) ++ (chip_items d chip ++ keyed_items d)
unfolding desk_in_form
keyed-fields x batch trace d chip e t f h =
    let k = simp and-eq-true_iff at f in
    let c = chip_from d chip in
    let p = chip-sends d chip h in
    let items : Bool → List Item = request_card x batch.0 trace d in
    let plain = card_items x batch c (keyed_for d trace) ∙ ap items p.0 in
    ap (request_fields x batch c (request_of d e trace)) (named-keyed d t batch e)
    ∙ ap (λ (q : Request). request_fields x batch c q (keyed_by d)) (keyed-request d t e trace)
    ∙ appended (appended plain p.1) (keyed_items_lem d t k.0.0.1)
    ∙ append_assoc (items (sends_chip d)) (chip_items d chip) (keyed_items d)

-- the digits of a packed number
number_digits : (n : ℕ) (s : List ℕ) → n ≤ 19 → is_packed n s ≡ true → digits_of n (packed_number n s) ≡ unpack n s
number_digits n s h p =
    let a = unpack-digits n s p in
    rw (number-value n s h a) (rw length-unpack at (digits_of_value (unpack n s) a))

three : {a b c x y z : Item} → a ≡ x → b ≡ y → c ≡ z → ◌≡◌ {A = List Item} (a ∷ b ∷ c ∷ []) (x ∷ y ∷ z ∷ [])
three p q r = rw (p, q, r)

same_item : (n : ℕ) {f g : Field} → f ≡ g → ◌≡◌ {A = Item} (record { number = n; field = f }) (record { number = n; field = g })
same_item n e = rw e

-- a void has the card and the amount of its original, and names it
module _ (x : Settings) (batch : Batch) (trace : ℕ) (d : Desk) (chip : List ℕ) (e : Entry) (v : Approval) (later : List Approval) (t : takes_original d.kind ≡ true)
    (f : InForm e) (w : Copied e v) (h : IsEntry e v later) where
  abbrev name_of : Original
  name_of =
      record { batch = batch; trace = e.trace; date = packed_number 4 e.date; authorisation = e.authorisation; reference = e.reference }

  original-laid : field61 name_of ≡ digits_of 6 batch.0 ++ digits_of 6 (trace_in v.request) ++ unpack 4 (field_of v.answer 13).bytes
  original-laid =
      rw (← h.trace_is, ← h.date_is)
      (ap (λ (ds : List ℕ). digits_of 6 batch.0 ++ digits_of 6 e.trace.0 ++ ds) (number_digits 4 e.date (omega arith) f.date_packed))

  original_items_lem : original_fields d.kind name_of ≡ original_items batch.0 v
  original_items_lem = rw t (three (same_item 37 w.reference_copied) (ap (bytes 38) h.authorisation_is) (ap (digits 61) original-laid))

  abbrev asked : Request
  asked = record { kind = d.kind; amount = e.amount; card = card_of e; trace = record { 0 = trace }; original = d.original }

  copied_items : plain_fields x batch no_chip asked ≡ request_items x batch.0 trace d.kind false (copied 2 v.request) (approved_amount v)
  copied_items =
      card_items x batch no_chip asked
      ∙ ap (λ (i : Item). request_items x batch.0 trace d.kind false i (digits 4 (digits_of 12 e.amount))) (same_item 2 w.card_copied)
      ∙ ap (request_items x batch.0 trace d.kind false (copied 2 v.request)) (same_item 4 w.amount_copied)

  void_fields : request_fields x batch (chip_from d chip) (request_of d e trace) (named_by d batch e)
      ≡ request_items x batch.0 trace d.kind false (copied 2 v.request) (approved_amount v) ++ original_items batch.0 v
  void_fields =
      let named : named_by d batch e ≡ name_of = rw t in
      let request : request_of d e trace ≡ asked = rw t in
      ap (λ (c : Chip). request_fields x batch c (request_of d e trace) (named_by d batch e)) (void_chip d chip t)
      ∙ ap (request_fields x batch no_chip (request_of d e trace)) named ∙ ap (λ (q : Request). request_fields x batch no_chip q name_of) request
      ∙ appended (append-nil (plain_fields x batch no_chip asked) ∙ copied_items) original_items_lem

reads_as : {i j : ℕ} {xs ys : List Item} {r : Reading} → i ≡ j → xs ≡ ys → Reads i xs r → Reads j ys r
reads_as p q h = rw (p, q) at h

-- the approval that a void names has the entry that it is for
pub named_alike : (d : Desk) (e : Entry) (v : Approval) (later : List Approval) → IsEntry e v later
    → is_original (original_kind d.kind) d.original.0 e ≡ is_named d v
unfolding is_original has_trace original_kind is_named
named_alike d e v later h = rw (h.kind_is, h.trace_is)

kind-keyed : (d : Desk) → desk_in_form d ≡ true → is_kind d.kind ≡ true
unfolding desk_in_form
kind-keyed d f = let k = simp and-eq-true_iff at f in k.0.0.0.0

-- a request that no rule refuses
module _ (l : ℕ) (s : State) (lent : Lent) (a : Account) (y : Standing) (vs : List Approval) (tied : Tied l s a)
    (stands : Stands s lent.journal y) (booked : Booked s lent.journal vs) (exact : EachExact vs) (d : Desk) (chip : List ℕ)
    (authorisation : length d.authorisation ≡ 6) (reference : length d.reference ≡ 12) where
  abbrev es : List Entry
  es = entries_of s.entries lent.journal

  abbrev o : Entry
  o = entry_of (original_of d es) es

  abbrev trace : ℕ
  trace = taken es s.next.0

  abbrev b : List ℕ
  b = handed_out (message_bytes (request_message s.settings s.batch (chip_from d chip) (request_of d o trace) (named_by d s.batch o))) lent.message

  module _ (u : first_broken (start_rules d chip s es o lent) ≡ 0) (f : Fit s lent) where
    sent_fields : Reads (indicator_of d.kind) (request_fields s.settings s.batch (chip_from d chip) (request_of d o trace) (named_by d s.batch o)) (read_message b)
    unfolding request_message
    sent_fields =
        let w = may_send d chip s lent tied.kept.shaped.terminal_length tied.kept.shaped.merchant_length reference authorisation trace
        (unbroken d chip s o lent u) in
        sent-reads (indicator_of d.kind) (request_fields s.settings s.batch (chip_from d chip) (request_of d o trace) (named_by d s.batch o)) lent.message
        (request-listed d.kind) (request-held s.settings s.batch (chip_from d chip) (request_of d o trace) (named_by d s.batch o) w.card w.original) f.message_room

    trace-said : trace_in (message_in b) ≡ trace
    trace-said = (named_back l s lent a y tied stands d chip authorisation reference u f).trace_is

    in_terms : (xs : List Item) → request_fields s.settings s.batch (chip_from d chip) (request_of d o trace) (named_by d s.batch o) ≡ xs
        → Reads (type_for d.kind) xs (read_message b)
    in_terms xs e = reads_as (type_is d.kind (kind-keyed d (unbroken d chip s o lent u).keyed)) e sent_fields

    keyed-says : takes_original d.kind ≡ false
        → Reads (type_for d.kind)
        (request_items s.settings y.batch (trace_in (message_in b)) d.kind (sends_chip d) (digits 2 (digits_of d.card.length d.card.number))
        (digits 4 (digits_of 12 d.amount)) ++ (chip_items d chip ++ keyed_items d))
        (read_message b)
    keyed-says t =
        rw (← stands.members.1, trace-said)
        (in_terms _ (keyed-fields s.settings s.batch trace d chip o t (unbroken d chip s o lent u).keyed (unbroken d chip s o lent u).chip))

    -- the approval that a void names
    abbrev Voids : Approval → Type 0
    Voids v =
        (is_named d v ≡ true)
        × Reads (type_for d.kind)
        (request_items s.settings y.batch (trace_in (message_in b)) d.kind false (copied 2 v.request) (approved_amount v)
        ++ original_items y.batch v)
        (read_message b)

    original_form : takes_original d.kind ≡ true → InForm o
    original_form t = in_form_lem o (entry-in_form d es f.order.journal.form (original_of d es) refl ((unbroken d chip s o lent u).found t))

    void_says : (v : Approval) (later : List Approval) → takes_original d.kind ≡ true → IsEntry o v later → is_original (original_kind d.kind) d.original.0 o ≡ true
        → Copied o v → Voids v
    void_says v later t h n w = (
      sym (named_alike d o v later h) ∙ n,
      rw (← stands.members.1, trace-said) (in_terms _ (void_fields s.settings s.batch trace d chip o v later t (original_form t) w h)),
    )

    original-says : takes_original d.kind ≡ true → (k : Option ℕ) → original_of d es ≡ k → nowhere k ≡ false → (i : ℕ) × AtPlace i Voids vs
    original-says t (Some i) e n =
        let first = first_at (is_original (original_kind d.kind) d.original.0) 0 es i (found_for d es (Some i) e n) in
        let z : i - 0 ≡ i = omega arith in
        let holds = rw z at first.holds in
        let short = rw e at (original_form t).digits_most in
        (i, copied-place Voids i es vs booked exact (omega (arith, first.below)) short (λ v later h w. void_says v later t (rw e h) (rw e holds) (rw e w)))
    original-says t None e n = absurd (true≢false n)

    pub says-request : SaysRequest s.settings y vs d chip b
    says-request =
        record {
          keyed = λ t. keyed-says (void_is d.kind ∙ t);
          original = λ t. let k = void_is d.kind ∙ t in original-says k (original_of d es) refl ((unbroken d chip s o lent u).found k);
        }
