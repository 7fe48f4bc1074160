-- Case *i: sales of the largest amount, each approved, by induction; what the terminal has after n of them.
use mathlib.Core.Path.{◌≡◌, refl}
use mathlib.Core.List.{List, [], ◌∷◌, ◌++◌}
use mathlib.Core.Bool.{true, false, not}
use Prim.Native.Nat.{ℕ, zero, suc, ◌+◌, ◌*◌, ◌≤◌, ◌<◌}
use native.Mathlib.Numerals.{add-one}
use native.Mathlib.Omega.{arith}
use lib.ListN.{length, replicate, length-replicate}
use borrow.Author.Tests.{lt-ltb, le-ltb, ne_eqb}
use Rattle.numbers.specs.Numbers.{within, following}
use Rattle.field.specs.Contents.{all_printable}
use Rattle.message.specs.Message.{largest}
use Rattle.message.specs.declared.Message.{Message}
use Rattle.reading.specs.Reading.{read_message, Read}
use Rattle.writing.specs.Writing.{message_bytes}
use Rattle.kinds.specs.Kinds.{is_debit, side_of, takes_original}
use Rattle.kinds.specs.Sums.{together}
use Rattle.kinds.specs.declared.Side.TheVariants.{Debit}
use Rattle.entry.specs.Entry.{entry_size}
use Rattle.entry.specs.declared.Entry.{Entry}
use Rattle.journal.specs.Journal.{entries_of, has_trace, absent, totals_of, sums_of, taken, put_entry}
use Rattle.journal.proofs.Entries.{put_appends}
use Rattle.kinds.proofs.Booked.{booked-debit}
use Rattle.journal.proofs.Traces.{absent-last}
use Rattle.traces.proofs.Absent.{absent_none}
use Rattle.state.specs.declared.State.{State}
use Rattle.state.specs.declared.Outcome.TheVariants.{Send, Refused}
use Rattle.state.specs.State.{no_chip, fresh}
use Rattle.checks.specs.Checks.{first_broken}
use Rattle.state.specs.Calls.{Lent, lend, with_journal, Result, judged, quiet, sends}
use Rattle.rules.specs.Rules.{too_short, keeps_rule2, journal_kept}
use Rattle.state_rules.specs.StateRules.{settings_in_form, consent_kept, chip_kept, sign_on_kept, state_in_form, past, sums_kept, balanced, totals_true, state_kept}
use Rattle.rules.proofs.InOrder.{Fit}
use Rattle.call_definitions.specs.SignOn.{sign_on}
use Rattle.effect_definitions.specs.StateEffects.{adopts, asks_sign_on, on_sign_on, requested, one_more}
use Rattle.answer_match.specs.Match.{approves, batch_in, is_sign_on_answer}
use Rattle.batch_messages.specs.BatchMessages.{sign_on_message}
use Rattle.approval.specs.Approval.{approval_of, approved_entry}
use Rattle.approval.proofs.Approval.{shaped}
use Rattle.call_definitions.specs.Answer.{answer}
use Rattle.effect_definitions.specs.JournalEffects.{original_voided, approved, granted, on_request, answered as answeredBy, heard}
use Rattle.call_theorems.proofs.Back.{ready-fits, fit_ready}
use Rattle.call_theorems.proofs.Refusing.{Fits}
use Rattle.call_theorems.proofs.Signing.{sign_on-fits}
use Rattle.call_theorems.proofs.Starting.{start_fits}
use Rattle.call_theorems.proofs.Events.{answer-fits}
use Rattle.call_definitions.specs.Events.{run, sign_on_event}
use Rattle.worked.specs.Desk.{settings, sign_on_bytes, to_sign_on, opened, sale, approval}
use Rattle.worked.specs.Worked.{sales, hundred}
use Rattle.worked.proofs.Machine.{machine}
use Rattle.worked.proofs.Approvals.{asked, approval_bytes, answered, reads, approving_sale, amount_is, is_answer_lem, good_mac_lem, approval_holds_lem, entry-form}
use Rattle.worked.proofs.Starts.{trace_of, at, desk, sale_bytes, goes, goes_not}

-- its approval is taken: one entry more
abbrev entry : ℕ → Entry
entry n = approved_entry (asked 9999999999 (trace_of n)) (approval_of (answered (trace_of n)))

taken_in : (n : ℕ) (lent : Lent) → Fit (requested (at n) no_chip (asked 9999999999 (trace_of n))) lent
    → answer (approval_bytes (trace_of n)) true (requested (at n) no_chip (asked 9999999999 (trace_of n))) lent
    ≡ quiet (one_more 22 9999999999 (requested (at n) no_chip (asked 9999999999 (trace_of n)))) (with_journal (put_entry n (entry n) lent.journal) lent)
unfolding answer judged first_broken heard answeredBy on_request granted approved approved_entry original_voided takes_original
taken_in n lent fit =
    let r = fit_ready (requested (at n) no_chip (asked 9999999999 (trace_of n))) lent fit in
    rw (r.long, r.order, (reads (trace_of n)).outcome, is_answer_lem (trace_of n), approving_sale (trace_of n), good_mac_lem (trace_of n), amount_is (trace_of n))

is-sale : side_of 22 ≡ Debit
unfolding side_of is_debit
is-sale = refl

one_more_lem : (n : ℕ) → n < 999997 → one_more 22 9999999999 (requested (at n) no_chip (asked 9999999999 (trace_of n))) ≡ at (suc n)
unfolding following
one_more_lem n h =
    let d : n * 9999999999 + 9999999999 ≡ suc n * 9999999999 = omega arith in
    rw (booked-debit 22 9999999999 (at n).totals is-sale, lt-ltb (trace_of n) 999999 (omega arith), d, add-one n, add-one (trace_of n))

-- the journal holds no later trace after n of them
abbrev Sold : ℕ → List ℕ → Type 0
Sold n j = (x : ℕ) → suc n < x → absent x (entries_of n j) ≡ true

none-sold : (j : List ℕ) → Sold 0 j
none-sold j x h = absent_none x

other_trace : (n x : ℕ) → trace_of n < x → not (has_trace x (entry n)) ≡ true
unfolding has_trace approved_entry
other_trace n x h = rw (ne_eqb (trace_of n) x (λ e. omega arith))

one-sold : (n : ℕ) (j : List ℕ) → n < 100 → entry_size * 300 ≤ length j → Sold n j → Sold (suc n) (put_entry n (entry n) j)
one-sold n j small room s =
    let e : entries_of (suc n) (put_entry n (entry n) j) ≡ entries_of n j ++ (entry n ∷ []) =
    put_appends n (entry n) j (shaped (asked 9999999999 (trace_of n)) (approval_of (answered (trace_of n))) (approval_holds_lem (trace_of n)))
    (entry-form (trace_of n) (omega arith) (omega arith)) (omega arith) in
    λ x h. rw (e, absent-last x (entries_of n j) (entry n), s x (omega arith), other_trace n x h)

-- rule 21 passes
not_past : (amount n : ℕ) (lent : Lent) → Fit (at n) lent → n * 9999999999 + amount ≤ 999999999999
    → past 22 amount (totals_of (entries_of n lent.journal)) ≡ false
unfolding past
not_past amount n lent f h = rw (← f.order.state.totals, is-sale) (le-ltb 999999999999 (n * 9999999999 + amount) h)

is-past : (amount n : ℕ) (lent : Lent) → Fit (at n) lent → 999999999999 < n * 9999999999 + amount
    → past 22 amount (totals_of (entries_of n lent.journal)) ≡ true
unfolding past
is-past amount n lent f h = rw (← f.order.state.totals, is-sale) (lt-ltb 999999999999 (n * 9999999999 + amount) h)

-- what the terminal is after n of them
record After (n : ℕ) (s : State) (lent : Lent) : Type 0 where
  state : s ≡ at n
  fits : Fit s lent
  sold : Sold n lent.journal

largest-form : within 1 9999999999 9999999999 ≡ true
unfolding within
largest-form = refl

abbrev Holds : ℕ → Result → Type 0
Holds n r = After n r.state r.lent

-- a sale and its approval
one-after : (n : ℕ) (lent : Lent) → n < 100 → Fit (at n) lent → Sold n lent.journal
    → Holds (suc n) (run (sale 9999999999 ∷ approval 22 9999999999 (trace_of n) ∷ []) (quiet (at n) lent))
one-after n lent small fit sold =
    let q = asked 9999999999 (trace_of n) in
    let g = goes 9999999999 n lent fit (omega arith) largest-form (sold (trace_of n) (omega arith))
    (not_past 9999999999 n lent fit (omega arith)) in
    let r = sends (sale_bytes 9999999999 (trace_of n)) (requested (at n) no_chip q) lent in
    let f : Fits r = rw g at (start_fits (desk 9999999999) [] (at n) lent fit) in
    let a = taken_in n r.lent f in
    let h : Fits (quiet (one_more 22 9999999999 (requested (at n) no_chip q)) (with_journal (put_entry n (entry n) lent.journal) r.lent)) =
    rw a at (answer-fits (approval_bytes (trace_of n)) true (requested (at n) no_chip q) r.lent f) in
    rw (g, a) (record { state = one_more_lem n (omega arith); fits = h; sold = one-sold n lent.journal small fit.journal_room sold })

next-after : (n : ℕ) (s : State) (lent : Lent) → n < 100 → After n s lent
    → Holds (suc n) (run (sale 9999999999 ∷ approval 22 9999999999 (trace_of n) ∷ []) (quiet s lent))
next-after n s lent small h =
    rw h.state (one-after n lent small (rw h.state at h.fits) h.sold)

all_after : (n : ℕ) (r : Result) → n ≤ 100 → Holds 0 r → Holds n (sales n r)
all_after zero r h b = b
all_after (suc n) r h b =
    let x = sales n r in next-after n x.state x.lent (omega arith) (all_after n r (omega arith) b)

-- a fresh terminal signs on
fresh-order : keeps_rule2 (fresh (settings 300)) [] ≡ true
unfolding keeps_rule2 state_kept journal_kept settings_in_form consent_kept chip_kept sign_on_kept state_in_form within all_printable sums_kept sums_of together
    balanced totals_true
fresh-order = refl

-- the bytes of its sign-on, and the centre's answer
abbrev asking : List ℕ
asking = message_bytes (sign_on_message (settings 300) (record { 0 = 1 }) (record { 0 = 1 }))

abbrev signing : Message
signing = (read_message (sign_on_bytes 1)).message

signing-reads : (read_message (sign_on_bytes 1)).outcome ≡ Read
unfolding machine
signing-reads = refl

signing-answers : is_sign_on_answer (settings 300) (record { 0 = 1 }) signing ≡ true
unfolding machine
signing-answers = refl

signing-approves : approves signing ≡ true
unfolding machine
signing-approves = refl

signing_brings : batch_in signing ≡ record { 0 = 1 }
unfolding machine
signing_brings = refl

-- the terminal while the answer is awaited
abbrev signing_on : State
signing_on = asks_sign_on (fresh (settings 300)) (record { 0 = 1 })

signed_in : (lent : Lent) → Fit signing_on lent → answer (sign_on_bytes 1) true signing_on lent ≡ quiet (at 0) lent
unfolding answer judged first_broken heard on_sign_on adopts following
signed_in lent fit =
    let r = fit_ready signing_on lent fit in
    rw (r.long, r.order, signing-reads, signing-answers, signing-approves, signing_brings)

module _ (lent : Lent) (long : entry_size * 300 ≤ length lent.journal) (room : largest ≤ length lent.message) where
  both_fit : too_short (fresh (settings 300)) lent ≡ false
  unfolding too_short
  both_fit = rw (le-ltb (length lent.message) largest room, le-ltb (length lent.journal) (entry_size * 300) long)

  asks : sign_on (fresh (settings 300)) lent ≡ sends asking signing_on lent
  unfolding sign_on judged first_broken taken
  asks = rw (both_fit, fresh-order)

  opened_after : Holds 0 (run (sign_on_event ∷ to_sign_on 1 ∷ []) (quiet (fresh (settings 300)) lent))
  opened_after =
      let s = fresh (settings 300) in
      let r = sends asking signing_on lent in
      let f : Fits r = rw asks at (sign_on-fits s lent (ready-fits s lent (record { long = both_fit; order = fresh-order }))) in
      let a = signed_in r.lent f in
      let g : Fits (quiet (at 0) r.lent) = rw a at (answer-fits (sign_on_bytes 1) true signing_on r.lent f) in
      rw (asks, a) (record { state = refl; fits = g; sold = none-sold lent.journal })

hundred-after : Holds 100 hundred
hundred-after =
    all_after 100 (opened 300) (omega arith)
    (opened_after (lend (replicate (entry_size * 300) 0) (replicate largest 0)) (rw length-replicate (omega arith)) (rw length-replicate (omega arith)))

-- the sale after them, by its message and by rule 21
sale-length : length (sale_bytes 99 102) ≡ 77
unfolding machine
sale-length = refl

amount-form : (within 1 99 9999999999 ≡ true) × (within 1 100 9999999999 ≡ true)
unfolding within
amount-form = (refl, refl)

one_goes : (s : State) (lent : Lent) → After 100 s lent → (run (sale 99 ∷ []) (quiet s lent)).outcome ≡ Send 77
one_goes s lent h =
    let f : Fit (at 100) lent = rw h.state at h.fits in
    rw (
      h.state,
      goes 99 100 lent f (omega arith) amount-form.0 (h.sold 102 (omega arith)) (not_past 99 100 lent f (omega arith)),
      sale-length,
    )

one-is-refused : (s : State) (lent : Lent) → After 100 s lent → (run (sale 100 ∷ []) (quiet s lent)).outcome ≡ Refused 21
one-is-refused s lent h =
    let f : Fit (at 100) lent = rw h.state at h.fits in
    rw (
      h.state,
      goes_not 100 100 lent f (omega arith) amount-form.1 (is-past 100 100 lent f (omega arith)),
    )

pub i : (run (sale 99 ∷ []) hundred).outcome ≡ Send 77
i = one_goes hundred.state hundred.lent hundred-after

pub i_refused : (run (sale 100 ∷ []) hundred).outcome ≡ Refused 21
i_refused = one-is-refused hundred.state hundred.lent hundred-after
