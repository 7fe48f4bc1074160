-- Case *i: a sale after n approved sales leaves, or is refused by 21.
use mathlib.Core.Path.{◌≡◌, refl}
use mathlib.Core.List.{List, []}
use mathlib.Core.Bool.{true, false}
use Prim.Native.Nat.{ℕ, zero, suc, ◌*◌, ◌<◌}
use native.Mathlib.Omega.{arith}
use lib.ListN.{length, replicate}
use borrow.Author.Tests.{lt-leb}
use Rattle.numbers.specs.Numbers.{within}
use Rattle.writing.specs.Writing.{message_bytes}
use Rattle.kinds.specs.Kinds.{is_kind, takes_original}
use Rattle.entry.specs.declared.Entry.{Entry}
use Rattle.journal.specs.Journal.{entries_of, absent, totals_of, taken_from, taken}
use Rattle.state.specs.declared.State.{State}
use Rattle.state.specs.State.{no_chip, no_sign_on}
use Rattle.state.specs.declared.Phase.TheVariants.{Resting}
use Rattle.checks.specs.Checks.{first_broken}
use Rattle.state.specs.Calls.{Lent, judged, refused, sends}
use Rattle.state_rules.specs.StateRules.{is_card, past}
use Rattle.rules.proofs.InOrder.{Fit}
use Rattle.outgoing.specs.Outgoing.{request_message}
use Rattle.call_definitions.specs.Start.{start}
use Rattle.desk.specs.DeskRules.{desk_in_form}
use Rattle.effect_definitions.specs.StateEffects.{requested}
use Rattle.desk.specs.declared.Desk.{Desk}
use Rattle.call_theorems.proofs.Back.{fit_ready}
use Rattle.worked.specs.Desk.{settings}
use Rattle.worked.specs.Worked.{sales_approved}
use Rattle.worked.proofs.Approvals.{asked}

-- the trace of a sale after n approved ones: the sign-on took trace 1
abbrev pub trace_of : ℕ → ℕ
trace_of n = suc (suc n)

-- the terminal after n approved sales
abbrev pub at : ℕ → State
at n =
    record {
      settings = settings 300;
      signed_on = true;
      sign_on = no_sign_on;
      batch = record { 0 = 1 };
      next = record { 0 = trace_of n };
      entries = n;
      counts = sales_approved n;
      totals = record { debit = n * 9999999999; debits = n; credit = 0; credits = 0 };
      chip = no_chip;
      phase = Resting;
    }

abbrev pub desk : ℕ → Desk
desk amount =
    record {
      kind = 22;
      amount = amount;
      card = record { number = 6222021234567894; length = 16 };
      original = record { 0 = 0 };
      month = 11;
      day = 15;
      authorisation = replicate 6 0x33;
      reference = replicate 12 0x34;
      chip = false;
    }

-- the bytes that leave
abbrev pub sale_bytes : ℕ → ℕ → List ℕ
sale_bytes amount trace =
    message_bytes (request_message (settings 300) (record { 0 = 1 }) no_chip (asked amount trace)
    (record {
      batch = record { 0 = 0 };
      trace = record { 0 = 0 };
      date = 1115;
      authorisation = replicate 6 0x33;
      reference = replicate 12 0x34;
    }))

desk_form : (amount : ℕ) → desk_in_form (desk amount) ≡ true
unfolding desk_in_form is_kind takes_original is_card within
desk_form amount = refl

-- a free trace is taken
taken_from_lem : (k : ℕ) (es : List Entry) (x : ℕ) → absent x es ≡ true → taken_from k es x ≡ x
taken_from_lem zero es x h = refl
taken_from_lem (suc k) es x h = rw h

taken_free : (es : List Entry) (x : ℕ) → absent x es ≡ true → taken es x ≡ x
unfolding taken
taken_free es x h = taken_from_lem (length es) es x h

-- a sale after n of them: judged by rule 21 alone
module _ (amount n : ℕ) (lent : Lent) (fit : Fit (at n) lent) (few : n < 300) (form : within 1 amount 9999999999 ≡ true) where
  pub goes : absent (trace_of n) (entries_of n lent.journal) ≡ true → past 22 amount (totals_of (entries_of n lent.journal)) ≡ false
      → start (desk amount) [] (at n) lent ≡ sends (sale_bytes amount (trace_of n)) (requested (at n) no_chip (asked amount (trace_of n))) lent
  unfolding start judged first_broken takes_original
  goes free p =
      let r = fit_ready (at n) lent fit in
      rw (
        r.long,
        r.order,
        form,
        desk_form amount,
        lt-leb 300 n few,
        lt-leb 900000 n (omega arith),
        p,
        taken_free (entries_of n lent.journal) (trace_of n) free,
      )

  pub goes_not : past 22 amount (totals_of (entries_of n lent.journal)) ≡ true → start (desk amount) [] (at n) lent ≡ refused 21 (at n) lent
  unfolding start judged first_broken takes_original
  goes_not p =
      let r = fit_ready (at n) lent fit in
      rw (r.long, r.order, form, desk_form amount, lt-leb 300 n few, lt-leb 900000 n (omega arith), p)
