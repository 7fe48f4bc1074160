-- The terminal's counts and totals against those of the requests, as one request is sent, waits on or ends.
use mathlib.Core.Path.{◌≡◌, refl, sym, ap, ◌∙◌}
use mathlib.Core.List.{List, [], ◌∷◌}
use mathlib.Core.Bool.{true, false, cond}
use Prim.Native.Nat.{ℕ, ◌+◌}
use native.Mathlib.Nat.{zero-add, add_comm}
use native.Mathlib.Numerals.{add-one, one-add}
use native.Mathlib.Omega.{arith}
use Rattle.message.specs.declared.Message.{Message}
use Rattle.kinds.specs.Kinds as kinds
use Rattle.kinds.specs.Totals.{no_totals, booked}
use Rattle.kinds.specs.declared.Totals.{Totals}
use Rattle.state.specs.declared.Counts.{Counts}
use Rattle.state.specs.declared.Count.{Count}
use Rattle.state.specs.declared.Count.TheVariants.{Sent, Approved, Declined, Reversed, GivenUp, Unanswered}
use Rattle.state.specs.State.{no_counts, plus}
use Rattle.call_definitions.specs.Events.{Event}
use Rattle.history.specs.Words.{kind_in, is_debit, is_credit}
use Rattle.history.specs.History.{Ending, approved, declined, reversed, given_up, unanswered, Fate, deciding, consenting, pending, out, ended, Request, asked, becomes, approved_for, count, amount, ended_as, is_waiting, approved_debit, approved_credit}
use Rattle.history.specs.Demand.{counts_of, waiting, Balanced}

-- the totals of the approved requests
abbrev pub request_sums : List Request → Totals
request_sums rs =
    record {
      debit = amount approved_debit rs;
      debits = count approved_debit rs;
      credit = amount approved_credit rs;
      credits = count approved_credit rs;
    }

pub record Books (c : Counts) (t : Totals) (rs : List Request) : Type 0 where
  pub counted : c ≡ counts_of rs
  pub summed : t ≡ request_sums rs

-- a batch in which nothing was sent
pub no_books : Books no_counts no_totals []
no_books = record { counted = refl; summed = refl }

-- what the terminal counts an ending as
abbrev pub count_of : Ending → Count
count_of approved = Approved
count_of declined = Declined
count_of reversed = Reversed
count_of given_up = GivenUp
count_of unanswered = Unanswered

-- a request that waits is sent and not ended; one that has ended is one ending more
waiting-counts : (f : Fate) (r : Request) (rs : List Request) → is_waiting f ≡ true → counts_of (becomes f r ∷ rs) ≡ plus Sent (counts_of rs)
waiting-counts deciding r rs w = simp (zero-add, add-one)
waiting-counts consenting r rs w = simp (zero-add, add-one)
waiting-counts pending r rs w = simp (zero-add, add-one)
waiting-counts (out v) r rs w = simp (zero-add, add-one)
waiting-counts (ended e) r rs w = let z : ◌≡◌ {A = ℕ} 0 1 = cc in absurd (omega arith)

ended-counts : (e : Ending) (r : Request) (rs : List Request) → counts_of (becomes (ended e) r ∷ rs) ≡ plus (count_of e) (plus Sent (counts_of rs))
ended-counts approved r rs = simp (zero-add, one-add, add-one)
ended-counts declined r rs = simp (zero-add, one-add, add-one)
ended-counts reversed r rs = simp (zero-add, one-add, add-one)
ended-counts given_up r rs = simp (zero-add, one-add, add-one)
ended-counts unanswered r rs = simp (zero-add, one-add, add-one)

-- a request that is not approved enters no sum
waits-unapproved : (f : Fate) → is_waiting f ≡ true → ended_as approved f ≡ false
waits-unapproved deciding w = refl
waits-unapproved consenting w = refl
waits-unapproved pending w = refl
waits-unapproved (out v) w = refl
waits-unapproved (ended e) w = let z : ◌≡◌ {A = ℕ} 0 1 = cc in absurd (omega arith)

unsummed : (r : Request) (rs : List Request) → ended_as approved r.fate ≡ false → request_sums (r ∷ rs) ≡ request_sums rs
unsummed r rs e = simp (e, zero-add)

module _ (c : Counts) (t : Totals) (rs : List Request) where
  -- a request is sent
  pub one-sent : (e : Event) (m : Message) → Books c t rs → Books (plus Sent c) t (asked e m ∷ rs)
  one-sent e m h =
      record {
        counted = ap (plus Sent) h.counted ∙ sym (waiting-counts deciding (asked e m) rs refl);
        summed = h.summed ∙ sym (unsummed (asked e m) rs refl);
      }

  module _ (r : Request) (waits : is_waiting r.fate ≡ true) (h : Books c t (r ∷ rs)) where
    counted-sent : c ≡ plus Sent (counts_of rs)
    counted-sent = h.counted ∙ waiting-counts r.fate r rs waits

    summed-before : t ≡ request_sums rs
    summed-before = h.summed ∙ unsummed r rs (waits-unapproved r.fate waits)

    -- it waits on
    pub one_waits : (q : Request) → is_waiting q.fate ≡ true → Books c t (q ∷ rs)
    one_waits q w =
        record {
          counted = counted-sent ∙ sym (waiting-counts q.fate q rs w);
          summed = summed-before ∙ sym (unsummed q rs (waits-unapproved q.fate w));
        }

    counted-ended : (e : Ending) → plus (count_of e) c ≡ counts_of (becomes (ended e) r ∷ rs)
    counted-ended e = ap (plus (count_of e)) counted-sent ∙ sym (ended-counts e r rs)

    -- it ends, and is not approved
    pub one_ended : (e : Ending) → ended_as approved (ended e) ≡ false → Books (plus (count_of e) c) t (becomes (ended e) r ∷ rs)
    one_ended e u =
        record { counted = counted-ended e; summed = summed-before ∙ sym (unsummed (becomes (ended e) r) rs u) }

    -- it is approved, and its amount is booked
    summed-more : (kind x : ℕ) → kind ≡ kind_in r.message → booked kind x t ≡ request_sums (approved_for x (ended approved) r ∷ rs)
    unfolding booked is_debit is_credit kinds.is_debit kinds.is_credit
    summed-more kind x k =
        rw (
          summed-before,
          k,
          add_comm (amount approved_debit rs),
          add_comm (count approved_debit rs),
          add_comm (amount approved_credit rs),
          add_comm (count approved_credit rs),
        )

    pub one-approved : (kind amount x : ℕ) → kind ≡ kind_in r.message → amount ≡ x
        → Books (plus Approved c) (booked kind amount t) (approved_for x (ended approved) r ∷ rs)
    one-approved kind amount x k e = rw e (record { counted = counted-ended approved; summed = summed-more kind x k })

-- each request has one fate
one-fate : (f : Fate)
    → cond (ended_as approved f) 1 0 + cond (ended_as declined f) 1 0 + cond (ended_as reversed f) 1 0 + cond (ended_as given_up f) 1 0
    + cond (ended_as unanswered f) 1 0 + cond (is_waiting f) 1 0 ≡ 1
one-fate deciding = refl
one-fate consenting = refl
one-fate pending = refl
one-fate (out v) = refl
one-fate (ended approved) = refl
one-fate (ended declined) = refl
one-fate (ended reversed) = refl
one-fate (ended given_up) = refl
one-fate (ended unanswered) = refl

pub balanced : (rs : List Request) → Balanced (counts_of rs) (waiting rs)
balanced [] = refl
balanced (r ∷ rs) = omega (arith, one-fate r.fate, balanced rs)
