-- Laws of the numbers of refusals.
use Rattle.std.proofs.Common.{◌≡◌, true, false, ℕ, ◌-◌, List, [], ◌∷◌, get_or, Result, Ok, Err, is_ok, eqb, refl, ap, sym, ◌∙◌}
use mathlib.Core.Bool.{true≢false}
use borrow.Author.Tests.{ne_eqb}
use Rattle.checks.specs.Checks.{check_order, is_part_of}
use Rattle.checks.specs.Refusals.{number_of, refused_by, NumbersApart, NumbersChecked}
use Rattle.checks.specs.declared.Refusal.{Refusal}
use Rattle.checks.specs.declared.Refusal.TheVariants.{TooSmall, OutOfForm, EndsEarly, TypeNotListed, FieldNotListed, BadDigit, BadLength, NotPrintable, BytesFollow, SignedOff, Awaiting, ReversalPending, Closing, NothingAwaited, AmountOutOfRange, DeskOutOfForm, RefundTooLarge, Full, NoSuchEntry, VoidedAlready, TotalTooLarge, NoMatch, BadChip, BadKeyLength}

-- all refusals, by their numbers
abbrev in_order : List Refusal
in_order =
    TooSmall ∷ OutOfForm ∷ EndsEarly ∷ TypeNotListed ∷ FieldNotListed ∷ BadDigit ∷ BadLength ∷ NotPrintable ∷ BytesFollow ∷ SignedOff ∷ Awaiting ∷ ReversalPending ∷ Closing ∷ NothingAwaited ∷ AmountOutOfRange ∷ DeskOutOfForm ∷ RefundTooLarge ∷ Full ∷ NoSuchEntry ∷ VoidedAlready ∷ TotalTooLarge ∷ NoMatch ∷ BadChip ∷ BadKeyLength ∷ []

abbrev numbered_by : ℕ → Refusal
numbered_by n = get_or in_order (n - 1) TooSmall

numbered_back : (e : Refusal) → numbered_by (number_of e) ≡ e
numbered_back TooSmall = refl
numbered_back OutOfForm = refl
numbered_back EndsEarly = refl
numbered_back TypeNotListed = refl
numbered_back FieldNotListed = refl
numbered_back BadDigit = refl
numbered_back BadLength = refl
numbered_back NotPrintable = refl
numbered_back BytesFollow = refl
numbered_back SignedOff = refl
numbered_back Awaiting = refl
numbered_back ReversalPending = refl
numbered_back Closing = refl
numbered_back NothingAwaited = refl
numbered_back AmountOutOfRange = refl
numbered_back DeskOutOfForm = refl
numbered_back RefundTooLarge = refl
numbered_back Full = refl
numbered_back NoSuchEntry = refl
numbered_back VoidedAlready = refl
numbered_back TotalTooLarge = refl
numbered_back NoMatch = refl
numbered_back BadChip = refl
numbered_back BadKeyLength = refl

pub numbers_apart : NumbersApart
numbers_apart d e h = sym (numbered_back d) ∙ ap numbered_by h ∙ numbered_back e

pub numbers_checked : NumbersChecked
unfolding check_order
numbers_checked TooSmall = refl
numbers_checked OutOfForm = refl
numbers_checked EndsEarly = refl
numbers_checked TypeNotListed = refl
numbers_checked FieldNotListed = refl
numbers_checked BadDigit = refl
numbers_checked BadLength = refl
numbers_checked NotPrintable = refl
numbers_checked BytesFollow = refl
numbers_checked SignedOff = refl
numbers_checked Awaiting = refl
numbers_checked ReversalPending = refl
numbers_checked Closing = refl
numbers_checked NothingAwaited = refl
numbers_checked AmountOutOfRange = refl
numbers_checked DeskOutOfForm = refl
numbers_checked RefundTooLarge = refl
numbers_checked Full = refl
numbers_checked NoSuchEntry = refl
numbers_checked VoidedAlready = refl
numbers_checked TotalTooLarge = refl
numbers_checked NoMatch = refl
numbers_checked BadChip = refl
numbers_checked BadKeyLength = refl

zero-not_checked : is_part_of (0 ∷ []) check_order ≡ false
unfolding check_order
zero-not_checked = refl

-- no refusal has the number 0
pub number_positive : (e : Refusal) → number_of e ≡ 0 → ⊥
number_positive e h = true≢false (sym (numbers_checked e) ∙ rw h zero-not_checked)

-- what is not refused
pub ok_is_zero : {A : Type 0} (r : Result A Refusal) → is_ok r ≡ eqb (refused_by r) 0
ok_is_zero (Ok x) = refl
ok_is_zero (Err e) = rw (ne_eqb (number_of e) 0 (number_positive e))

-- what two equal successes give
abbrev given : Result ℕ Refusal → ℕ
given (Ok x) = x
given (Err e) = 0

pub ok_same : {a b : ℕ} → ◌≡◌ {A = Result ℕ Refusal} (Ok a) (Ok b) → a ≡ b
ok_same q = ap given q
