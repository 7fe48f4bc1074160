-- Document 01, "Why a call is turned down": the number of each refusal. Document 02, requests 1 and 3: 23 and 24.
use Rattle.std.specs.Prelude.{true, ◌≡◌, ℕ, [], ◌∷◌, Result, Ok, Err}
use Rattle.checks.specs.Checks.{check_order, is_part_of}
use Rattle.checks.specs.declared.Refusal.{Refusal}
use Rattle.checks.specs.declared.Refusal.TheVariants.{TooSmall, OutOfForm, EndsEarly, TypeNotListed, FieldNotListed, BadDigit, BadLength, NotPrintable, BytesFollow, SignedOff, Awaiting, ReversalPending, Closing, NothingAwaited, AmountOutOfRange, DeskOutOfForm, RefundTooLarge, Full, NoSuchEntry, VoidedAlready, TotalTooLarge, NoMatch, BadChip, BadKeyLength}

abbrev pub number_of : Refusal → ℕ
number_of TooSmall = 1
number_of OutOfForm = 2
number_of EndsEarly = 3
number_of TypeNotListed = 4
number_of FieldNotListed = 5
number_of BadDigit = 6
number_of BadLength = 7
number_of NotPrintable = 8
number_of BytesFollow = 9
number_of SignedOff = 10
number_of Awaiting = 11
number_of ReversalPending = 12
number_of Closing = 13
number_of NothingAwaited = 14
number_of AmountOutOfRange = 15
number_of DeskOutOfForm = 16
number_of RefundTooLarge = 17
number_of Full = 18
number_of NoSuchEntry = 19
number_of VoidedAlready = 20
number_of TotalTooLarge = 21
number_of NoMatch = 22
number_of BadChip = 23
number_of BadKeyLength = 24

-- the number that something is refused by, 0 where it is not
abbrev pub refused_by : {A : Type 0} → Result A Refusal → ℕ
refused_by (Ok x) = 0
refused_by (Err e) = number_of e

-- what something gives, or the number that it is refused by
abbrev pub numbered : {A : Type 0} → Result A Refusal → Result A ℕ
numbered (Ok x) = Ok x
numbered (Err e) = Err (number_of e)

-- no two refusals have one number
abbrev pub NumbersApart : Type 0
NumbersApart = (d e : Refusal) → number_of d ≡ number_of e → d ≡ e

-- each number is one of those that are checked
abbrev pub NumbersChecked : Type 0
NumbersChecked = (e : Refusal) → is_part_of (number_of e ∷ []) check_order ≡ true
