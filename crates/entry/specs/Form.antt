-- Document 01, rule 2: what an entry must hold, by itself.
use Rattle.std.specs.Prelude.{Bool, not, ◌&&◌, ◌||◌, List, ℕ, leb, eqb, take, drop}
use Rattle.numbers.specs.Limits.{largest_amount, last_number}
use Rattle.numbers.specs.Numbers.{within}
use Rattle.digits.specs.Digits.{bytes_for, is_packed}
use Rattle.field.specs.Contents.{all_printable}
use Rattle.kinds.specs.Kinds.{is_kind, is_due, is_voidable}
use Rattle.entry.specs.Entry.{all_zero}
use Rattle.entry.specs.declared.Entry.{Entry}

-- 13 to 19 packed digits, zero filled
unfoldable pub card_in_form : ℕ → List ℕ → Bool
card_in_form n card = within 13 n 19 && is_packed n (take (bytes_for n) card) && all_zero (drop (bytes_for n) card)

-- each value is in its range and form; a date may be any four digits
unfoldable pub in_form : Entry → Bool
in_form e =
    is_kind e.kind
    && leb e.voided 1
    && leb e.mark 4
    && within 1 e.trace.0 last_number
    && within 1 e.amount largest_amount
    && card_in_form e.digits e.card
    && is_packed 4 e.date
    && all_printable e.authorisation
    && all_printable e.reference
    && all_zero e.reserved

-- a voided mark stands on 20 or 22 only
unfoldable pub keeps_voided : Entry → Bool
keeps_voided e = eqb e.voided 0 || is_voidable e.kind

-- an entry of a kind that is uploaded
abbrev pub due_entry : Entry → Bool
due_entry e = is_due e.kind

-- outside the upload, and on an entry not due, mark and resends are 0
unfoldable pub keeps_unmarked : (Entry → Bool) → Bool → Entry → Bool
keeps_unmarked due uploading e = (uploading && due e) || (eqb e.mark 0 && eqb e.resends 0)

-- resends are at most L, and 0 at mark 0
unfoldable pub keeps_resends : ℕ → Entry → Bool
keeps_resends l e = leb e.resends l && (not (eqb e.mark 0) || eqb e.resends 0)

-- a mark 1 already resent L times is awaited
unfoldable pub keeps_silent : ℕ → Bool → Entry → Bool
keeps_silent l awaited e = not (eqb e.mark 1 && eqb e.resends l) || awaited

-- all of these, for an entry that is the awaited item or is not
unfoldable pub fits : ℕ → Bool → Bool → Entry → Bool
fits l uploading awaited e =
    in_form e && keeps_voided e && keeps_unmarked due_entry uploading e && keeps_resends l e && keeps_silent l awaited e
