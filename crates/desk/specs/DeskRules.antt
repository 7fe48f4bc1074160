-- Document 01, "Calls" and "Why a call is turned down": what the desk keys, and the rules of start that need no look at a journal's bytes.
use Rattle.std.specs.Prelude.{Bool, cond, not, ◌&&◌, ◌||◌, List, [], ◌∷◌, ℕ, leb, ltb, eqb, Option}
use Rattle.approval.specs.Cards.{card_of}
use Rattle.desk.specs.declared.Desk.{Desk}
use Rattle.checks.specs.Checks.{Rule, rule}
use Rattle.elements.specs.Elements.{chip_in_form}
use Rattle.entry.specs.declared.Entry.{Entry}
use Rattle.field.specs.Contents.{all_printable}
use Rattle.journal.specs.Journal.{nowhere}
use Rattle.kinds.specs.Kinds.{is_kind, takes_original, keys_reference, keys_authorisation, keys_date, is_refund, sends_chip}
use Rattle.numbers.specs.Limits.{most_requests}
use Rattle.numbers.specs.Numbers.{within, is_amount}
use Rattle.state.specs.State.{no_chip, chip_of, is_waiting, is_pending, is_closing}
use Rattle.state.specs.declared.Chip.{Chip}
use Rattle.state.specs.declared.Request.{Request}
use Rattle.state.specs.declared.State.{State}
use Rattle.state_rules.specs.StateRules.{is_card, past}
use Rattle.kinds.specs.declared.Totals.{Totals}

-- document 02, request 1: field 55 is sent where the desk has a chip, and only at a sale or pre-authorisation
abbrev pub sends_field55 : Desk → Bool
sends_field55 d = d.chip && sends_chip d.kind

abbrev pub chip_from : Desk → List ℕ → Chip
chip_from d b = cond (sends_field55 d) (chip_of b) no_chip

-- rule 23: a desk's field 55 that is empty, above 255 bytes or not in form
abbrev pub chip_rules : Desk → List ℕ → List Rule
chip_rules d b = rule 23 (sends_field55 d && not (chip_in_form b)) ∷ []

-- desk data that a kind doesn't send are not judged
unfoldable pub desk_in_form : Desk → Bool
desk_in_form d =
    is_kind d.kind
    && (takes_original d.kind || is_card d.card)
    && (not (keys_date d.kind) || within 1 d.month 12 && within 1 d.day 31)
    && (not (keys_reference d.kind) || all_printable d.reference)
    && (not (keys_authorisation d.kind) || all_printable d.authorisation)

-- 21 and 23 take the original's card and amount
abbrev pub request_of : Desk → Entry → ℕ → Request
request_of d e trace =
    record {
      kind = d.kind;
      amount = cond (takes_original d.kind) e.amount d.amount;
      card = cond (takes_original d.kind) (card_of e) d.card;
      trace = record { 0 = trace };
      original = cond (takes_original d.kind) d.original (record { 0 = 0 });
    }

-- rules 10 to 13: the terminal is signed on and rests
abbrev pub rest_rules : State → List Rule
rest_rules s =
    rule 10 (not s.signed_on)
    ∷ rule 11 (is_waiting s)
    ∷ rule 12 (is_pending s)
    ∷ rule 13 (is_closing s)
    ∷ []

-- rules 15 to 17: what the desk keyed, and the largest refund
abbrev pub desk_rules : Desk → ℕ → List Rule
desk_rules d refund =
    rule 15 (not (takes_original d.kind) && not (is_amount d.amount))
    ∷ rule 16 (not (desk_in_form d))
    ∷ rule 17 (is_refund d.kind && ltb refund d.amount)
    ∷ []

-- rules 18 to 21: what the journal has left, by its totals, the place of the original and the original
abbrev pub journal_rules : Desk → State → Totals → Option ℕ → Entry → List Rule
journal_rules d s totals place e =
    rule 18 (leb s.settings.limit s.entries || leb most_requests s.counts.sent)
    ∷ rule 19 (takes_original d.kind && nowhere place)
    ∷ rule 20 (takes_original d.kind && not (eqb e.voided 0))
    ∷ rule 21 (past d.kind (request_of d e 0).amount totals)
    ∷ []
