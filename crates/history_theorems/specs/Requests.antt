-- Start, from the history: by which of 15 to 21 it is refused, and the message that it sends, field by field.
use Rattle.std.specs.Prelude.{◌≡◌, List, [], ◌∷◌, ◌++◌, Bool, true, false, cond, not, ◌&&◌, ◌||◌, ℕ, ◌+◌, ◌^◌, leb, ltb, eqb, length, get_or}
use Rattle.digits.specs.Lists.{all}
use Rattle.digits.specs.Numbers.{digits_of}
use Rattle.field.specs.Table.{among}
use Rattle.message.specs.Build.{digits}
use Rattle.reading.specs.Reading.{read_message}
use Rattle.outgoing_theorems.specs.Theorems.{Reads}
use Rattle.state.specs.declared.Card.{Card}
use Rattle.state.specs.declared.Settings.{Settings}
use Rattle.desk.specs.declared.Desk.{Desk}
use Rattle.call_definitions.specs.Events.{starts}
use Rattle.call_definitions.specs.Shapes.{SettingsShaped}
use Rattle.history.specs.Words.{message_in, kind_in, amount_in, listed_kinds, debit_kinds, credit_kinds, void_kinds, voided_kind, dated_kinds, authorised_kinds, type_for}
use Rattle.history.specs.History.{Given, sent, refused, batch_of}
use Rattle.history.specs.Demand.{Invocation, runs, begun, InvocationsShaped, Each}
use Rattle.history_theorems.specs.Standing.{Standing, trace_in, standing, sign_on}
use Rattle.history_theorems.specs.Approvals.{Approval, approvals, sum_for, answered, voided_by, AtPlace}
use Rattle.history_theorems.specs.Judged.{reversal_pending, number_of}
use Rattle.history_theorems.specs.Fields.{copied, approved_amount, sends_chip, chip_items, request_items, keyed_items, original_items}

-- a void of an approved request
unfoldable pub is_void : ℕ → Bool
is_void kind = among kind void_kinds

-- a 23 is for an approved 22, a 21 for an approved 20, of the trace that the desk gives
unfoldable pub is_named : Desk → Approval → Bool
is_named d v = eqb (kind_in v.request) (voided_kind d.kind) && eqb (trace_in v.request) d.original.0

-- the first that it names: whether there is one, whether a later approval voids it, and its amount
abbrev pub is_there : Desk → List Approval → Bool
is_there d [] = false
is_there d (v ∷ vs) = is_named d v || is_there d vs

abbrev pub is_voided : Desk → List Approval → Bool
is_voided d [] = false
is_voided d (v ∷ vs) = cond (is_named d v) (voided_by v.request vs) (is_voided d vs)

abbrev pub amount_named : Desk → List Approval → ℕ
amount_named d [] = 0
amount_named d (v ∷ vs) = cond (is_named d v) (amount_in v.answer) (amount_named d vs)

-- the amounts of the approvals of these kinds
abbrev pub amounts : List ℕ → List Approval → ℕ
amounts kinds vs = sum_for (λ kind. among kind kinds) answered vs

-- 13 to 19 digits
unfoldable pub card_in_form : Card → Bool
card_in_form c = leb 13 c.length && leb c.length 19 && ltb c.number (10 ^ c.length)

-- month 1 to 12, day 1 to 31
unfoldable pub date_in_form : Desk → Bool
date_in_form d = leb 1 d.month && leb d.month 12 && leb 1 d.day && leb d.day 31

-- bytes 20 to 7E
unfoldable pub text_in_form : List ℕ → Bool
text_in_form b = all (length b) (λ i. leb 0x20 (get_or b i 0) && leb (get_or b i 0) 0x7E)

-- kind, card, date and text; desk data that a kind doesn't send are not judged
unfoldable pub keyed_in_form : Desk → Bool
keyed_in_form d =
    among d.kind listed_kinds
    && (is_void d.kind || card_in_form d.card)
    && (not (among d.kind dated_kinds) || date_in_form d)
    && (not (eqb d.kind 25) || text_in_form d.reference)
    && (not (among d.kind authorised_kinds) || text_in_form d.authorisation)

-- the amount of the request: keyed, or at a void the original's
unfoldable pub amount_of : Desk → List Approval → ℕ
amount_of d vs = cond (is_void d.kind) (amount_named d vs) d.amount

-- the kind's debit or credit total with it would pass 999,999,999,999
abbrev pub passes : Desk → List Approval → List ℕ → Bool
passes d vs kinds = among d.kind kinds && ltb 999999999999 (amounts kinds vs + amount_of d vs)

-- the number by which a start that 10 to 13 let pass is refused, 0 for none
unfoldable pub start_number : Settings → Standing → List Approval → Desk → ℕ
start_number x y vs d =
    cond (not (is_void d.kind) && (eqb d.amount 0 || ltb 9999999999 d.amount)) 15
    (cond (not (keyed_in_form d)) 16
    (cond (eqb d.kind 25 && ltb x.refund d.amount) 17
    (cond (leb x.limit (length vs) || leb 900000 y.requests) 18
    (cond (is_void d.kind && not (is_there d vs)) 19
    (cond (is_void d.kind && is_voided d vs) 20
    (cond (passes d vs debit_kinds || passes d vs credit_kinds) 21 0))))))

-- the message: card and amount as the desk keyed them, or at a void those of the approval that it names
pub record SaysRequest (x : Settings) (y : Standing) (vs : List Approval) (d : Desk) (chip b : List ℕ) : Type 0 where
  pub keyed : is_void d.kind ≡ false
      → Reads (type_for d.kind)
      (request_items x y.batch (trace_in (message_in b)) d.kind (sends_chip d) (digits 2 (digits_of d.card.length d.card.number))
      (digits 4 (digits_of 12 d.amount)) ++ (chip_items d chip ++ keyed_items d))
      (read_message b)
  pub original : is_void d.kind ≡ true
      → (i : ℕ) × AtPlace i
      (λ v. (is_named d v ≡ true)
      × Reads (type_for d.kind)
      (request_items x y.batch (trace_in (message_in b)) d.kind false (copied 2 v.request) (approved_amount v) ++ original_items y.batch v)
      (read_message b))
      vs

-- a start is refused by its number, or sends its message
pub record StartJudged (x : Settings) (y : Standing) (vs : List Approval) (d : Desk) (chip : List ℕ) (g : Given) : Type 0 where
  pub refuses : (start_number x y vs d ≡ 0 → ⊥) → g ≡ refused (start_number x y vs d)
  pub sends : start_number x y vs d ≡ 0 → (b : List ℕ) × (g ≡ sent b) × SaysRequest x y vs d chip b

-- every start that 1, 2 and 10 to 13 let pass, of every list of calls from a fresh terminal of any settings
abbrev pub StartsJudged : Type 0
StartsJudged = (x : Settings) (j : List ℕ) (ts : List Invocation) → SettingsShaped x → InvocationsShaped ts
    → Each
    (λ c h. (d : Desk) (chip : List ℕ) → c.event ≡ starts d chip → (c.given ≡ refused 1 → ⊥) → (c.given ≡ refused 2 → ⊥)
    → number_of c.event (sign_on h) (standing h) (reversal_pending (batch_of x.sendings h)) ≡ 0
    → StartJudged x (standing h) (approvals h) d chip c.given)
    (runs ts (begun x j)).history
