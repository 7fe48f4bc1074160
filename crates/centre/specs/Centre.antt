-- The simulated centre: what it answers to a message that left.
use Rattle.std.specs.Prelude.{List, [], ◌∷◌, ◌++◌, Bool, cond, ◌||◌, ℕ, ◌+◌, ◌*◌, leb, eqb, replicate, Some, None, Option}
use Rattle.digits.specs.Digits.{pack}
use Rattle.digits.specs.Numbers.{digits_of}
use Rattle.digits.specs.Packed.{numeral}
use Rattle.message.specs.Message.{field_of}
use Rattle.message.specs.Build.{Item, digits, bytes, message_of}
use Rattle.message.specs.declared.Message.{Message}
use Rattle.parts.specs.Parts.{copies, number_in}
use Rattle.compose.specs.Compose.{with_all}
use Rattle.hexadecimal.specs.Hexadecimal.{to_hex}
use Rattle.centre_types.specs.Types.{left_as, answer_type, is_approval}
use Rattle.centre_types.specs.declared.Left.{Left}
use Rattle.centre_types.specs.declared.Left.TheVariants.{Nothing, Request, Reversal, Settlement, Upload, SignOn}
use Rattle.centre_totals.specs.Totals.{field48_with}

-- k digits of field n as a number, from digit i on
abbrev pub sent_number : ℕ → ℕ → ℕ → Message → ℕ
sent_number n i k m = numeral (number_in m n i k)

-- field n as sent, of k digits or of k bytes
abbrev pub digits_sent : ℕ → ℕ → Message → Item
digits_sent n k m = digits n (digits_of k (sent_number n 0 k m))

abbrev pub bytes_sent : ℕ → ℕ → Message → Item
bytes_sent n k m = bytes n (cond (copies m n k) (field_of m n).bytes (replicate k 0x20))

-- fields 11, 41, 42 as sent
abbrev pub own_fields : Message → List Item
own_fields m = digits_sent 11 6 m ∷ bytes_sent 41 8 m ∷ bytes_sent 42 15 m ∷ []

-- document 02, request 4: how many digits field 60 was sent with: 14 where they say a number, else 11
abbrev pub codes_count : Option ℕ → ℕ
codes_count (Some x) = 14
codes_count None = 11

abbrev pub codes_sent : Message → Item
codes_sent m = digits_sent 60 (codes_count (number_in m 60 0 14)) m

-- fields 11, 41, 42, 60 as sent
abbrev pub sent_fields : Message → List Item
sent_fields m = own_fields m ++ (codes_sent m ∷ [])

-- the trace as so many digits
abbrev pub trace_figures : ℕ → Message → List ℕ
trace_figures k m = to_hex (pack (digits_of k (sent_number 11 0 6 m)))

-- 64, which the key pad judges
abbrev pub mac_field : List Item
mac_field = bytes 64 (replicate 8 0) ∷ []

-- document 02, request 4: an amount has up to twelve digits; a larger one stands for none
abbrev pub is_given : ℕ → Bool
is_given amount = leb amount 999999999999

-- 4 is the amount that is given, or as sent
unfoldable pub answered_amount : ℕ → Message → ℕ
answered_amount amount m = cond (is_given amount) amount (sent_number 4 0 12 m)

-- 38 when the code is 00 or an amount is given: the trace's six digits
abbrev pub authorisation_field : Message → List ℕ → ℕ → List Item
authorisation_field m code amount = cond (is_approval code || is_given amount) (bytes 38 (trace_figures 6 m) ∷ []) []

-- to a card request also 4, 13 (the date), 37 (the trace as twelve digits), 38 and 64
abbrev pub approval_fields : Message → ℕ → List ℕ → ℕ → List Item
approval_fields m date code amount =
    digits 4 (digits_of 12 (answered_amount amount m))
    ∷ digits 13 (digits_of 4 date)
    ∷ bytes 37 (trace_figures 12 m)
    ∷ (authorisation_field m code amount ++ mac_field)

-- to a reversal also 64
abbrev pub also_to : Left → Message → ℕ → List ℕ → ℕ → List Item
also_to Nothing m date code amount = []
also_to Request m date code amount = approval_fields m date code amount
also_to Reversal m date code amount = mac_field
also_to Settlement m date code amount = []
also_to Upload m date code amount = []
also_to SignOn m date code amount = []

-- its type plus 10, fields 11, 41, 42, 60 as sent, 39 = code
abbrev pub reply_fields : Message → ℕ → List ℕ → ℕ → List Item
reply_fields m date code amount = sent_fields m ++ (bytes 39 code ∷ also_to (left_as m.indicator) m date code amount)

unfoldable pub usual_reply : Message → ℕ → List ℕ → ℕ → Message
usual_reply m date code amount = with_all (reply_fields m date code amount) (message_of (answer_type m.indicator) [])

-- document 02, request 3: field 60 of the answer to a sign-on is 00, the centre's batch number, 003; a batch number above 999999 stands for
-- the number that the request carried
unfoldable pub brought_number : ℕ → Message → ℕ
brought_number batch m = cond (leb batch 999999) (batch * 1000 + 3) (sent_number 60 0 11 m)

-- 62 when the code is 00: key material of 24 zero bytes
abbrev pub key_field : List ℕ → List Item
key_field code = cond (is_approval code) (bytes 62 (replicate 24 0) ∷ []) []

-- 0810 with 11, 41, 42 as sent, 39 = code, 60 and 62
abbrev pub sign_on_fields : Message → ℕ → List ℕ → List Item
sign_on_fields m batch code = own_fields m ++ (digits 60 (digits_of 11 (brought_number batch m)) ∷ bytes 39 code ∷ key_field code)

unfoldable pub sign_on_reply : Message → ℕ → List ℕ → Message
sign_on_reply m batch code = with_all (sign_on_fields m batch code) (message_of 0x0810 [])

unfoldable pub reply : Message → ℕ → ℕ → List ℕ → ℕ → Message
reply m date batch code amount = cond (eqb m.indicator 0x0800) (sign_on_reply m batch code) (usual_reply m date code amount)

-- 11, 41, 42, 48 as sent with this digit, 60
abbrev pub reconciliation_fields : Message → ℕ → List Item
reconciliation_fields m digit = digits 48 (field48_with m digit) ∷ sent_fields m

unfoldable pub reconciliation : Message → ℕ → Message
reconciliation m digit = with_all (reconciliation_fields m digit) (message_of (answer_type m.indicator) [])
