-- The image of the state: its bytes, and the state that bytes hold.
use Rattle.std.specs.Prelude.{List, [], ◌∷◌, ◌++◌, Bool, true, false, cond, ℕ, ◌%◌, ◌^◌, eqb, get_or, take, drop, replicate, Option, Some, None}
use Rattle.digits.specs.Lists.{same_bytes}
use Rattle.field.specs.Bitmap.{word_of}
use Rattle.kinds.specs.declared.Totals.{Totals}
use Rattle.state.specs.State.{fresh}
use Rattle.state.specs.declared.Request.{Request}
use Rattle.state.specs.declared.Reason.{Reason}
use Rattle.state.specs.declared.Reason.TheVariants.{Silence, BadMac, CardDeclined}
use Rattle.state.specs.declared.Reversal.{Reversal}
use Rattle.state.specs.declared.Awaited.{Awaited}
use Rattle.state.specs.declared.Awaited.TheVariants as awaited
use Rattle.state.specs.declared.Phase.{Phase}
use Rattle.state.specs.declared.Phase.TheVariants.{Resting, Waiting, Pending, Settling, Uploading}
use Rattle.state.specs.declared.Settings.{Settings}
use Rattle.state.specs.declared.Counts.{Counts}
use Rattle.state.specs.declared.Chip.{Chip}
use Rattle.state.specs.declared.State.{State}
use Rattle.image_definitions.specs.Layout.{widths, region_offset, bytes_of, laid_in, numbers_in, first_of}

-- the version of the format
abbrev pub version : ℕ
version = 5

abbrev pub reason_value : Reason → ℕ
reason_value Silence = 0
reason_value BadMac = 1
reason_value CardDeclined = 2

-- the numbers of a phase that holds a request: its number, the request, reason and sendings of its reversal
abbrev pub request_values : ℕ → Request → ℕ → ℕ → List ℕ
request_values p q reason n =
    p ∷ q.kind ∷ q.amount ∷ q.card.number ∷ q.card.length ∷ q.trace.0 ∷ q.original.0 ∷ reason ∷ n ∷ 0 ∷ []

abbrev pub reversal_values : ℕ → Reversal → List ℕ
reversal_values p v = request_values p v.request (reason_value v.reason) v.sendings

-- the numbers of a phase that holds no request: its number, and a trace or a place, or 0
abbrev pub plain_values : ℕ → ℕ → List ℕ
plain_values p x = p ∷ 0 ∷ 0 ∷ 0 ∷ 0 ∷ 0 ∷ 0 ∷ 0 ∷ 0 ∷ x ∷ []

abbrev pub awaited_values : Awaited → List ℕ
awaited_values (awaited.Request q) = request_values 1 q 0 0
awaited_values (awaited.Reversal v) = reversal_values 2 v
awaited_values (awaited.Settlement t) = plain_values 3 t.0
awaited_values (awaited.Item i) = plain_values 4 i
awaited_values (awaited.End t) = plain_values 5 t.0

abbrev pub phase_values : Phase → List ℕ
phase_values Resting = plain_values 0 0
phase_values (Waiting a) = awaited_values a
phase_values (Pending v) = reversal_values 6 v
phase_values Settling = plain_values 7 0
phase_values Uploading = plain_values 8 0

abbrev pub flag_value : Bool → ℕ
flag_value on = cond on 1 0

-- the numbers of the settings: the bytes of field 41 are one, and those of field 42 two
abbrev pub settings_values : Settings → List ℕ
settings_values x =
    x.limit ∷ x.sendings ∷ x.refund ∷ word_of 8 x.terminal ∷ word_of 8 x.merchant ∷ word_of 7 (drop 8 x.merchant) ∷ []

-- signed on, batch, next trace, entries
abbrev pub member_values : State → List ℕ
member_values s = flag_value s.signed_on ∷ s.batch.0 ∷ s.next.0 ∷ s.entries ∷ []

abbrev pub counts_values : Counts → List ℕ
counts_values c = c.sent ∷ c.approved ∷ c.declined ∷ c.reversed ∷ c.given_up ∷ c.unanswered ∷ []

abbrev pub totals_values : Totals → List ℕ
totals_values t = t.debit ∷ t.debits ∷ t.credit ∷ t.credits ∷ []

-- length of field 55, approved, for which amount
abbrev pub chip_values : Chip → List ℕ
chip_values c = c.length ∷ flag_value c.approved ∷ c.amount ∷ []

-- the number of each row of the layout
unfoldable pub values_of : State → List ℕ
values_of s =
    version
    ∷ (settings_values s.settings
    ++ (member_values s
    ++ (counts_values s.counts
    ++ (totals_values s.totals ++ (phase_values s.phase ++ (chip_values s.chip ++ (s.sign_on.0 ∷ [])))))))

-- the bytes of the rows
abbrev pub row_bytes : State → List ℕ
row_bytes s = laid_in widths (values_of s)

-- the region of bytes: field 55, date, authorisation, reference
unfoldable pub region_of : Chip → List ℕ
region_of c = first_of 255 c.bytes ++ (first_of 2 c.date ++ (first_of 6 c.authorisation ++ first_of 12 c.reference))

-- the image of a state
unfoldable pub image : State → List ℕ
image s = row_bytes s ++ region_of s.chip

-- number i, of which a value of 8, 16 or 32 bits keeps so many bits
abbrev pub bits_of : ℕ → List ℕ → ℕ → ℕ
bits_of n v i = get_or v i 0 % 2 ^ n

-- the bytes of field 42 from their two rows
abbrev pub merchant_of : ℕ → ℕ → List ℕ
merchant_of x y = bytes_of 8 x ++ bytes_of 7 y

-- the settings in their six rows
abbrev pub settings_of : List ℕ → Settings
settings_of v =
    record {
      limit = bits_of 32 v 0;
      sendings = bits_of 8 v 1;
      refund = get_or v 2 0;
      terminal = bytes_of 8 (get_or v 3 0);
      merchant = merchant_of (get_or v 4 0) (get_or v 5 0);
    }

-- the counts in their six rows
abbrev pub counts_of : List ℕ → Counts
counts_of v =
    record {
      sent = bits_of 32 v 0;
      approved = bits_of 32 v 1;
      declined = bits_of 32 v 2;
      reversed = bits_of 32 v 3;
      given_up = bits_of 32 v 4;
      unanswered = bits_of 32 v 5;
    }

-- the totals in their four rows
abbrev pub totals_in : List ℕ → Totals
totals_in v = record { debit = get_or v 0 0; debits = bits_of 16 v 1; credit = get_or v 2 0; credits = bits_of 16 v 3 }

-- the request, its reversal and the phase in their ten rows
abbrev pub request_of : List ℕ → Request
request_of v =
    record {
      kind = bits_of 8 v 1;
      amount = get_or v 2 0;
      card = record { number = get_or v 3 0; length = bits_of 8 v 4 };
      trace = record { 0 = bits_of 32 v 5 };
      original = record { 0 = bits_of 32 v 6 };
    }

abbrev pub reason_of : ℕ → Reason
reason_of x = cond (eqb x 1) BadMac (cond (eqb x 2) CardDeclined Silence)

abbrev pub reversal_of : List ℕ → Reversal
reversal_of v = record { request = request_of v; reason = reason_of (get_or v 7 0); sendings = bits_of 8 v 8 }

-- the phases in the order of their numbers
abbrev pub phases_of : List ℕ → List Phase
phases_of v =
    Resting
    ∷ Waiting (awaited.Request (request_of v))
    ∷ Waiting (awaited.Reversal (reversal_of v))
    ∷ Waiting (awaited.Settlement (record { 0 = bits_of 32 v 9 }))
    ∷ Waiting (awaited.Item (bits_of 16 v 9))
    ∷ Waiting (awaited.End (record { 0 = bits_of 32 v 9 }))
    ∷ Pending (reversal_of v)
    ∷ Settling
    ∷ Uploading
    ∷ []

abbrev pub phase_of : List ℕ → Phase
phase_of v = get_or (phases_of v) (get_or v 0 0) Resting

-- so many rows from a row on
abbrev pub rows_from : ℕ → ℕ → List ℕ → List ℕ
rows_from at n v = take n (drop at v)

-- the chip in its three rows and the region
abbrev pub chip_in : List ℕ → List ℕ → Chip
chip_in v r =
    record {
      length = bits_of 8 v 0;
      bytes = first_of 255 r;
      approved = eqb (get_or v 1 0) 1;
      amount = get_or v 2 0;
      date = first_of 2 (drop 255 r);
      authorisation = first_of 6 (drop 257 r);
      reference = first_of 12 (drop 263 r);
    }

-- the state that the numbers of the rows and the region say; numbers that no state has give some state
unfoldable pub state_of : List ℕ → List ℕ → State
state_of v r =
    record {
      settings = settings_of (rows_from 1 6 v);
      signed_on = eqb (get_or v 7 0) 1;
      sign_on = record { 0 = bits_of 32 v 34 };
      batch = record { 0 = bits_of 32 v 8 };
      next = record { 0 = bits_of 32 v 9 };
      entries = bits_of 16 v 10;
      counts = counts_of (rows_from 11 6 v);
      totals = totals_in (rows_from 17 4 v);
      chip = chip_in (rows_from 31 3 v) r;
      phase = phase_of (rows_from 21 10 v);
    }

abbrev pub state_in : List ℕ → State
state_in b = state_of (numbers_in widths b) (drop region_offset b)

-- the state that bytes hold, where they are accepted; else a fresh one of zero settings
pub record Reading : Type 0 where
  pub accepted : Bool
  pub state : State

abbrev pub accepted : State → Reading
accepted s = record { accepted = true; state = s }

-- a refusal says nothing of a state: it holds a fresh one of zero settings
abbrev pub no_settings : Settings
no_settings = record { limit = 0; sendings = 0; refund = 0; terminal = replicate 8 0; merchant = replicate 15 0 }

abbrev pub refused : Reading
refused = record { accepted = false; state = fresh no_settings }

-- what code returns: the state, or none for a refusal
abbrev pub reading_of : Option State → Reading
reading_of (Some s) = accepted s
reading_of None = refused

-- a state, accepted where the bytes are its image
unfoldable pub judged : List ℕ → State → Reading
judged b s = cond (same_bytes b (image s)) (accepted s) refused

-- Bytes are accepted where the state that they say, written again, gives the same bytes. So these are refused: another length or
-- version; signed on or approved other than 0 or 1; a phase above 8; a reason above 2; a place of an item above 65535; a number
-- other than 0 that the phase does not use.
unfoldable pub read_image : List ℕ → Reading
read_image b = judged b (state_in b)
