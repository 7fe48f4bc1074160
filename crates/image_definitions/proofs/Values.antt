-- The numbers of a state say that state, and fit their rows.
use mathlib.Core.Path.{◌≡◌, refl, ap, ◌∙◌}
use mathlib.Core.List.{List, [], ◌∷◌, ◌++◌, append-nil}
use mathlib.Core.Bool.{Bool, true, false}
use Prim.Native.Nat.{ℕ, ◌+◌, ◌^◌, ◌<◌}
use native.Mathlib.Nat.{mod-eq_of_lt}
use native.Mathlib.Omega.{arith}
use lib.Dec.{lit<}
use lib.ListN.{length, get_or, take, drop, replicate, take-append-drop, length-drop}
use lib.Seq.{take_all, take_at, drop_at, get_or-append-add}
use borrow.Rule.Slice.PartMut.{put_mid}
use Rattle.field.specs.Bitmap.{word_of}
use Rattle.kinds.specs.declared.Totals.{Totals}
use Rattle.state.specs.declared.Request.{Request}
use Rattle.state.specs.declared.Reason.{Reason}
use Rattle.state.specs.declared.Reason.TheVariants.{Silence, BadMac, CardDeclined}
use Rattle.state.specs.declared.Reversal.{Reversal}
use Rattle.state.specs.declared.Awaited.TheVariants as awaited
use Rattle.state.specs.declared.Phase.{Phase}
use Rattle.state.specs.declared.Phase.TheVariants.{Resting, Waiting, Pending, Settling, Uploading}
use Rattle.state.specs.declared.Settings.{Settings}
use Rattle.state.specs.declared.Counts.{Counts}
use Rattle.state.specs.declared.State.{State}
use Rattle.image_definitions.specs.Layout.{widths, bytes_of}
use Rattle.image_definitions.specs.Image.{version, reason_value, request_values, reversal_values, plain_values, phase_values, flag_value, member_values, settings_values, counts_values, totals_values, chip_values, values_of, region_of, merchant_of, rows_from, settings_of, counts_of, totals_in, request_of, reason_of, reversal_of, phase_of, state_of}
use Rattle.image_definitions.specs.Sized.{Bytes, SizedSettings, SizedCounts, SizedTotals, SizedRequest, SizedReversal, SizedPhase, Sized}
use Rattle.image_definitions.proofs.Laid.{Fits, fits-append, length_bytes_of, bytes_word, word_below, drop-bytes}
use Rattle.image_definitions.proofs.Region.{flag_back, chip_back}

-- all the bytes of a list, as a number and again as bytes
all-bytes : (n : ℕ) (b : List ℕ) → Bytes b → length b ≡ n → bytes_of n (word_of n b) ≡ b
all-bytes n b s l = bytes_word n b s (omega arith) ∙ take_all n b (omega arith)

-- 15 bytes, as two numbers and again as bytes
two-numbers : (b : List ℕ) → Bytes b → length b ≡ 15 → merchant_of (word_of 8 b) (word_of 7 (drop 8 b)) ≡ b
two-numbers b s l =
    rw (bytes_word 8 b s (omega arith), all-bytes 7 (drop 8 b) (drop-bytes 8 b s) (rw length-drop (omega arith))) (take-append-drop 8 b)

settings_back : (x : Settings) → SizedSettings x → settings_of (settings_values x) ≡ x
settings_back x z =
    rw (
      mod-eq_of_lt z.limit,
      mod-eq_of_lt z.sendings,
      all-bytes 8 x.terminal z.terminal_bytes z.terminal,
      two-numbers x.merchant z.merchant_bytes z.merchant,
    )

counts_back : (c : Counts) → SizedCounts c → counts_of (counts_values c) ≡ c
counts_back c z =
    rw (
      mod-eq_of_lt z.sent,
      mod-eq_of_lt z.approved,
      mod-eq_of_lt z.declined,
      mod-eq_of_lt z.reversed,
      mod-eq_of_lt z.given_up,
      mod-eq_of_lt z.unanswered,
    )

totals_back : (t : Totals) → SizedTotals t → totals_in (totals_values t) ≡ t
totals_back t z = rw (mod-eq_of_lt z.debits, mod-eq_of_lt z.credits)

request_back : (p : ℕ) (q : Request) (reason n : ℕ) → SizedRequest q → request_of (request_values p q reason n) ≡ q
request_back p q reason n z =
    rw (mod-eq_of_lt z.kind, mod-eq_of_lt z.digits, mod-eq_of_lt z.trace, mod-eq_of_lt z.original)

reason_back : (r : Reason) → reason_of (reason_value r) ≡ r
reason_back Silence = refl
reason_back BadMac = refl
reason_back CardDeclined = refl

reversal_back : (p : ℕ) (v : Reversal) → SizedReversal v → reversal_of (reversal_values p v) ≡ v
reversal_back p v z =
    rw (request_back p v.request (reason_value v.reason) v.sendings z.request, reason_back v.reason, mod-eq_of_lt z.sendings)

phase_back : (p : Phase) (l : List ℕ) → SizedPhase p → phase_of (take 10 (phase_values p ++ l)) ≡ p
phase_back Resting l z = refl
phase_back (Waiting (awaited.Request q)) l z = ap (λ (r : Request). Waiting (awaited.Request r)) (request_back 1 q 0 0 z)
phase_back (Waiting (awaited.Reversal v)) l z = ap (λ (r : Reversal). Waiting (awaited.Reversal r)) (reversal_back 2 v z)
phase_back (Waiting (awaited.Settlement t)) l z = rw (mod-eq_of_lt z)
phase_back (Waiting (awaited.Item i)) l z = rw (mod-eq_of_lt z)
phase_back (Waiting (awaited.End t)) l z = rw (mod-eq_of_lt z)
phase_back (Pending v) l z = ap Pending (reversal_back 6 v z)
phase_back Settling l z = refl
phase_back Uploading l z = refl

length-phase : (p : Phase) → length (phase_values p) ≡ 10
length-phase Resting = refl
length-phase (Waiting (awaited.Request q)) = refl
length-phase (Waiting (awaited.Reversal v)) = refl
length-phase (Waiting (awaited.Settlement t)) = refl
length-phase (Waiting (awaited.Item i)) = refl
length-phase (Waiting (awaited.End t)) = refl
length-phase (Pending v) = refl
length-phase Settling = refl
length-phase Uploading = refl

-- what stands after the numbers of a phase
after-phase : (p : Phase) (l : List ℕ) (i : ℕ) → get_or (phase_values p ++ l) (10 + i) 0 ≡ get_or l i 0
after-phase p l i = rw (length-phase p) at (get_or-append-add (phase_values p) l i 0)

-- the numbers and the region of a state say that state
pub state_back : (s : State) → Sized s → state_of (values_of s) (region_of s.chip) ≡ s
unfolding state_of values_of
state_back s z =
    let k = chip_values s.chip ++ (s.sign_on.0 ∷ []) in
    rw (
      settings_back s.settings z.settings,
      flag_back s.signed_on,
      mod-eq_of_lt z.batch,
      mod-eq_of_lt z.next,
      mod-eq_of_lt z.entries,
      counts_back s.counts z.counts,
      totals_back s.totals z.totals,
      after-phase s.phase k 3,
      mod-eq_of_lt z.sign_on,
      drop_at (phase_values s.phase) k 10 (length-phase s.phase),
      chip_back s.chip z.chip,
      phase_back s.phase k z.phase,
    )

-- the widths of the ten rows of the phase
phase_widths : List ℕ
phase_widths = rows_from 21 10 widths

request-fits : (p : ℕ) (q : Request) (reason n : ℕ) → p < 256 → SizedRequest q → reason < 256 → n < 256
    → Fits phase_widths (request_values p q reason n)
unfolding widths phase_widths
request-fits p q reason n h z r m =
    (h, (z.kind, (z.amount, (z.number, (z.digits, (z.trace, (z.original, (r, (m, (omega arith, tt))))))))))

reason-small : (r : Reason) → reason_value r < 256
reason-small Silence = omega arith
reason-small BadMac = omega arith
reason-small CardDeclined = omega arith

plain_fits : (p x : ℕ) → p < 256 → x < 2 ^ 32 → Fits phase_widths (plain_values p x)
unfolding widths phase_widths
plain_fits p x h z =
    (h, (omega arith, (omega arith, (omega arith, (omega arith, (omega arith, (omega arith, (omega arith, (omega arith, (z, tt))))))))))

phase-fits : (p : Phase) → SizedPhase p → Fits phase_widths (phase_values p)
phase-fits Resting z = plain_fits 0 0 (omega arith) (omega arith)
phase-fits (Waiting (awaited.Request q)) z = request-fits 1 q 0 0 (omega arith) z (omega arith) (omega arith)
phase-fits (Waiting (awaited.Reversal v)) z =
    request-fits 2 v.request (reason_value v.reason) v.sendings (omega arith) z.request (reason-small v.reason) z.sendings
phase-fits (Waiting (awaited.Settlement t)) z = plain_fits 3 t.0 (omega arith) z
phase-fits (Waiting (awaited.Item i)) z = plain_fits 4 i (omega arith) (omega arith)
phase-fits (Waiting (awaited.End t)) z = plain_fits 5 t.0 (omega arith) z
phase-fits (Pending v) z =
    request-fits 6 v.request (reason_value v.reason) v.sendings (omega arith) z.request (reason-small v.reason) z.sendings
phase-fits Settling z = plain_fits 7 0 (omega arith) (omega arith)
phase-fits Uploading z = plain_fits 8 0 (omega arith) (omega arith)

flag_small : (on : Bool) → flag_value on < 256
flag_small true = omega arith
flag_small false = omega arith

settings_fit : (x : Settings) → SizedSettings x → Fits (rows_from 1 6 widths) (settings_values x)
unfolding widths
settings_fit x z =
    let first = word_below 8 x.merchant z.merchant_bytes in
    let last = word_below 7 (drop 8 x.merchant) (drop-bytes 8 x.merchant z.merchant_bytes) in
    (z.limit, (z.sendings, (z.refund, (word_below 8 x.terminal z.terminal_bytes, (first, (last, tt))))))

members_fit : (s : State) → Sized s → Fits (rows_from 7 4 widths) (member_values s)
unfolding widths
members_fit s z = (flag_small s.signed_on, (z.batch, (z.next, (z.entries, tt))))

counts_fit : (c : Counts) → SizedCounts c → Fits (rows_from 11 6 widths) (counts_values c)
unfolding widths
counts_fit c z = (z.sent, (z.approved, (z.declined, (z.reversed, (z.given_up, (z.unanswered, tt))))))

totals_fit : (t : Totals) → SizedTotals t → Fits (rows_from 17 4 widths) (totals_values t)
unfolding widths
totals_fit t z = (z.debit, (z.debits, (z.credit, (z.credits, tt))))

tail_fits : (s : State) → Sized s → Fits (rows_from 31 4 widths) (chip_values s.chip ++ (s.sign_on.0 ∷ []))
unfolding widths
tail_fits s z = (z.chip.count, (flag_small s.chip.approved, (z.chip.amount, (z.sign_on, tt))))

-- each number of a state fits its row
pub values_fit : (s : State) → Sized s → Fits widths (values_of s)
unfolding widths values_of phase_widths
values_fit s z =
    let x = settings_values s.settings in
    let m = member_values s in
    let c = counts_values s.counts in
    let t = totals_values s.totals in
    let p = phase_values s.phase in
    let k = chip_values s.chip ++ (s.sign_on.0 ∷ []) in
    let from21 = fits-append phase_widths p (rows_from 31 4 widths) k (phase-fits s.phase z.phase) (tail_fits s z) in
    let from17 = fits-append (rows_from 17 4 widths) t (rows_from 21 14 widths) (p ++ k) (totals_fit s.totals z.totals) from21 in
    let from11 = fits-append (rows_from 11 6 widths) c (rows_from 17 18 widths) (t ++ (p ++ k)) (counts_fit s.counts z.counts) from17 in
    let from7 = fits-append (rows_from 7 4 widths) m (rows_from 11 24 widths) (c ++ (t ++ (p ++ k))) (members_fit s z) from11 in
    (lit< tt, fits-append (rows_from 1 6 widths) x (rows_from 7 28 widths) (m ++ (c ++ (t ++ (p ++ k)))) (settings_fit s.settings z.settings) from7)

-- the ten numbers of a phase, one by one
phase-listed : (p : Phase) (rest : List ℕ) → get_or (phase_values p) 0 0 ∷ get_or (phase_values p) 1 0 ∷ get_or (phase_values p) 2 0 ∷ get_or (phase_values p) 3 0 ∷ get_or (phase_values p) 4 0 ∷ get_or (phase_values p) 5 0 ∷ get_or (phase_values p) 6 0 ∷ get_or (phase_values p) 7 0 ∷ get_or (phase_values p) 8 0 ∷ get_or (phase_values p) 9 0 ∷ rest ≡ phase_values p ++ rest
phase-listed Resting rest = refl
phase-listed (Waiting (awaited.Request q)) rest = refl
phase-listed (Waiting (awaited.Reversal v)) rest = refl
phase-listed (Waiting (awaited.Settlement t)) rest = refl
phase-listed (Waiting (awaited.Item i)) rest = refl
phase-listed (Waiting (awaited.End t)) rest = refl
phase-listed (Pending v) rest = refl
phase-listed Settling rest = refl
phase-listed Uploading rest = refl

-- the numbers of a state, listed one by one
pub values_listed : (s : State) {x m c t p k : List ℕ} → x ≡ settings_values s.settings → m ≡ member_values s
    → c ≡ counts_values s.counts → t ≡ totals_values s.totals → p ≡ phase_values s.phase → k ≡ chip_values s.chip
    → version
    ∷ get_or x 0 0 ∷ get_or x 1 0 ∷ get_or x 2 0 ∷ get_or x 3 0 ∷ get_or x 4 0 ∷ get_or x 5 0
    ∷ get_or m 0 0 ∷ get_or m 1 0 ∷ get_or m 2 0 ∷ get_or m 3 0
    ∷ get_or c 0 0 ∷ get_or c 1 0 ∷ get_or c 2 0 ∷ get_or c 3 0 ∷ get_or c 4 0 ∷ get_or c 5 0
    ∷ get_or t 0 0 ∷ get_or t 1 0 ∷ get_or t 2 0 ∷ get_or t 3 0
    ∷ get_or p 0 0 ∷ get_or p 1 0 ∷ get_or p 2 0 ∷ get_or p 3 0 ∷ get_or p 4 0 ∷ get_or p 5 0 ∷ get_or p 6 0 ∷ get_or p 7 0 ∷ get_or p 8 0 ∷ get_or p 9 0
    ∷ get_or k 0 0 ∷ get_or k 1 0 ∷ get_or k 2 0
    ∷ s.sign_on.0 ∷ []
    ≡ values_of s
unfolding values_of
values_listed s ex em ec et ep ek = rw (ex, em, ec, et, ep, ek, phase-listed s.phase (chip_values s.chip ++ (s.sign_on.0 ∷ [])))

-- field 42, put as two numbers into 15 bytes
pub merchant_put : (x y : ℕ) {a b : List ℕ} → a ≡ bytes_of 8 x → b ≡ bytes_of (length (take 7 (drop 8 (a ++ replicate 7 0)))) y
    → put_mid 8 7 (a ++ replicate 7 0) b ≡ merchant_of x y
merchant_put x y {a} {b} e q =
    let l : length a ≡ 8 = ap length e ∙ length_bytes_of 8 x in
    let d = drop_at a (replicate 7 0) 8 l in
    let r : b ≡ bytes_of 7 y = q ∙ rw d in
    rw (take_at a (replicate 7 0) 8 l, d, append-nil, r, e)
