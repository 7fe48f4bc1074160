-- The state that the numbers of bytes say is within the sizes of its types.
use mathlib.Core.Path.{◌≡◌, refl, ◌∙◌}
use mathlib.Core.List.{List}
use Prim.Native.Nat.{ℕ, zero, suc, ◌+◌, ◌^◌, ◌≤◌, ◌<◌}
use native.Mathlib.Decide.{dec_lt}
use native.Mathlib.Omega.{arith}
use lib.Dec.{leb}
use lib.ListN.{get_or, length-append}
use lib.Seq.{get_or-take, get_or-drop}
use borrow.Author.Tests.{leb-true}
use Rattle.digits.proofs.Lists.{all-at, get_d_past}
use Rattle.state.specs.declared.Phase.TheVariants.{Resting}
use Rattle.image_definitions.specs.Layout.{widths, rows, bytes_of}
use Rattle.image_definitions.specs.Image.{rows_from, settings_of, counts_of, totals_in, request_of, reversal_of, phases_of, state_of}
use Rattle.image_definitions.specs.Sized.{Bytes, SizedSettings, SizedCounts, SizedTotals, SizedRequest, SizedReversal, SizedPhase, Sized}
use Rattle.image_definitions.proofs.Laid.{length_bytes_of, append-bytes, bytes_of_bytes}
use Rattle.image_definitions.proofs.Region.{sized_chip}

pub rows_at : (at n : ℕ) (v : List ℕ) (i : ℕ) → i < n → get_or (rows_from at n v) i 0 ≡ get_or v (at + i) 0
rows_at at n v i h = get_or-take n _ i 0 h ∙ get_or-drop at v i 0

sized_settings : (v : List ℕ) → get_or v 2 0 < 2 ^ 64 → SizedSettings (settings_of v)
sized_settings v h =
    let first = bytes_of 8 (get_or v 4 0) in
    let second = bytes_of 7 (get_or v 5 0) in
    record {
      limit = omega arith;
      sendings = omega arith;
      refund = h;
      terminal = length_bytes_of 8 (get_or v 3 0);
      terminal_bytes = bytes_of_bytes 8 (get_or v 3 0);
      merchant = length-append first second ∙ rw (length_bytes_of 8 (get_or v 4 0), length_bytes_of 7 (get_or v 5 0));
      merchant_bytes = append-bytes first second (bytes_of_bytes 8 (get_or v 4 0)) (bytes_of_bytes 7 (get_or v 5 0));
    }

sized_counts : (v : List ℕ) → SizedCounts (counts_of v)
sized_counts v =
    record {
      sent = omega arith;
      approved = omega arith;
      declined = omega arith;
      reversed = omega arith;
      given_up = omega arith;
      unanswered = omega arith;
    }

sized_totals : (v : List ℕ) → get_or v 0 0 < 2 ^ 64 → get_or v 2 0 < 2 ^ 64 → SizedTotals (totals_in v)
sized_totals v debit credit = record { debit = debit; debits = omega arith; credit = credit; credits = omega arith }

module _ (v : List ℕ) (amount : get_or v 2 0 < 2 ^ 64) (card : get_or v 3 0 < 2 ^ 64) where
  sized_request : SizedRequest (request_of v)
  sized_request =
      record { kind = omega arith; amount = amount; number = card; digits = omega arith; trace = omega arith; original = omega arith }

  sized_reversal : SizedReversal (reversal_of v)
  sized_reversal = record { request = sized_request; sendings = omega arith }

  sized_phase : (p : ℕ) → SizedPhase (get_or (phases_of v) p Resting)
  sized_phase zero = tt
  sized_phase (suc zero) = sized_request
  sized_phase (suc (suc zero)) = sized_reversal
  sized_phase (suc (suc (suc zero))) = omega arith
  sized_phase (suc (suc (suc (suc zero)))) = omega arith
  sized_phase (suc (suc (suc (suc (suc zero))))) = omega arith
  sized_phase (suc (suc (suc (suc (suc (suc zero)))))) = sized_reversal
  sized_phase (suc (suc (suc (suc (suc (suc (suc zero))))))) = tt
  sized_phase (suc (suc (suc (suc (suc (suc (suc (suc zero)))))))) = tt
  sized_phase (suc (suc (suc (suc (suc (suc (suc (suc (suc p))))))))) = tt

-- numbers that fit their rows, and bytes, say a state within its sizes
pub sized_state : (v r : List ℕ) → ((i : ℕ) → get_or v i 0 < 256 ^ get_or widths i 0) → Bytes r → Sized (state_of v r)
unfolding widths state_of
sized_state v r below s =
    record {
      settings = sized_settings (rows_from 1 6 v) (rw (rows_at 1 6 v 2 (omega arith)) (below 3));
      sign_on = omega arith;
      batch = omega arith;
      next = omega arith;
      entries = omega arith;
      counts = sized_counts (rows_from 11 6 v);
      totals = sized_totals (rows_from 17 4 v) (rw (rows_at 17 4 v 0 (omega arith)) (below 17)) (rw (rows_at 17 4 v 2 (omega arith)) (below 19));
      chip = sized_chip (rows_from 31 3 v) r (rw (rows_at 31 3 v 2 (omega arith)) (below 33)) s;
      phase =
          sized_phase (rows_from 21 10 v) (rw (rows_at 21 10 v 2 (omega arith)) (below 23)) (rw (rows_at 21 10 v 3 (omega arith)) (below 24))
          (get_or (rows_from 21 10 v) 0 0);
    }

-- no row is wider than 64 bits
pub width_small : (k : ℕ) → get_or widths k 0 ≤ 8
unfolding widths
width_small k = go (dec_lt k rows)
  where
    go : Dec (k < rows) → get_or widths k 0 ≤ 8
    go (yes h) = leb-true _ _ (all-at (λ i. leb (get_or widths i 0) 8) rows refl k h)
    go (no h) = rw (get_d_past widths k (omega arith)) (omega arith)
