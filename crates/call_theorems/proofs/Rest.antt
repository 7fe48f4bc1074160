-- Laws of the journal's bytes up to the last entry and after it, where a byte of an entry is changed or an entry is written.
use Rattle.std.specs.Prelude.{Some, None, Option}
use mathlib.Core.Path.{◌≡◌, refl, sym, ◌∙◌}
use mathlib.Core.List.{List, ◌++◌, append_assoc}
use mathlib.Core.Bool.{Bool, true, false, cond}
use Prim.Native.Nat.{ℕ, ◌+◌, ◌*◌, ◌-◌, ◌≤◌, ◌<◌}
use native.Mathlib.Omega.{arith}
use native.Mathlib.Decide.{dec_lt}
use lib.Dec.{eqb}
use lib.ListN.{length, replicate, length-append}
use lib.Seq.{take_at, drop_at, take-take, drop-drop, length-take-le, take-set-le, take-set-lt, drop-set-lt}
use Rattle.kinds.specs.Kinds.{takes_original}
use Rattle.entry.specs.Entry.{entry_size, encode}
use Rattle.entry.specs.Theorems.{Shaped}
use Rattle.entry.specs.declared.Entry.{Entry}
use Rattle.journal.specs.Journal.{entries_of, original_for, put_entry, set_byte}
use Rattle.journal.proofs.Entries.{length-entries_le, put_there, put_short, length-set_byte}
use Rattle.journal.proofs.Searches.{first_at}
use Rattle.message.specs.declared.Message.{Message}
use Rattle.state.specs.declared.Request.{Request}
use Rattle.approval.specs.Approval.{approval_of, approved_entry}
use Rattle.approval.proofs.Approval.{length-card, field-length}
use Rattle.effect_definitions.specs.JournalEffects.{voided_at, original_voided, resent}
use Rattle.call_theorems.specs.JournalRest.{up_to, after}

-- the entry of what any message says has its arrays' lengths
pub answer-shaped : (q : Request) (m : Message) → Shaped (approved_entry q (approval_of m))
unfolding approved_entry approval_of
answer-shaped q m =
    record {
      card_length = length-card q.card;
      date_length = field-length m 13 2 (replicate 2 0) refl;
      authorisation_length = field-length m 38 6 (replicate 6 0x20) refl;
      reference_length = field-length m 37 12 (replicate 12 0) refl;
      reserved_length = refl;
    }

-- an entry written after the last
module _ (n : ℕ) (x : Entry) (j : List ℕ) (w : length (encode x) ≡ entry_size) where
  written : entry_size * n + entry_size ≤ length j → put_entry n x j ≡ up_to n j ++ encode x ++ after (n + 1) j
  written h =
      let q : entry_size * (n + 1) ≡ entry_size * n + entry_size = omega arith in
      put_there n x j h ∙ sym (append_assoc (up_to n j) (encode x) _) ∙ rw q

  written-length : entry_size * n + entry_size ≤ length j → length (up_to n j ++ encode x) ≡ entry_size * (n + 1)
  written-length h =
      let t : length (up_to n j) ≡ entry_size * n = length-take-le (entry_size * n) j (omega arith) in
      rw length-append (omega arith)

  put_up_to : entry_size * n + entry_size ≤ length j → up_to (n + 1) (put_entry n x j) ≡ up_to n j ++ encode x
  put_up_to h = rw (written h) (take_at (up_to n j ++ encode x) (after (n + 1) j) (entry_size * (n + 1)) (written-length h))

  pub put_after : after (n + 1) (put_entry n x j) ≡ after (n + 1) j
  put_after = go (dec_lt (length j) (entry_size * n + entry_size))
    where
      there : entry_size * n + entry_size ≤ length j → after (n + 1) (put_entry n x j) ≡ after (n + 1) j
      there h = rw (written h) (drop_at (up_to n j ++ encode x) (after (n + 1) j) (entry_size * (n + 1)) (written-length h))

      go : Dec (length j < entry_size * n + entry_size) → after (n + 1) (put_entry n x j) ≡ after (n + 1) j
      go (yes h) = rw (put_short n x j h)
      go (no h) = there (omega arith)

-- two journals that agree up to the last entry agree there after the same change
module _ (n : ℕ) (i j : List ℕ) (e : up_to n i ≡ up_to n j) where
  pub fewer_agree : (k : ℕ) → k ≤ n → up_to k i ≡ up_to k j
  fewer_agree k l =
      sym (take-take (entry_size * k) (entry_size * n) i (omega arith)) ∙ rw e (take-take (entry_size * k) (entry_size * n) j (omega arith))

  pub set_agree : (k at x : ℕ) → up_to n (set_byte k at x i) ≡ up_to n (set_byte k at x j)
  unfolding set_byte
  set_agree k at x = go (dec_lt (entry_size * k + at) (entry_size * n))
    where
      below : entry_size * k + at < entry_size * n → up_to n (set_byte k at x i) ≡ up_to n (set_byte k at x j)
      below l = rw (take-set-lt (entry_size * n) i (entry_size * k + at) x l, take-set-lt (entry_size * n) j (entry_size * k + at) x l, e)

      beyond : entry_size * n ≤ entry_size * k + at → up_to n (set_byte k at x i) ≡ up_to n (set_byte k at x j)
      beyond l = rw (take-set-le (entry_size * n) i (entry_size * k + at) x l, take-set-le (entry_size * n) j (entry_size * k + at) x l) e

      go : Dec (entry_size * k + at < entry_size * n) → up_to n (set_byte k at x i) ≡ up_to n (set_byte k at x j)
      go (yes l) = below l
      go (no l) = beyond (omega arith)

  pub resent_agree : (k : ℕ) (x : Entry) → up_to n (resent k x i) ≡ up_to n (resent k x j)
  unfolding resent
  resent_agree k x = go (eqb x.mark 0)
    where
      go : (b : Bool) → up_to n (cond b i (set_byte k 3 (x.resends + 1) i)) ≡ up_to n (cond b j (set_byte k 3 (x.resends + 1) j))
      go true = e
      go false = set_agree k 3 (x.resends + 1)

  pub voided_agree : (q : Request) (es : List Entry) → up_to n (original_voided q es i) ≡ up_to n (original_voided q es j)
  unfolding original_voided
  voided_agree q es = go (takes_original q.kind) (original_for q.kind q.original.0 es)
    where
      go : (b : Bool) (f : Option ℕ) → up_to n (cond b (voided_at f i) i) ≡ up_to n (cond b (voided_at f j) j)
      go true (Some k) = set_agree k 1 1
      go true None = e
      go false f = e

  pub put_agree : (x : Entry) → length (encode x) ≡ entry_size → entry_size * n + entry_size ≤ length i → entry_size * n + entry_size ≤ length j
      → up_to (n + 1) (put_entry n x i) ≡ up_to (n + 1) (put_entry n x j)
  put_agree x w h k = rw (put_up_to n x i w h, put_up_to n x j w k, e)

-- what stands after the entries stays
pub later-after : (n m : ℕ) (i j : List ℕ) → n ≤ m → after n i ≡ after n j → after m i ≡ after m j
later-after n m i j l e =
    let d = entry_size * m - entry_size * n in
    let q : entry_size * m ≡ entry_size * n + d = omega arith in
    rw q (sym (drop-drop d (entry_size * n) i) ∙ rw e (drop-drop d (entry_size * n) j))

pub set_after : (n k at x : ℕ) (j : List ℕ) → k < n → at < entry_size → after n (set_byte k at x j) ≡ after n j
unfolding set_byte
set_after n k at x j l h = drop-set-lt (entry_size * n) j (entry_size * k + at) x (omega arith)

-- where the original of a request is voided
module _ (n : ℕ) (q : Request) (j : List ℕ) where
  pub voided-after : after n (original_voided q (entries_of n j) j) ≡ after n j
  unfolding original_voided
  voided-after = go (takes_original q.kind) (original_for q.kind q.original.0 (entries_of n j)) refl
    where
      go : (b : Bool) (f : Option ℕ) → original_for q.kind q.original.0 (entries_of n j) ≡ f → after n (cond b (voided_at f j) j) ≡ after n j
      go true (Some k) e = set_after n k 1 1 j (omega (arith, (first_at _ 0 (entries_of n j) k e).below, length-entries_le n j)) (omega arith)
      go true None e = refl
      go false f e = refl

  pub voided-length : (es : List Entry) → length (original_voided q es j) ≡ length j
  unfolding original_voided
  voided-length es = go (takes_original q.kind) (original_for q.kind q.original.0 es)
    where
      go : (b : Bool) (f : Option ℕ) → length (cond b (voided_at f j) j) ≡ length j
      go true (Some k) = length-set_byte k 1 1 j
      go true None = refl
      go false f = refl
