-- The card of an entry, unpacked into the front of a larger array.
use Rattle.std.proofs.Common.{◌≡◌, ℕ, ◌≤◌, List, ◌++◌, length, take, drop, Option, unwrap_or, length-take-le}
use Rattle.digits.specs.Digits.{unpack}
use Rattle.digits.specs.Numbers.{number_of}
use Rattle.digits.specs.Packed.{packed_number}
use Rattle.digits.proofs.Lists.{front_back}
use Rattle.digits.proofs.Packing.{length-unpack}
use Rattle.entry.specs.declared.Entry.{Entry}
use Rattle.state.specs.declared.Card.{Card}
use Rattle.approval.specs.Cards.{card_of}

pub card_is : (e : Entry) (z : List ℕ) {n w : ℕ} {x : List ℕ} {v : Option ℕ} → n ≡ e.digits → n ≤ length z
    → x ≡ unpack (length (take n z)) e.card → v ≡ number_of (take n (x ++ drop n z)) → w ≡ unwrap_or v 0
    → ◌≡◌ {A = Card} (record { number = w; length = e.digits }) (card_of e)
unfolding packed_number
card_is e z {n} {w} {x} p h u q r =
    let t : length (take n z) ≡ n = length-take-le n z h in
    let k : x ≡ unpack n e.card = rw t at u in
    let l : length x ≡ length (take n z) = rw (t, k) (length-unpack n e.card) in
    rw (r, q, front_back n x z l h, k, p)
