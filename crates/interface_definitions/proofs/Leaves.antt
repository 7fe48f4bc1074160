-- What the functions find and write is what the definitions say.
use Rattle.std.specs.Prelude.{Option, Some, None, Result as Attempt, Ok, Err}
use Rattle.checks.specs.Refusals.{number_of, refused_by}
use Rattle.checks.specs.declared.Refusal.{Refusal}
use Rattle.checks.proofs.Refusals.{number_positive}
use mathlib.Core.Path.{◌≡◌}
use mathlib.Core.List.{List}
use mathlib.Core.Bool.{true, false}
use Prim.Native.Nat.{ℕ, ◌≤◌, ◌<◌}
use lib.ListN.{length, get_or}
use borrow.Author.Tests.{eq-eqb, ne_eqb, lt-ltb, le-ltb}
use Rattle.message.specs.Message.{field_of}
use Rattle.message.specs.declared.Message.{Message}
use Rattle.reading.specs.Reading.{read_message, reading_of}
use Rattle.parts.specs.Parts.{taken, with_taken}
use Rattle.parts.specs.declared.NotTaken.{NotTaken}
use Rattle.state.specs.declared.Settings.{Settings}
use Rattle.state.specs.declared.State.{State}
use Rattle.state.specs.State.{fresh}
use Rattle.state.specs.Calls.{Lent, Result}
use Rattle.image_definitions.specs.Layout.{rows, size}
use Rattle.image_definitions.specs.Image.{totals_values, values_of, image, read_image, reading_of as image_reading}
use Rattle.image_definitions.proofs.Found.{accepted-length}
use Rattle.kinds.specs.declared.sums.Sums.{Sums}
use Rattle.journal.specs.Journal.{entries_of, batch_sums}
use Rattle.checks.specs.Checks.{first_broken}
use Rattle.rules.specs.Rules.{report_rules}
use Rattle.call_definitions.specs.Events.{Event, call}
use Rattle.interface_definitions.specs.Interface.{done, out_of_form, given, no_image, on_image, returned, fresh_image, number_at, totals_on, sums_values, sums_on, held, taken_number, taken_count, field_at}

-- a fresh terminal
module _ (x : Settings) (b : List ℕ) where
  pub no_room : (length b ≡ size → ⊥) → returned out_of_form b ≡ fresh_image x b
  unfolding fresh_image
  no_room h = rw (ne_eqb (length b) size h)

  pub fresh_put : {s : State} {i : List ℕ} → length b ≡ size → s ≡ fresh x → i ≡ image s → returned done i ≡ fresh_image x b
  unfolding fresh_image
  fresh_put h p q = rw (eq-eqb (length b) size h, q, p)

-- there is no such row
pub no_row : (b : List ℕ) (row x : ℕ) → rows ≤ row → returned out_of_form x ≡ number_at b row x
unfolding number_at
no_row b row x h = rw (le-ltb row rows h)

-- bytes that were read as an image
module _ (b : List ℕ) {r : Option State} (q : image_reading r ≡ read_image b) where
  pub image_long : {s : State} → r ≡ Some s → length b ≡ size
  image_long h = accepted-length b (rw (← q, h))

  pub not_called : (e : Event) (lent : Lent) → r ≡ None → no_image b lent ≡ on_image e b lent
  unfolding on_image
  not_called e lent h = rw (← q, h)

  pub called : (e : Event) (lent : Lent) {s : State} {x : Result} → r ≡ Some s → x ≡ call e s lent → given x ≡ on_image e b lent
  unfolding on_image
  called e lent h p = rw (p, ← q, h)

  pub no_number : (row x : ℕ) → row < rows → r ≡ None → returned out_of_form x ≡ number_at b row x
  unfolding number_at
  no_number row x l h = rw (lt-ltb row rows l, ← q, h)

  pub number_read : (row x : ℕ) {s : State} {v : List ℕ} → row < rows → r ≡ Some s → v ≡ values_of s
      → returned done (get_or v row 0) ≡ number_at b row x
  unfolding number_at
  number_read row x l h p = rw (lt-ltb row rows l, p, ← q, h)

  pub no_totals : (x : List ℕ) → r ≡ None → returned out_of_form x ≡ totals_on b x
  unfolding totals_on
  no_totals x h = rw (← q, h)

  pub totals-read : (x : List ℕ) {s : State} → r ≡ Some s → returned done (totals_values s.totals) ≡ totals_on b x
  unfolding totals_on
  totals-read x h = rw (← q, h)

  pub no_sums : (j x : List ℕ) → r ≡ None → returned out_of_form x ≡ sums_on b j x
  unfolding sums_on
  no_sums j x h = rw (← q, h)

  -- a report that is judged
  module _ (j x : List ℕ) {s : State} {k : Attempt (Unit {0}) Refusal} (h : r ≡ Some s) (p : refused_by k ≡ first_broken (report_rules s j)) where
    pub sums-refused : {e : Refusal} → k ≡ Err e → returned (number_of e) x ≡ sums_on b j x
    unfolding sums_on
    sums-refused {e} g = let n = rw g at p in rw (← q, h, ← n, ne_eqb (number_of e) done (number_positive e))

    pub sums-read : {u : Unit {0}} {y : Sums} {v : List ℕ} → k ≡ Ok u → y ≡ batch_sums (entries_of s.entries j) → v ≡ sums_values y
        → returned done v ≡ sums_on b j x
    unfolding sums_on
    sums-read g d w = let n = rw g at p in rw (← q, h, ← n, w, d)

-- bytes that were read as a message
module _ (b : List ℕ) (n k : ℕ) (out : List ℕ) {r : Attempt Message Refusal} (q : reading_of r ≡ read_message b) where
  pub not_read : {e : Refusal} → r ≡ Err e → returned (number_of e) (held k out) ≡ field_at b n (held k out)
  unfolding field_at
  not_read h = rw (← q, h)

  pub field-taken : {m : Message} {t v : Attempt ℕ NotTaken} {o : List ℕ} → r ≡ Ok m → t ≡ taken m n (length out)
      → o ≡ with_taken (taken m n (length out)) (field_of m n).bytes out → t ≡ v
      → returned (taken_number v) (held (taken_count v k) o) ≡ field_at b n (held k out)
  unfolding field_at
  field-taken h e p a = rw (p, ← q, h, ← e, a)
