-- The statements of specs/Theorems.antt.
use mathlib.Core.Path.{◌≡◌, refl, ap, sym, ◌∙◌}
use mathlib.Core.List.{List}
use mathlib.Core.Bool.{Bool, true, false, cond, true≢false}
use Prim.Native.Nat.{ℕ}
use native.Mathlib.Omega.{arith}
use lib.Dec.{eqb}
use borrow.Author.Tests.{not-false, eq-eqb, eqb-true}
use Rattle.checks.specs.Checks.{first_broken}
use Rattle.checks.proofs.Choices.{passed}
use Rattle.kinds.specs.Sums.{together}
use Rattle.journal.specs.Journal.{entries_of, batch_sums, totals_of}
use Rattle.state.specs.declared.State.{State}
use Rattle.state.specs.declared.Outcome.{Outcome}
use Rattle.state.specs.declared.Outcome.TheVariants.{Send, Quiet, Refused}
use Rattle.state.specs.Calls.{Lent}
use Rattle.image_definitions.specs.Image.{totals_values, image, read_image}
use Rattle.image_definitions.specs.Image.{Reading}
use Rattle.image_definitions.specs.Sized.{Bytes, Sized}
use Rattle.image_definitions.proofs.Theorems.{image-reads_back, read_images_back}
use Rattle.rules.specs.Rules.{report_rules}
use Rattle.rules.proofs.InOrder.{keeps_rule2_lem}
use Rattle.call_definitions.specs.Events.{Event, call}
use Rattle.call_definitions.specs.Shapes.{SettingsShaped, EventShaped}
use Rattle.call_theorems.specs.Facts.{Leaves}
use Rattle.call_theorems.proofs.Facts.{refused_changes_nothing, sent-reads}
use Rattle.interface_definitions.specs.Interface.{done, out_of_form, sends, Given, number_of, length_of, given, no_image, on_image, returned, totals_on, sums_values, reported, sums_on}
use Rattle.interface_definitions.specs.Theorems.{OnStates, Other, Unchanged, OthersChangeNothing, SendsAMessage, in_two, SumsMakeTotals}
use Rattle.interface_definitions.proofs.Numbers.{numbers_apart}

pub on_states : OnStates
unfolding on_image
on_states e s lent z = rw (image-reads_back s z)

-- bytes that are accepted: a state within its sizes, and they are its image
accepted_sized : (b : List ℕ) → Bytes b → (read_image b).accepted ≡ true → Sized (read_image b).state × (image (read_image b).state ≡ b)
accepted_sized b w h = read_images_back b (read_image b).state w (ap reading h)
  where
    reading : Bool → Reading
    reading x = record { accepted = x; state = (read_image b).state }

-- what holds of the call on such a state, and of the refusal of other bytes
either : (P : Given → Type 0) (e : Event) (b : List ℕ) (lent : Lent)
    → ((read_image b).accepted ≡ true → P (given (call e (read_image b).state lent))) → P (no_image b lent) → P (on_image e b lent)
unfolding on_image
either P e b lent p q = go (read_image b).accepted refl
  where
    go : (x : Bool) → (read_image b).accepted ≡ x → P (cond x (given (call e (read_image b).state lent)) (no_image b lent))
    go true h = p h
    go false h = q

module _ (e : Event) (s : State) (lent : Lent) where
  call_unchanged : (o : Outcome) → (call e s lent).outcome ≡ o → Other (number_of o) → Unchanged (image s) lent (given (call e s lent))
  call_unchanged (Send k) q h = absurd (h.1 refl)
  call_unchanged Quiet q h = absurd (h.0 refl)
  call_unchanged (Refused k) q h =
      rw (refused_changes_nothing e s lent k q) (record { length_is = refl; image_is = refl; lent_is = refl })

  call-sends : (o : Outcome) → (call e s lent).outcome ≡ o → SettingsShaped s.settings → EventShaped e → number_of o ≡ sends
      → Leaves (length_of o) (call e s lent).lent.message lent.message
  call-sends (Send k) q x y h = sent-reads e s lent k x y q
  call-sends Quiet q x y h = absurd (omega arith)
  call-sends (Refused n) q x y h = let z = numbers_apart e s lent n q in absurd (omega arith)

pub others_change_nothing : OthersChangeNothing
others_change_nothing e b lent w =
    either (λ g. Other g.number → Unchanged b lent g) e b lent
    (λ h o. rw (accepted_sized b w h).1 at (call_unchanged e (read_image b).state lent _ refl o))
    (λ o. record { length_is = refl; image_is = refl; lent_is = refl })

pub sends-a-message : SendsAMessage
sends-a-message e b lent w y =
    either (λ g. g.number ≡ sends → Leaves g.length g.lent.message lent.message) e b lent
    (λ h. let z = (accepted_sized b w h).0.settings in
    call-sends e (read_image b).state lent _ refl (record { terminal_length = z.terminal; merchant_length = z.merchant }) y)
    (λ h. absurd (omega arith))

-- a report is made where the journal passes rule 2, so its sums are the totals
report_adds_up : (s : State) (j : List ℕ) → first_broken (report_rules s j) ≡ 0 → s.totals ≡ totals_of (entries_of s.entries j)
report_adds_up s j h =
    (keeps_rule2_lem s (entries_of s.entries j) (not-false _ (passed 2 (report_rules s j) refl h))).state.totals

pub sums_make_totals : SumsMakeTotals
unfolding sums_on totals_on together
sums_make_totals b j x t = go (read_image b).accepted (read_image b).state
  where
    judged : (s : State) (n : ℕ) (y : Bool) → eqb n done ≡ y → n ≡ first_broken (report_rules s j)
        → (cond y (returned done (sums_values (batch_sums (entries_of s.entries j)))) (returned n x)).number ≡ done
        → totals_values s.totals ≡ in_two (cond y (returned done (sums_values (batch_sums (entries_of s.entries j)))) (returned n x)).left
    judged s n true e p h = rw (report_adds_up s j (sym p ∙ eqb-true n done e)) refl
    judged s n false e p h = absurd (true≢false (sym (eq-eqb n done h) ∙ e))

    go : (a : Bool) (s : State)
        → (cond a (reported (first_broken (report_rules s j)) s j x) (returned out_of_form x)).number ≡ done
        → (cond a (returned done (totals_values s.totals)) (returned out_of_form t)).left
        ≡ in_two (cond a (reported (first_broken (report_rules s j)) s j x) (returned out_of_form x)).left
    go true s h = judged s (first_broken (report_rules s j)) (eqb (first_broken (report_rules s j)) done) refl refl h
    go false s h = absurd (omega arith)
