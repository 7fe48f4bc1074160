-- The rules of start, asked in parts; what follows from none being broken.
use Rattle.std.specs.Prelude.{Option}
use mathlib.Core.Path.{◌≡◌, refl, sym, ◌∙◌}
use mathlib.Core.List.{List, [], ◌∷◌, ◌++◌}
use mathlib.Core.Bool.{Bool, true, false, not, ◌&&◌, true≢false}
use Prim.Native.Nat.{ℕ}
use Rattle.elements.specs.Elements.{chip_in_form}
use Rattle.kinds.specs.Kinds.{takes_original}
use Rattle.kinds.specs.declared.Totals.{Totals}
use Rattle.entry.specs.declared.Entry.{Entry}
use Rattle.journal.specs.Journal.{entries_of, nowhere, totals_of}
use Rattle.state.specs.declared.State.{State}
use Rattle.state.specs.Calls.{Lent}
use Rattle.checks.specs.Checks.{Rule, rule, first_broken}
use Rattle.checks.proofs.Choices.{numbered, first_stops, first_goes, passed}
use Rattle.rules.specs.Rules.{rules12, too_short, keeps_rule2}
use Rattle.rules.proofs.InOrder.{Fit, fit}
use Rattle.desk.specs.declared.Desk.{Desk}
use Rattle.call_definitions.specs.Start.{original_of, start_rules}
use Rattle.desk.specs.DeskRules.{sends_field55, chip_rules, desk_in_form, rest_rules, desk_rules, journal_rules}

-- none of the rules of one list is broken, and the next is asked
later : (rs qs : List Rule) (n k : ℕ) → numbered rs ≡ true → n ≡ first_broken rs → n ≡ 0 → k ≡ first_broken qs → k ≡ first_broken (rs ++ qs)
later rs qs n k w e z h = h ∙ sym (first_goes rs qs n w e z)

module _ (d : Desk) (b : List ℕ) (s : State) (es : List Entry) (place : Option ℕ) (e : Entry) (lent : Lent) where
  abbrev after_rest : List Rule
  after_rest = desk_rules d s.settings.refund ++ journal_rules d s (totals_of es) (original_of d es) e

  abbrev after_first : List Rule
  after_first = chip_rules d b ++ (rest_rules s ++ after_rest)

  pub stops-chip : (u k : ℕ) → u ≡ first_broken (rules12 s lent) → u ≡ 0 → k ≡ first_broken (chip_rules d b) → (k ≡ 0 → ⊥)
      → k ≡ first_broken (start_rules d b s es e lent)
  stops-chip u k f z h n = later (rules12 s lent) after_first u k refl f z (first_stops (chip_rules d b) (rest_rules s ++ after_rest) k h n)

  pub stops-rest : (u v k : ℕ) → u ≡ first_broken (rules12 s lent) → u ≡ 0 → v ≡ first_broken (chip_rules d b) → v ≡ 0
      → k ≡ first_broken (rest_rules s) → (k ≡ 0 → ⊥) → k ≡ first_broken (start_rules d b s es e lent)
  stops-rest u v k f z i y h n =
      later (rules12 s lent) after_first u k refl f z
      (later (chip_rules d b) (rest_rules s ++ after_rest) v k refl i y (first_stops (rest_rules s) after_rest k h n))

  pub stops_desk : (u v r k : ℕ) → u ≡ first_broken (rules12 s lent) → u ≡ 0 → v ≡ first_broken (chip_rules d b) → v ≡ 0
      → r ≡ first_broken (rest_rules s) → r ≡ 0
      → k ≡ first_broken (desk_rules d s.settings.refund) → (k ≡ 0 → ⊥) → k ≡ first_broken (start_rules d b s es e lent)
  stops_desk u v r k f z i w g y h n =
      later (rules12 s lent) after_first u k refl f z
      (later (chip_rules d b) (rest_rules s ++ after_rest) v k refl i w
      (later (rest_rules s) after_rest r k refl g y
      (first_stops (desk_rules d s.settings.refund) (journal_rules d s (totals_of es) (original_of d es) e) k h n)))

  pub asks-journal : (u v r w k : ℕ) (t : Totals) → t ≡ totals_of es → place ≡ original_of d es → u ≡ first_broken (rules12 s lent) → u ≡ 0 → v ≡ first_broken (chip_rules d b) → v ≡ 0
      → r ≡ first_broken (rest_rules s) → r ≡ 0
      → w ≡ first_broken (desk_rules d s.settings.refund) → w ≡ 0 → k ≡ first_broken (journal_rules d s t place e)
      → k ≡ first_broken (start_rules d b s es e lent)
  asks-journal u v r w k t q p f z j m g y i x h =
      later (rules12 s lent) after_first u k refl f z
      (later (chip_rules d b) (rest_rules s ++ after_rest) v k refl j m
      (later (rest_rules s) after_rest r k refl g y
      (later (desk_rules d s.settings.refund) (journal_rules d s (totals_of es) (original_of d es) e) w k refl i x
      (rw (q, p) at h))))

and-not : (a b : Bool) → a ≡ true → (a && b) ≡ false → b ≡ false
and-not true b e h = h
and-not false b e h = absurd (true≢false (sym e))

first-refusal-none : (s : State) (lent : Lent) → too_short s lent ≡ false → not (keeps_rule2 s (entries_of s.entries lent.journal)) ≡ false
    → first_broken (rules12 s lent) ≡ 0
unfolding first_broken
first-refusal-none s lent g h = rw (g, h)

chip-passes : (t : Bool) → t ≡ false → first_broken (rule 23 t ∷ []) ≡ 0
unfolding first_broken
chip-passes t h = rw h

-- no rule of start is broken
pub record Unbroken (d : Desk) (b : List ℕ) (s : State) (es : List Entry) (lent : Lent) : Type 0 where
  pub fits : Fit s lent
  pub chip : first_broken (chip_rules d b) ≡ 0
  pub keyed : desk_in_form d ≡ true
  pub found : takes_original d.kind ≡ true → nowhere (original_of d es) ≡ false

module _ (d : Desk) (b : List ℕ) (s : State) (e : Entry) (lent : Lent) where
  pub unbroken : first_broken (start_rules d b s (entries_of s.entries lent.journal) e lent) ≡ 0 → Unbroken d b s (entries_of s.entries lent.journal) lent
  unbroken z =
      record {
        fits = fit s lent (first-refusal-none s lent (passed 1 rs refl z) (passed 2 rs refl z));
        chip = chip-passes (sends_field55 d && not (chip_in_form b)) (passed 23 rs refl z);
        keyed = yes (desk_in_form d) (passed 16 rs refl z);
        found = λ t. and-not (takes_original d.kind) (nowhere (original_of d es)) t (passed 19 rs refl z);
      }
    where
      es : List Entry
      es = entries_of s.entries lent.journal

      rs : List Rule
      rs = start_rules d b s (entries_of s.entries lent.journal) e lent

      yes : (b : Bool) → not b ≡ false → b ≡ true
      yes true h = refl
      yes false h = absurd (true≢false h)
