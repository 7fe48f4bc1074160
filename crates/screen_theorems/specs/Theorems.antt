-- Document 02, request 2: what a screen shows of the totals is, at any moment, what the history gives.
use Rattle.std.specs.Prelude.{◌≡◌, List, [], ◌∷◌, ◌++◌, ℕ}
use Rattle.texts.specs.Decimal.{decimal}
use Rattle.texts.specs.Text.{text}
use Rattle.state.specs.declared.Settings.{Settings}
use Rattle.state.specs.Calls.{Lent}
use Rattle.image_definitions.specs.Image.{image}
use Rattle.image_definitions.specs.Sized.{Sized}
use Rattle.interface_definitions.specs.Interface.{returned, number_at, totals_on}
use Rattle.call_definitions.specs.Shapes.{SettingsShaped}
use Rattle.history.specs.History.{Request, batch_of, count, amount, approved_debit, approved_credit}
use Rattle.history.specs.Demand.{Invocation, Run, runs, begun, InvocationsShaped}
use Rattle.stage.specs.declared.Rehearsal.{Rehearsal}
use Rattle.script.specs.declared.Show.TheVariants as show
use Rattle.lines.specs.Shows.{shown}

-- of a terminal after every list of calls from a fresh one of any settings, with the card requests of its batch in the history
abbrev pub Always : (Run → List Request → Type 0) → Type 0
Always P = (x : Settings) (j : List ℕ) (ts : List Invocation) → SettingsShaped x → InvocationsShaped ts
    → (let r = runs ts (begun x j) in P r (batch_of x.sendings r.history))

-- the line that a rehearsal shows
abbrev pub LineOfHistory : Type 0
LineOfHistory = Always (λ r rs. (h : Rehearsal) (lent : Lent) → h.state ≡ r.state
    → shown show.Totals h lent
    ≡ text "totals debit " ++ decimal (amount approved_debit rs) ++ text " " ++ decimal (count approved_debit rs)
    ++ text " credit " ++ decimal (amount approved_credit rs) ++ text " " ++ decimal (count approved_credit rs) ++ text "\n")

-- the four numbers that C reads in the image, whatever stood where they are put
pub record NumbersForC (b : List ℕ) (rs : List Request) : Type 0 where
  pub all : (old : List ℕ)
      → totals_on b old
      ≡ returned 0 (amount approved_debit rs ∷ count approved_debit rs ∷ amount approved_credit rs ∷ count approved_credit rs ∷ [])
  pub debit_amount : (old : ℕ) → number_at b 17 old ≡ returned 0 (amount approved_debit rs)
  pub debit_count : (old : ℕ) → number_at b 18 old ≡ returned 0 (count approved_debit rs)
  pub credit_amount : (old : ℕ) → number_at b 19 old ≡ returned 0 (amount approved_credit rs)
  pub credit_count : (old : ℕ) → number_at b 20 old ≡ returned 0 (count approved_credit rs)

abbrev pub ImageOfHistory : Type 0
ImageOfHistory = Always (λ r rs. Sized r.state → NumbersForC (image r.state) rs)
