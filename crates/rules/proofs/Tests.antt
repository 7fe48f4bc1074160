-- Laws of the tests of rule 2, for the functions that equal them.
use Rattle.std.specs.Prelude.{Some, None, Option}
use Rattle.std.specs.Option.{is_some}
use mathlib.Core.Path.{◌≡◌, refl, sym, ap, ◌∙◌}
use mathlib.Core.List.{List, [], ◌∷◌}
use mathlib.Core.Bool.{Bool, true, false, not, ◌&&◌, true≢false}
use Prim.Native.Nat.{ℕ, suc}
use Rattle.entry.specs.Form.{in_form, due_entry, keeps_voided, keeps_unmarked, keeps_resends, keeps_silent, fits}
use Rattle.entry.specs.declared.Entry.{Entry}
use Rattle.journal.specs.Journal.{every, first_of, asked, has_trace, is_at, fits_at, totals_of, absent, distinct, nowhere}
use Rattle.journal.specs.declared.Query.TheVariants.{Trace as OfTrace}
use Rattle.numbers.specs.declared.Trace.{Trace}
use Rattle.journal.proofs.Traces.{absent-first, first_absent}
use Rattle.rules.specs.Rules.{journal_kept}
use Rattle.state_rules.specs.StateRules.{sums_kept}

-- a search that finds nothing
pub nowhere_absent : (x : ℕ) (es : List Entry) → nowhere (first_of (has_trace x) 0 es) ≡ absent x es
nowhere_absent x es = go (absent x es) refl (first_of (has_trace x) 0 es) refl
  where
    go : (b : Bool) → absent x es ≡ b → (f : Option ℕ) → first_of (has_trace x) 0 es ≡ f → nowhere f ≡ b
    go true e (Some i) h = ap nowhere (sym h ∙ absent-first x es e)
    go true e None h = refl
    go false e (Some i) h = refl
    go false e None h = sym (first_absent x es h) ∙ e

-- the search for a trace, which finds nothing
pub none_absent : (x : Trace) (es : List Entry) {f : Option ℕ} {b : Bool} → f ≡ first_of (asked (OfTrace x)) 0 es → is_some f ≡ not b → b ≡ absent x.0 es
none_absent x es {f} {b} e h = go f b e h ∙ nowhere_absent x.0 es
  where
    go : (f : Option ℕ) (b : Bool) → f ≡ first_of (has_trace x.0) 0 es → is_some f ≡ not b → b ≡ nowhere (first_of (has_trace x.0) 0 es)
    go None true e h = rw (← e)
    go None false e h = absurd (true≢false (sym h))
    go (Some i) true e h = absurd (true≢false h)
    go (Some i) false e h = rw (← e)

-- one pass over the entries tests all that is about each alone
cross : (a b x y : Bool) → ((a && b) && (x && y)) ≡ ((a && x) && (b && y))
cross false b x y = refl
cross true false false y = refl
cross true false true y = refl
cross true true false y = refl
cross true true true y = refl

every_both : (p q : ℕ → Entry → Bool) (i : ℕ) (es : List Entry) → every (λ k e. p k e && q k e) i es ≡ (every p i es && every q i es)
every_both p q i [] = refl
every_both p q i (e ∷ es) = rw (every_both p q (suc i) es) (cross (p i e) (q i e) (every p (suc i) es) (every q (suc i) es))

pub every-fits : (l : ℕ) (up : Bool) (item : Option ℕ) (es : List Entry)
    → every (fits_at l up item) 0 es
    ≡ (every (λ i e. in_form e) 0 es && every (λ i e. keeps_voided e) 0 es && every (λ i e. keeps_unmarked due_entry up e) 0 es
    && every (λ i e. keeps_resends l e) 0 es && every (λ i e. keeps_silent l (is_at item i) e) 0 es)
unfolding fits
every-fits l up item es =
    rw (
      every_both (λ i e. in_form e && keeps_voided e && keeps_unmarked due_entry up e && keeps_resends l e) (λ i e. keeps_silent l (is_at item i) e) 0 es,
      every_both (λ i e. in_form e && keeps_voided e && keeps_unmarked due_entry up e) (λ i e. keeps_resends l e) 0 es,
      every_both (λ i e. in_form e && keeps_voided e) (λ i e. keeps_unmarked due_entry up e) 0 es,
      every_both (λ i e. in_form e) (λ i e. keeps_voided e) 0 es,
    )

-- the tests of the journal in the order of the code, and in the page's
pub joined : (f g h k m d s : Bool)
    → ((f && g && h && k && m) && d && s) ≡ (f && (d && (g && (s && (h && (k && (m && true)))))))
joined false g h k m d s = refl
joined true false h k m false s = refl
joined true false h k m true s = refl
joined true true false k m false s = refl
joined true true false k m true false = refl
joined true true false k m true true = refl
joined true true true false m false s = refl
joined true true true false m true false = refl
joined true true true false m true true = refl
joined true true true true false false s = refl
joined true true true true false true false = refl
joined true true true true false true true = refl
joined true true true true true false s = refl
joined true true true true true true false = refl
joined true true true true true true true = refl

pub journal_kept_is : (l : ℕ) (uploading : Bool) (item : Option ℕ) (es : List Entry)
    → (every (fits_at l uploading item) 0 es && distinct es && sums_kept (totals_of es)) ≡ journal_kept l due_entry uploading item es
unfolding journal_kept
journal_kept_is l uploading item es =
    rw (every-fits l uploading item es)
    (joined (every (λ i e. in_form e) 0 es) (every (λ i e. keeps_voided e) 0 es) (every (λ i e. keeps_unmarked due_entry uploading e) 0 es)
    (every (λ i e. keeps_resends l e) 0 es) (every (λ i e. keeps_silent l (is_at item i) e) 0 es) (distinct es) (sums_kept (totals_of es)))
