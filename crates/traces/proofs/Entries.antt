-- Entries one by one, and their traces.
use Rattle.std.proofs.Common.{◌≡◌, refl, sym, ap, ◌∙◌, List, [], ◌∷◌, ◌++◌, ℕ, zero, suc, ◌<◌, map, length, get_or, take, arith}
use Rattle.numbers.specs.declared.Trace.{Trace}
use Rattle.entry.specs.Entry.{decode}
use Rattle.entry.specs.declared.Entry.{Entry}
use Rattle.journal.specs.Journal.{entry_at}
use Rattle.journal.proofs.Chunks.{entry-here}
use Rattle.traces.specs.Traces.{trace_at}

pub take-entry : (es : List Entry) (i : ℕ) → i < length es → take (suc i) es ≡ take i es ++ (entry_at es i ∷ [])
take-entry [] i h = absurd (omega arith)
take-entry (e ∷ es) zero h = refl
take-entry (e ∷ es) (suc i) h = rw (take-entry es i (omega arith))

pub entry-take : (es : List Entry) (i k : ℕ) → k < i → entry_at (take i es) k ≡ entry_at es k
entry-take es zero k h = absurd (omega arith)
entry-take [] (suc i) k h = refl
entry-take (e ∷ es) (suc i) zero h = refl
entry-take (e ∷ es) (suc i) (suc k) h = entry-take es i k (omega arith)

abbrev pub number : Trace → ℕ
number x = x.0

-- the trace of the entry that bytes hold
pub trace-here : {t : ℕ} (bs : List (List ℕ)) (i : ℕ) → i < length bs → t ≡ (decode (get_or bs i [])).trace.0 → t ≡ trace_at (map decode bs) i
unfolding trace_at
trace-here bs i h q = q ∙ ap (λ (e : Entry). e.trace.0) (sym (entry-here bs i [] h))
