-- The statements of specs/Theorems.antt.
use mathlib.Core.Path.{◌≡◌, refl, sym, ◌∙◌}
use mathlib.Core.List.{[], ◌∷◌}
use mathlib.Core.Bool.{Bool, true, false, cond, true≢false}
use Prim.Native.Nat.{ℕ}
use native.Mathlib.Decide.{ℕ_discrete}
use native.Mathlib.Omega.{arith}
use lib.Dec.{leb}
use lib.Seq.{get_or-set_same}
use borrow.Author.Tests.{le-leb, lt-leb, ne_eqb}
use Rattle.journal.specs.Journal.{set_byte}
use Rattle.answer_match.specs.Match.{approves, closes_batch}
use Rattle.field.specs.Table.{among}
use Rattle.kinds.specs.Kinds.{is_never_reversed, is_debit, is_credit, side_of}
use Rattle.kinds.specs.Totals.{booked}
use Rattle.kinds.specs.declared.Totals.{Totals}
use Rattle.kinds.proofs.Booked.{booked-debit, booked-credit, booked_neither}
use Rattle.state.specs.State.{waits, closed, in_phase}
use Rattle.state.specs.declared.Phase.TheVariants.{Uploading}
use Rattle.state.specs.declared.State.{State}
use Rattle.state.specs.declared.Awaited.TheVariants as awaited
use Rattle.effect_definitions.specs.StateEffects.{adopts, pending_or_unanswered, failed, on_settlement, on_end}
use Rattle.effect_definitions.specs.JournalEffects.{silent, granted, on_request, resent}
use Rattle.effect_definitions.specs.Theorems.{KeptOnceUsed, RequestsCounted, SendingsCounted, PendingBelowL, FreeAtL, SettlementTakesTrace, SilenceEndsWait, PendingStays, BadMacWritesNothing, UndecidedBeforeConsent, SilentCardDeclines, DebitMoves, CreditMoves, NeitherMoves, SumsAfter, ClosingClearsSums, SilenceKeepsSums, ResendsCounted}

pub kept-once-used : KeptOnceUsed
unfolding adopts
kept-once-used s h = rw (ne_eqb s.counts.sent 0 (λ q. omega (arith, q)))

pub requests-counted : RequestsCounted
requests-counted s c q = omega arith

pub sendings-counted : SendingsCounted
sendings-counted v = omega arith

pub pending-below_l : PendingBelowL
unfolding failed
pending-below_l v s h = rw (lt-leb s.settings.sendings v.sendings h)

pub free-at_l : FreeAtL
unfolding failed
free-at_l v s h = rw (le-leb s.settings.sendings v.sendings h)

pub settlement_takes-trace : SettlementTakesTrace
settlement_takes-trace s x = refl

-- whichever of two states it is, nothing is awaited
either : (b : Bool) (x y : State) → waits x.phase ≡ false → waits y.phase ≡ false → waits (cond b x y).phase ≡ false
either true x y p q = p
either false x y p q = q

pub silence_ends_wait : SilenceEndsWait
unfolding silent pending_or_unanswered failed
silence_ends_wait (awaited.Request q) s j = either (is_never_reversed q.kind) _ _ refl refl
silence_ends_wait (awaited.Reversal v) s j = either (leb s.settings.sendings v.sendings) _ _ refl refl
silence_ends_wait (awaited.Settlement x) s j = refl
silence_ends_wait (awaited.Item i) s j = refl
silence_ends_wait (awaited.End x) s j = refl

pub pending_stays : PendingStays
pending_stays v s j h = h

pub bad_mac_writes-nothing : BadMacWritesNothing
unfolding on_request
bad_mac_writes-nothing good a q s j h g = rw (h, g)

pub undecided_before_consent : UndecidedBeforeConsent
unfolding on_request granted
undecided_before_consent good a q s j h g c =
    record { journal_stays = rw (h, g, c); counts_stay = rw (h, g, c); phase_stays = rw (h, g, c) }

pub silent-card_declines : SilentCardDeclines
unfolding silent pending_or_unanswered
silent-card_declines q s j n w = (rw (n, w), rw n)

-- no kind stands on two lists
apart : (kind : ℕ) → among kind (21 ∷ 23 ∷ 25 ∷ []) ≡ true → among kind (20 ∷ 22 ∷ []) ≡ false
apart kind h = go (ℕ_discrete 20 kind) (ℕ_discrete 22 kind) h
  where
    go : Dec (20 ≡ kind) → Dec (22 ≡ kind) → among kind (21 ∷ 23 ∷ 25 ∷ []) ≡ true → among kind (20 ∷ 22 ∷ []) ≡ false
    go (yes e) d h = absurd (true≢false (rw (← e) at (sym h)))
    go (no e) (yes d) h = absurd (true≢false (rw (← d) at (sym h)))
    go (no e) (no d) h = rw (ne_eqb 20 kind e, ne_eqb 22 kind d)

pub credit_moves : CreditMoves
unfolding side_of is_debit is_credit
credit_moves kind amount s h = booked-credit kind amount s.totals (rw (apart kind h, h))

pub debit_moves : DebitMoves
unfolding side_of is_debit
debit_moves kind amount s h = booked-debit kind amount s.totals (rw h)

pub neither_moves : NeitherMoves
unfolding side_of is_debit is_credit
neither_moves kind amount s h = go (ℕ_discrete 10 kind) (ℕ_discrete 11 kind) h
  where
    go : Dec (10 ≡ kind) → Dec (11 ≡ kind) → among kind (10 ∷ 11 ∷ []) ≡ true → booked kind amount s.totals ≡ s.totals
    go (yes e) d h = booked_neither kind amount s.totals (rw (← e))
    go (no e) (yes d) h = booked_neither kind amount s.totals (rw (← d))
    go (no e) (no d) h = absurd (true≢false (sym h ∙ rw (ne_eqb 10 kind e, ne_eqb 11 kind d)))

-- a closing leaves no sum, another answer both
sums-after : (b : Bool) (s : State) → SumsAfter b s.totals (cond b (closed s) (in_phase Uploading s)).totals
sums-after true s = record { zero = λ h. refl; kept = λ h. absurd (true≢false h) }
sums-after false s = record { zero = λ h. absurd (true≢false (sym h)); kept = λ h. refl }

pub closing_clears_sums : ClosingClearsSums
unfolding on_settlement on_end
closing_clears_sums a s = (sums-after (closes_batch a) s, sums-after (approves a) s)

-- of two states with the same sums
either_keeps : (b : Bool) (x y : State) (t : Totals) → x.totals ≡ t → y.totals ≡ t → (cond b x y).totals ≡ t
either_keeps true x y t p q = p
either_keeps false x y t p q = q

pub silence_keeps_sums : SilenceKeepsSums
unfolding silent pending_or_unanswered failed
silence_keeps_sums (awaited.Request q) s j = either_keeps (is_never_reversed q.kind) _ _ s.totals refl refl
silence_keeps_sums (awaited.Reversal v) s j = either_keeps (leb s.settings.sendings v.sendings) _ _ s.totals refl refl
silence_keeps_sums (awaited.Settlement x) s j = refl
silence_keeps_sums (awaited.Item i) s j = refl
silence_keeps_sums (awaited.End x) s j = refl

pub resends-counted : ResendsCounted
unfolding resent set_byte
resends-counted i e j h l = rw (ne_eqb e.mark 0 (λ q. omega (arith, q))) (get_or-set_same j _ _ 0 l ∙ omega arith)
