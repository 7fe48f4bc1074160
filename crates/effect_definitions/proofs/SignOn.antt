-- What is awaited may be a sign-on; the statements of specs/SignOn.antt.
use mathlib.Core.Path.{◌≡◌, refl, ap, ◌∙◌}
use mathlib.Core.Bool.{Bool, true, false, cond, ◌&&◌, and-false}
use mathlib.Core.List.{List}
use Prim.Native.Nat.{ℕ}
use lib.Dec.{eqb}
use Rattle.numbers.specs.declared.Batch.{Batch}
use Rattle.message.specs.declared.Message.{Message}
use Rattle.answer_match.specs.Match.{approves, batch_in}
use Rattle.state.specs.State.{signs_on, is_resting}
use Rattle.state.specs.declared.State.{State}
use Rattle.effect_definitions.specs.StateEffects.{adopts, sign_on_ended, on, on_sign_on}
use Rattle.effect_definitions.specs.JournalEffects.{Changed, changed, silent_in, unanswered, answered_in, heard}
use Rattle.effect_definitions.specs.SignOn.{LeavesAll, AskingLeavesAll, EndingLeavesAll, OnlyApprovalSignsOn, AdoptedAtRest, KeptUnlessResting}

-- what silence and an answer leave, by whether a sign-on is awaited
pub unanswered_as : (P : Changed → Type 0) (s : State) (j : List ℕ) → (signs_on s ≡ true → P (changed (sign_on_ended s) j))
    → (signs_on s ≡ false → P (silent_in s.phase s j)) → P (unanswered s j)
unfolding unanswered
unanswered_as P s j f g = go (signs_on s) refl
  where
    go : (b : Bool) → signs_on s ≡ b → P (cond b (changed (sign_on_ended s) j) (silent_in s.phase s j))
    go true e = f e
    go false e = g e

pub heard_as : (P : Changed → Type 0) (good : Bool) (a : Message) (s : State) (j : List ℕ) → (signs_on s ≡ true → P (changed (on_sign_on a s) j))
    → (signs_on s ≡ false → P (answered_in s.phase good a s j)) → P (heard good a s j)
unfolding heard
heard_as P good a s j f g = go (signs_on s) refl
  where
    go : (b : Bool) → signs_on s ≡ b → P (cond b (changed (on_sign_on a s) j) (answered_in s.phase good a s j))
    go true e = f e
    go false e = g e

pub asking_leaves-all : AskingLeavesAll
asking_leaves-all s x j = (
  record {
    phase_stays = refl;
    counts_stay = refl;
    totals_stay = refl;
    entries_stay = refl;
    chip_stays = refl;
    journal_stays = refl;
  },
  refl,
  refl,
)

-- of two states that leave all else, and await no sign-on
leaves_either : (b : Bool) (batch : Batch) (s : State) (j : List ℕ)
    → (let c = changed (cond b (on batch (sign_on_ended s)) (sign_on_ended s)) j in LeavesAll s j c × (signs_on c.state ≡ false))
leaves_either true batch s j = (
  record {
    phase_stays = refl;
    counts_stay = refl;
    totals_stay = refl;
    entries_stay = refl;
    chip_stays = refl;
    journal_stays = refl;
  },
  refl,
)
leaves_either false batch s j = (
  record {
    phase_stays = refl;
    counts_stay = refl;
    totals_stay = refl;
    entries_stay = refl;
    chip_stays = refl;
    journal_stays = refl;
  },
  refl,
)

pub ending-leaves-all : EndingLeavesAll
unfolding heard unanswered on_sign_on
ending-leaves-all good a s j h = (
  rw h (leaves_either (approves a) (cond (adopts s) (batch_in a) s.batch) s j),
  rw h (leaves_either false s.batch s j),
)

pub only_approval-signs_on : OnlyApprovalSignsOn
unfolding heard unanswered on_sign_on
only_approval-signs_on good a s j h = (λ e. rw (h, e), λ e. rw (h, e), rw h)

pub adopted_at-rest : AdoptedAtRest
unfolding on_sign_on adopts
adopted_at-rest a s e r z = rw (e, r, z)

none_adopted : (s : State) → is_resting s ≡ false → adopts s ≡ false
unfolding adopts
none_adopted s r = ap (λ (b : Bool). eqb s.counts.sent 0 && b) r ∙ and-false (eqb s.counts.sent 0)

pub kept_unless_resting : KeptUnlessResting
unfolding on_sign_on
kept_unless_resting a s r = rw (none_adopted s r) (go (approves a))
  where
    go : (b : Bool) → (cond b (on s.batch (sign_on_ended s)) (sign_on_ended s)).batch ≡ s.batch
    go true = refl
    go false = refl
