-- Laws of the calls: what follows in the phase, where rules 1 and 2 have passed.
use Rattle.std.specs.Prelude.{Result as Attempt, Ok, Err}
use Rattle.checks.specs.Refusals.{refused_by}
use Rattle.checks.specs.declared.Refusal.{Refusal}
use mathlib.Core.Path.{◌≡◌, refl, sym, ap, ◌∙◌}
use mathlib.Core.List.{List}
use mathlib.Core.Bool.{Bool, true, false, not, ◌||◌}
use Prim.Native.Nat.{ℕ}
use native.Mathlib.Omega.{arith}
use Rattle.message.specs.declared.Message.{Message}
use Rattle.reading.specs.Reading.{read_message, reading_of}
use Rattle.journal.specs.Journal.{entries_of}
use Rattle.state.specs.declared.Awaited.{Awaited}
use Rattle.state.specs.declared.Called.{Called}
use Rattle.state.specs.declared.Outcome.TheVariants.{Quiet, Refused}
use Rattle.state.specs.declared.Phase.{Phase}
use Rattle.state.specs.declared.Phase.TheVariants.{Resting, Waiting, Pending, Settling, Uploading}
use Rattle.state.specs.declared.State.{State}
use Rattle.state.specs.State.{signed, waits, signs_on, is_waiting}
use Rattle.checks.specs.Checks.{first_broken}
use Rattle.checks.proofs.Choices.{last-broken, last-kept}
use Rattle.state.specs.Calls.{Lent, with_journal, result_of, refused}
use Rattle.state.proofs.Judged.{refuses, goes}
use Rattle.rules.specs.Rules.{rules12}
use Rattle.answer_match.specs.Match.{is_answer, is_sign_on_answer}
use Rattle.call_definitions.specs.Answer.{no_answer, power_returned, trace_sent, batch_sent, answer_in, answer}
use Rattle.call_definitions.proofs.Quietly.{changes}
use Rattle.effect_definitions.specs.StateEffects.{on_sign_on}
use Rattle.effect_definitions.specs.JournalEffects.{changed, unanswered, answered, answered_in, heard}
use Rattle.call_answer.specs.Bounds.{Gives, sign_on_answer}

or-true : (b : Bool) → (b || true) ≡ true
or-true true = refl
or-true false = refl

not_waiting : (p : Phase) → ((w : Awaited) → p ≡ Waiting w → ⊥) → waits p ≡ false
not_waiting Resting h = refl
not_waiting (Waiting w) h = absurd (h w refl)
not_waiting (Pending v) h = refl
not_waiting Settling h = refl
not_waiting Uploading h = refl

-- what comes of a message where the answer to a sign-on is awaited
module _ (a : Message) (s : State) (r : Called) (b : Bool) (e : b ≡ is_sign_on_answer s.settings s.sign_on a) where
  pub sign_on_quiet : (t : State) → b ≡ true → t ≡ on_sign_on a s → r ≡ record { outcome = Quiet; state = t } → r ≡ sign_on_answer a s
  unfolding sign_on_answer
  sign_on_quiet t h p q = rw (← e, h, q, p)

  pub sign_on-refused : b ≡ false → r ≡ record { outcome = Refused 22; state = s } → r ≡ sign_on_answer a s
  unfolding sign_on_answer
  sign_on-refused h q = rw (← e, h, q)

module _ (good : Bool) (a : Message) (s : State) (j : List ℕ) (r : Called) where
  -- 14. The card's word is awaited.
  pub answer_to_card : s.chip.approved ≡ true → r ≡ record { outcome = Refused 14; state = s } → Gives r j j (answer_in good a s)
  unfolding first_broken
  answer_to_card g q lent = rw q (refuses 14 _ s (with_journal j lent) _ (rw (g, or-true (not (is_waiting s)))) (λ x. omega arith))

  module _ (g : s.chip.approved ≡ false) (o : Bool) (d : o ≡ signs_on s) where
    sign_on-answered : signs_on s ≡ true → is_sign_on_answer s.settings s.sign_on a ≡ true → r ≡ sign_on_answer a s
        → Gives r j j (answer_in good a s)
    unfolding first_broken heard sign_on_answer
    sign_on-answered n h q lent =
        goes 0 _ s (with_journal j lent) _ _ (rw (g, n, or-true (waits s.phase), h)) refl
        (changes (heard good a s j) r (on_sign_on a s) j (with_journal j lent) (rw h at q) (rw n))

    -- 22. The message does not answer the sign-on.
    sign_on_unmatched : signs_on s ≡ true → is_sign_on_answer s.settings s.sign_on a ≡ false → r ≡ sign_on_answer a s
        → Gives r j j (answer_in good a s)
    unfolding first_broken sign_on_answer
    sign_on_unmatched n h q lent =
        let is : r ≡ record { outcome = Refused 22; state = s } = rw h at q in
        rw is (refuses 22 _ s (with_journal j lent) _ (rw (g, n, or-true (waits s.phase), h)) (λ x. omega arith))

    -- a sign-on is awaited
    pub answer-to_sign_on : o ≡ true → r ≡ sign_on_answer a s → Gives r j j (answer_in good a s)
    answer-to_sign_on t q lent = by (is_sign_on_answer s.settings s.sign_on a) refl
      where
        by : (b : Bool) → is_sign_on_answer s.settings s.sign_on a ≡ b → result_of r (with_journal j lent) ≡ answer_in good a s (with_journal j lent)
        by true h = sign_on-answered (sym d ∙ t) h q lent
        by false h = sign_on_unmatched (sym d ∙ t) h q lent

    module _ (f : o ≡ false) where
      -- 14. Nothing is awaited.
      pub answer_unawaited : ((w : Awaited) → s.phase ≡ Waiting w → ⊥) → r ≡ record { outcome = Refused 14; state = s } → Gives r j j (answer_in good a s)
      unfolding first_broken
      answer_unawaited h q lent =
          let n = sym d ∙ f in
          let w = not_waiting s.phase h in
          rw q (refuses 14 _ s (with_journal j lent) _ (rw (w, n)) (λ x. omega arith))

      module _ (w : Awaited) (p : s.phase ≡ Waiting w) (b : Bool)
          (e : b ≡ is_answer s.settings (batch_sent s w) (trace_sent (entries_of s.entries j) w) w a) where
        -- 22. The message does not answer what is awaited.
        pub answer_unmatched : b ≡ false → r ≡ record { outcome = Refused 22; state = s } → Gives r j j (answer_in good a s)
        unfolding first_broken
        answer_unmatched h q lent =
            let n = sym d ∙ f in
            rw q (refuses 22 _ s (with_journal j lent) _ (rw (p, g, n, ← e, h)) (λ x. omega arith))

        pub answer_changes : (t : State) (k : List ℕ) → b ≡ true → changed t k ≡ answered good a w s j
            → r ≡ record { outcome = Quiet; state = t } → Gives r j k (answer_in good a s)
        unfolding first_broken heard
        answer_changes t k h u q lent =
            let n = sym d ∙ f in
            goes 0 _ s (with_journal j lent) _ _ (rw (p, g, n, ← e, h)) refl
            (changes (heard good a s j) r t k (with_journal j lent) q
            (rw n (u ∙ ap (λ (x : Phase). answered_in x good a s j) (sym p))))

-- rules 1 and 2 pass
module _ (s : State) (lent : Lent) (z : 0 ≡ first_broken (rules12 s lent)) where
  module _ (w : Bool) (g : w ≡ is_waiting s) where
    -- 14. Nothing is awaited.
    pub no_answer_unawaited : w ≡ false → refused 14 s lent ≡ no_answer s lent
    unfolding no_answer
    no_answer_unawaited f =
        let b : is_waiting s ≡ false = sym g ∙ f in
        refuses 14 _ s lent _ (last-broken (rules12 s lent) 0 refl z refl 14 (not (is_waiting s)) (rw b)) (λ x. omega arith)

    pub no_answer_changes : (r : Called) (t : State) (k : List ℕ) → w ≡ true → changed t k ≡ unanswered s lent.journal
        → r ≡ record { outcome = Quiet; state = t } → result_of r (with_journal k lent) ≡ no_answer s lent
    unfolding no_answer
    no_answer_changes r t k f h q =
        let b : is_waiting s ≡ true = sym g ∙ f in
        goes 0 _ s lent _ _ (last-kept (rules12 s lent) 0 refl z refl 14 (not (is_waiting s)) (rw b)) refl (changes _ r t k lent q h)

  pub power_changes : (r : Called) (t u : State) (k : List ℕ) → changed t k ≡ unanswered s lent.journal → u ≡ signed false t
      → r ≡ record { outcome = Quiet; state = u } → result_of r (with_journal k lent) ≡ power_returned s lent
  unfolding power_returned
  power_changes r t u k h o q = goes 0 _ s lent _ _ z refl (rw (q, o, ← h))

  module _ (r : Called) (b : List ℕ) (good : Bool) where
    pub answer-unread : (x : Attempt Message Refusal) → reading_of x ≡ read_message b → ((m : Message) → x ≡ Ok m → ⊥)
        → r ≡ record { outcome = Refused (refused_by x); state = s } → result_of r lent ≡ answer b good s lent
    unfolding answer
    answer-unread (Ok m) h w q = absurd (w m refl)
    answer-unread (Err e) h w q = goes 0 _ s lent _ _ z refl (rw (← h, q))

    pub answer-read : (x : Attempt Message Refusal) (m : Message) (k : List ℕ) → reading_of x ≡ read_message b → x ≡ Ok m
        → Gives r lent.journal k (answer_in good m s) → result_of r (with_journal k lent) ≡ answer b good s lent
    unfolding answer
    answer-read x m k h w q = goes 0 _ s lent _ _ z refl (rw (← h, w) (q lent))
