-- Laws of a script's lines, answered one after the other.
use Rattle.std.proofs.Common.{◌≡◌, refl, sym, ap, ◌∙◌, List, [], ◌++◌, append_assoc, append-nil, Bool, true, false, cond, not, ◌||◌, true≢false, ℕ, zero, suc, ◌+◌, ◌%◌, ◌^◌, ◌<◌, arith, ltb, eqb, length}
use Rattle.texts.specs.Text.{Text, text}
use Rattle.texts.proofs.Texts.{start}
use Rattle.words.specs.Lines.{trimmed}
use Rattle.echo.specs.Echo.{echo_line}
use Rattle.input.specs.declared.Input.{Input}
use Rattle.input.specs.Input.{in_hand, words_in, left_in, first_line, behind_feed, NextLine}
use Rattle.input.proofs.Lines.{Cut, first-append, behind-first, next-cut, next-whole, next-all}
use Rattle.screen.specs.Outcomes.{error_line}
use Rattle.stage.specs.declared.Rehearsal.{Rehearsal}
use Rattle.state.specs.Calls.{Lent}
use Rattle.rehearse.specs.declared.Stopped.{Stopped}
use Rattle.rehearse.specs.declared.commands.Acted.{Acted}
use Rattle.rehearse.specs.Rehearsal.{Did, writes}
use Rattle.rehearse.specs.Commands.{done}
use Rattle.rehearse.specs.Scripts.{echoed, answered, ScriptAt, script_at, after_line, after_lines, blank, Rehearses}

-- a line that is not echoed, and one that is
module _ (s : List ℕ) (r : Rehearsal) where
  pub echoed-none : (o : List ℕ) → (not r.echo || ltb 4096 (length s) || eqb (length (trimmed s)) 0) ≡ true → Text (echoed s r) 0 o
  unfolding echoed
  echoed-none o e = rw e (start o)

  pub echoed_line : {n : ℕ} {o : List ℕ} → (not r.echo || ltb 4096 (length s) || eqb (length (trimmed s)) 0) ≡ false
      → Text (echo_line (trimmed s)) n o → Text (echoed s r) n o
  unfolding echoed
  echoed_line e t = rw e t

-- a line that is too long, one without words, and one with words
module _ (number : ℕ) (s : List ℕ) (r : Rehearsal) (lent : Lent) where
  pub answered-long : {n : ℕ} {o : List ℕ} → ltb 4096 (length s) ≡ true → Text (error_line number (text "longer than 4096 bytes")) n o
      → Did (answered number s r lent) (record { rehearsal = r; written = n }) lent o
  unfolding answered
  answered-long e t = rw e (record { rehearsal_is = refl; lent_is = refl; text_is = t })

  pub answered-none : (o : List ℕ) → ltb 4096 (length s) ≡ false → eqb (length (words_in s)) 0 ≡ true
      → Did (answered number s r lent) (record { rehearsal = r; written = 0 }) lent o
  unfolding answered
  answered-none o e z = rw (e, z) (record { rehearsal_is = refl; lent_is = refl; text_is = start o })

  pub answered_words : {a : Acted} {lent2 : Lent} {o : List ℕ} → ltb 4096 (length s) ≡ false → eqb (length (words_in s)) 0 ≡ false
      → Did (done number (words_in s) r lent) a lent2 o → Did (answered number s r lent) a lent2 o
  unfolding answered
  answered_words e z d = rw (e, z) d

answered-cut : (number : ℕ) {s t : List ℕ} (r : Rehearsal) (lent : Lent) → Cut s t → answered number s r lent ≡ answered number t r lent
unfolding answered
answered-cut number {s} {t} r lent c = go (ltb 4096 (length t)) refl
  where
    go : (b : Bool) → ltb 4096 (length t) ≡ b
        → cond (ltb 4096 (length s)) (writes (error_line number (text "longer than 4096 bytes")) r lent)
        (cond (eqb (length (words_in s)) 0) (writes [] r lent) (done number (words_in s) r lent))
        ≡ cond (ltb 4096 (length t)) (writes (error_line number (text "longer than 4096 bytes")) r lent)
        (cond (eqb (length (words_in t)) 0) (writes [] r lent) (done number (words_in t) r lent))
    go true e = rw (c.0, e)
    go false e = rw (c.1 e)

same : {s u : List ℕ} {n m : ℕ} {r q : Rehearsal} {a b : Lent} → s ≡ u → n ≡ m → r ≡ q → a ≡ b → script_at s n r a ≡ script_at u m q b
same e f g h = rw (e, f, g, h)

-- a script has come this far after some turns: whatever bytes come further
pub record Going (input : Input) (chunk₀ : List ℕ) (r₀ : Rehearsal) (turns : ℕ) (at : Input) (chunk : List ℕ) (r : Rehearsal) (lent : Lent) : Type 0 where
  pub brought : List ℕ
  pub lines : ℕ
  pub file_is : at.file ≡ input.file
  pub counted : lines ≡ turns
  pub stands : (x : List ℕ) → after_lines lines (script_at (left_in input.left chunk₀ ++ brought ++ x) input.number r₀ blank)
      ≡ script_at (left_in at.left chunk ++ x) at.number r lent

pub going : (input : Input) (chunk : List ℕ) (r : Rehearsal) → Going input chunk r 0 input chunk r blank
unfolding after_lines
going input chunk r = record { brought = []; lines = 0; file_is = refl; counted = refl; stands = λ x. rw append-nil refl }

-- one line more
module _ {input at at2 : Input} {chunk₀ chunk line c l o : List ℕ} {r₀ r : Rehearsal} {turns : ℕ} {lent lent2 : Lent} {a : Acted}
    (g : Going input chunk₀ r₀ turns at chunk r lent) (n : NextLine at chunk line at2 c l) (k : length l ≡ 4098)
    (d : Did (answered at2.number (in_hand at2.whole at2.len l) r lent) a lent2 o) where
  -- the bytes from this line on, and those from the first line on, as far as they have come
  abbrev came : List ℕ
  came = left_in at.left chunk ++ n.takes.brought

  abbrev script : List ℕ
  script = left_in input.left chunk₀ ++ (g.brought ++ n.takes.brought)

  did : Did (answered ((at.number + 1) % 2 ^ 64) (first_line came) r lent) a lent2 o
  did = rw (← n.number_is, ← answered-cut at2.number r lent (next-cut n k)) d

  one_more : (x : List ℕ) → first_line (came ++ x) ≡ first_line came → behind_feed (came ++ x) ≡ behind_feed came ++ x
      → after_lines (suc g.lines) (script_at (script ++ x) input.number r₀ blank)
      ≡ script_at (left_in at2.left c ++ x) at2.number a.rehearsal lent2
  unfolding after_lines
  one_more x f b =
      let i : left_in at.left chunk ++ (n.takes.brought ++ x) ≡ came ++ x = simp append_assoc in
      let j : script ++ x ≡ left_in input.left chunk₀ ++ g.brought ++ (n.takes.brought ++ x) = simp append_assoc in
      let q : after_lines g.lines (script_at (script ++ x) input.number r₀ blank) ≡ script_at (came ++ x) at.number r lent
      = rw (j, ← i) (g.stands (n.takes.brought ++ x)) in
      ap after_line q
      ∙ same (rw (b, n.takes.left_is)) (sym n.number_is) (rw f (sym did.rehearsal_is)) (rw f (sym did.lent_is))

  pub goes_on : at2.ended ≡ false → Going input chunk₀ r₀ (turns + 1) at2 c a.rehearsal lent2
  goes_on e =
      let w = next-whole n e in
      record {
        brought = g.brought ++ n.takes.brought;
        lines = suc g.lines;
        file_is = n.file_is ∙ g.file_is;
        counted = omega (arith, g.counted);
        stands = λ x. one_more x (first-append x came w) (behind-first x came w);
      }

  pub ends : at2.ended ≡ true → Rehearses r₀ input chunk₀ (record { input = at2; rehearsal = a.rehearsal }) c
  ends e =
      record {
        brought = g.brought ++ n.takes.brought;
        lines = suc g.lines;
        lent = lent2;
        file_is = n.file_is ∙ g.file_is;
        stands = simp append-nil at (one_more [] (simp append-nil) (simp append-nil));
        all = λ f. next-all n e;
        stops = λ f. absurd (true≢false (sym e ∙ f));
      }

-- no turn is left
pub turned : {input at : Input} {chunk c : List ℕ} {turns : ℕ} {r₀ r : Rehearsal} {lent : Lent} → Going input chunk r₀ turns at c r lent
    → turns ≡ 18446744073709551615 → at.ended ≡ false → Rehearses r₀ input chunk (record { input = at; rehearsal = r }) c
turned {lent = lent} g z e =
    record {
      brought = g.brought;
      lines = g.lines;
      lent = lent;
      file_is = g.file_is;
      stands = simp append-nil at (g.stands []);
      all = λ f. absurd (true≢false (sym f ∙ e));
      stops = λ f. g.counted ∙ z;
    }

-- a script whose lines are numbered from 1
after-number : (n : ℕ) (q : ScriptAt) → q.number ≡ 0 → n < 18446744073709551616 → (after_lines n q).number ≡ n
unfolding after_lines
after-number zero q e h = e
after-number (suc n) q e h = rw (after-number n q e (omega arith)) (omega arith)

pub last_number : {r : Rehearsal} {input : Input} {chunk c : List ℕ} {s : Stopped} → Rehearses r input chunk s c → input.number ≡ 0
    → s.input.ended ≡ false → s.input.number ≡ 18446744073709551615
last_number t e f =
    let z = t.stops f in
    sym (ap (λ (q : ScriptAt). q.number) t.stands) ∙ after-number t.lines _ e (omega arith) ∙ z
