-- Laws of the next line, for the proofs of this crate and of those above it.
use Rattle.std.proofs.Common.{◌≡◌, ℕ, suc, ◌+◌, ◌-◌, ◌<◌, ◌≤◌, Bool, true, false, cond, ◌||◌, eqb, ltb, List, [], ◌∷◌, ◌++◌, length, get_or, take, sym, refl, ap, ◌∙◌, true≢false, arith, length-take-le, take_all, ltb-true, lt-ltb}
use native.Mathlib.Decide.{dec_lt}
use borrow.Author.Tests.{not-true, not-false}
use lib.Seq.{take-append-le, drop-append-le}
use Rattle.words.specs.Bytes.{index_of, index_after}
use Rattle.texts.specs.Text.{Text}
use Rattle.texts.proofs.Texts.{start}
use Rattle.line_ends.specs.Lines.{before_feed, has_feed, without_return, line_of}
use Rattle.input.specs.declared.Input.{Input}
use Rattle.input.specs.Input.{in_hand, left_in, first_line, behind_feed, NextLine}
use Rattle.input.proofs.Feeds.{feed_cons, feed-append, feed-some, takes_all}

front_cons : (t f : Bool) (a b : ℕ) → t || f ≡ true → (f ≡ true → a ≡ b) → index_after t a ≡ index_after t b
unfolding index_after
front_cons true f a b e h = refl
front_cons false f a b e h = ap suc (h e)

feed-within : (w : List ℕ) → has_feed w ≡ true → index_of 0x0A w < length w
unfolding has_feed
feed-within w e = ltb-true (index_of 0x0A w) (length w) e

-- the bytes x behind a line feed of w change neither its first line nor what stands behind that
module _ (x : List ℕ) where
  index_front : (w : List ℕ) → has_feed w ≡ true → index_of 0x0A (w ++ x) ≡ index_of 0x0A w
  unfolding index_of
  index_front [] e = absurd (omega (arith, feed-some [] e))
  index_front (y ∷ w) e =
      front_cons (eqb y 0x0A) (has_feed w) (index_of 0x0A (w ++ x)) (index_of 0x0A w) (rw feed_cons at e) (λ h. index_front w h)

  pub first-append : (w : List ℕ) → has_feed w ≡ true → first_line (w ++ x) ≡ first_line w
  unfolding first_line before_feed
  first-append w e =
      rw (feed-append w x, e, index_front w e, take-append-le (index_of 0x0A w) w x (omega (arith, feed-within w e)))

  pub behind-first : (w : List ℕ) → has_feed w ≡ true → behind_feed (w ++ x) ≡ behind_feed w ++ x
  unfolding behind_feed
  behind-first w e = rw (index_front w e) (drop-append-le (index_of 0x0A w + 1) w x (omega (arith, feed-within w e)))

-- s stands for t, as far as a line of at most 4,096 bytes is asked for
abbrev pub Cut : List ℕ → List ℕ → Type 0
Cut s t = (ltb 4096 (length s) ≡ ltb 4096 (length t)) × (ltb 4096 (length t) ≡ false → s ≡ t)

long_line : (whole : Bool) (s : List ℕ) → 4097 < length s → ltb 4096 (length (line_of whole s)) ≡ true
unfolding without_return
long_line true s h = go (eqb (get_or s (length s - 1) 0) 0x0D)
  where
    go : (t : Bool) → ltb 4096 (length (cond t (take (length s - 1) s) s)) ≡ true
    go true = rw (length-take-le (length s - 1) s (omega arith)) (lt-ltb 4096 (length s - 1) (omega arith))
    go false = lt-ltb 4096 (length s) (omega arith)
long_line false s h = lt-ltb 4096 (length s) (omega arith)

cut : (whole : Bool) {l line : List ℕ} {n : ℕ} → Text l n line → length line ≡ 4098 → Cut (in_hand whole n line) (line_of whole l)
unfolding in_hand
cut whole {l} {line} {n} t k = rw t.holds (go (dec_lt 4098 (length l)))
  where
    go : Dec (4098 < length l) → Cut (line_of whole (take n l)) (line_of whole l)
    go (yes h) =
        let z : n ≡ 4098 = omega (arith, t.count) in
        let s = long_line whole (take n l) (rw (z, length-take-le 4098 l (omega arith)) (omega arith)) in
        let u = long_line whole l (omega arith) in
        (s ∙ sym u, λ e. absurd (true≢false (sym u ∙ e)))
    go (no h) =
        let z : length l ≤ n = omega (arith, t.count) in
        rw (take_all n l z) (refl, λ e. refl)

-- the line in hand stands for the first line of what was left and of what reads brought
module _ {input r : Input} {chunk line c l : List ℕ} (n : NextLine input chunk line r c l) where
  pub next-cut : length l ≡ 4098 → Cut (in_hand r.whole r.len l) (first_line (left_in input.left chunk ++ n.takes.brought))
  unfolding first_line
  next-cut k = rw (← n.takes.whole_is) (cut r.whole (n.takes.line_is [] (start line)) k)

  pub next-whole : r.ended ≡ false → has_feed (left_in input.left chunk ++ n.takes.brought) ≡ true
  next-whole e = sym n.takes.whole_is ∙ not-false r.whole (sym n.ended_is ∙ e)

  pub next-all : r.ended ≡ true → left_in r.left c ≡ []
  next-all e = takes_all n.takes (not-true r.whole (sym n.ended_is ∙ e))
