-- Laws of what is left of a chunk, and of a line that takes it.
use Rattle.std.proofs.Common.{◌≡◌, ℕ, zero, suc, ◌+◌, ◌-◌, ◌<◌, ◌≤◌, Bool, true, false, cond, not, ◌||◌, eqb, ltb, leb, List, [], ◌∷◌, ◌++◌, length, take, drop, sym, refl, ◌∙◌, true≢false, append_assoc, append-nil, suc-add, arith, drop_of_length-le, length-take, take_all, drop-drop, ltb-false, ltb-true, lt-ltb, le-leb, leb-true}
use native.Mathlib.Decide.{dec_lt}
use mathlib.Core.Bool.{or_assoc}
use lib.Dec.{leb-suc-suc}
use lib.Seq.{drop-length, take-nil, slice_empty}
use Rattle.words.specs.Bytes.{slice, index_of, index_after}
use Rattle.texts.specs.Text.{Adds}
use Rattle.texts.proofs.Texts.{nothing, and_then}
use Rattle.line_ends.specs.Lines.{before_feed, has_feed, used}
use Rattle.line_ends.proofs.Feeds.{used-part}
use Rattle.input.specs.declared.Left.{Left}
use Rattle.input.specs.declared.Input.{Input}
use Rattle.input.specs.Input.{left_in, behind_feed, Within, Refills, Takes}

-- the first line feed of x ∷ w
pub feed_cons : (x : ℕ) (w : List ℕ) → has_feed (x ∷ w) ≡ eqb x 0x0A || has_feed w
unfolding has_feed index_of index_after
feed_cons x w = go (eqb x 0x0A)
  where
    go : (t : Bool) → ltb (index_after t (index_of 0x0A w)) (suc (length w)) ≡ t || ltb (index_of 0x0A w) (length w)
    go true = lt-ltb 0 (suc (length w)) (omega arith)
    go false = leb-suc-suc (suc (index_of 0x0A w)) (length w)

no_feed : has_feed [] ≡ false
unfolding has_feed index_of
no_feed = refl

pub feed-append : (w s : List ℕ) → has_feed (w ++ s) ≡ has_feed w || has_feed s
feed-append [] s = rw no_feed
feed-append (x ∷ w) s = rw (feed_cons x (w ++ s), feed_cons x w, feed-append w s) (sym (or_assoc (eqb x 0x0A) (has_feed w) (has_feed s)))

pub neither : (a b : Bool) → a || b ≡ false → (a ≡ false) × (b ≡ false)
neither true b e = absurd (true≢false e)
neither false b e = (refl, e)

no_feed_cons : (x : ℕ) (w : List ℕ) → has_feed (x ∷ w) ≡ false → (eqb x 0x0A ≡ false) × (has_feed w ≡ false)
no_feed_cons x w e = neither (eqb x 0x0A) (has_feed w) (rw feed_cons at e)

-- a line that goes on in s, where w has no line feed
before-append : (w s : List ℕ) → has_feed w ≡ false → before_feed (w ++ s) ≡ w ++ before_feed s
unfolding before_feed index_of index_after
before-append [] s e = refl
before-append (x ∷ w) s e = let q = no_feed_cons x w e in rw (q.0, before-append w s q.1)

behind-append : (w s : List ℕ) → has_feed w ≡ false → behind_feed (w ++ s) ≡ behind_feed s
unfolding behind_feed index_of index_after
behind-append [] s e = refl
behind-append (x ∷ w) s e = let q = no_feed_cons x w e in rw (q.0, suc-add) (behind-append w s q.1)

before-none : (w : List ℕ) → has_feed w ≡ false → before_feed w ≡ w
unfolding before_feed has_feed
before-none w e = take_all (index_of 0x0A w) w (ltb-false (index_of 0x0A w) (length w) e)

behind-none : (w : List ℕ) → has_feed w ≡ false → behind_feed w ≡ []
unfolding behind_feed index_of
behind-none w e = rw append-nil at (behind-append w [] e)

-- what is left of s where a line has used its part
behind-used : (s : List ℕ) → drop (used s) s ≡ behind_feed s
unfolding behind_feed used has_feed
behind-used s = go (ltb (index_of 0x0A s) (length s)) refl
  where
    go : (t : Bool) → ltb (index_of 0x0A s) (length s) ≡ t → drop (cond t (index_of 0x0A s + 1) (length s)) s ≡ drop (index_of 0x0A s + 1) s
    go true e = refl
    go false e =
        drop-length s ∙ sym (drop_of_length-le s {i = index_of 0x0A s + 1} (omega (arith, ltb-false (index_of 0x0A s) (length s) e)))

-- what has a line feed has a byte
pub feed-some : (w : List ℕ) → has_feed w ≡ true → 0 < length w
unfolding has_feed
feed-some w e = omega (arith, ltb-true (index_of 0x0A w) (length w) e)

-- the bytes of c from f to e
part-is : (f e : ℕ) (c : List ℕ) → f ≤ e → take (e - f) (drop f c) ≡ slice f e c
unfolding slice
part-is zero e c h = let z : e - 0 ≡ e = omega arith in rw z
part-is (suc f) zero c h = absurd (omega arith)
part-is (suc f) (suc e) [] h = rw take-nil
part-is (suc f) (suc e) (x ∷ c) h = let z : suc e - suc f ≡ e - f = omega arith in rw z (part-is f e c (omega arith))

-- what is left where it lies within the chunk
left-within : (l : Left) (c : List ℕ) → Within l c → left_in l c ≡ slice l.from l.end c
unfolding left_in
left-within l c w = rw (le-leb _ _ w.ends)

left-none : (l : Left) (c : List ℕ) → Within l c → l.from ≡ l.end → left_in l c ≡ []
unfolding slice
left-none l c w e = left-within l c w ∙ rw e (slice_empty l.end c)

-- nothing is left where the bytes that are left do not lie within the chunk
left-empty : (l : Left) (c : List ℕ) → (l.from < l.end → l.end ≤ length c → ⊥) → left_in l c ≡ []
unfolding left_in slice
left-empty l c e = go (leb l.end (length c)) refl (dec_lt l.from l.end)
  where
    go : (b : Bool) → leb l.end (length c) ≡ b → Dec (l.from < l.end) → cond b (drop l.from (take l.end c)) [] ≡ []
    go true q (yes h) = absurd (e h (leb-true l.end (length c) q))
    go true q (no h) = drop_of_length-le (take l.end c) {i = l.from} (omega (arith, h, length-take l.end c))
    go false q d = refl

-- a read where nothing is left
pub left-read : (l : Left) (c : List ℕ) (r : Left) (c2 : List ℕ) → (l.from < l.end → l.end ≤ length c → ⊥) → Within r c2 → Refills l c r c2
left-read l c r c2 e w =
    let z = left-empty l c e in
    record { brought = left_in r c2; unread = rw z (λ h. absurd (omega (arith, h))); left_is = rw z refl; within = w }

empty-front : (a b : List ℕ) → a ++ b ≡ [] → a ≡ []
empty-front [] b e = refl
empty-front (x ∷ a) b e = absurd (let z : ◌≡◌ {A = ℕ} 0 1 = cc in omega arith)

-- a line takes nothing where nothing is left and nothing comes
pub takes_none : {l : Left} {c line : List ℕ} {n : ℕ} (r : Input) (c2 : List ℕ) → left_in l c ≡ [] → r.len ≡ n → r.whole ≡ false
    → r.left.from ≡ 0 → r.left.end ≡ 0 → Takes l c n line r c2 line
takes_none r c2 z k w f e =
    let v : Within r.left c2 = record { ordered = omega arith; ends = omega arith } in
    record {
      brought = [];
      unread = rw z (λ h. absurd (omega (arith, feed-some [] h)));
      line_is = rw (k, z, before-none [] no_feed) nothing;
      whole_is = rw (z, no_feed) w;
      left_is = left-none r.left c2 v (omega arith) ∙ rw (z, behind-none [] no_feed);
      within = v;
    }

pub takes-none-read : {l m : Left} {c c2 line : List ℕ} {n : ℕ} (r : Input) → Refills l c m c2 → m.from ≡ m.end → r.len ≡ n → r.whole ≡ false
    → r.left.from ≡ 0 → r.left.end ≡ 0 → Takes l c n line r c2 line
takes-none-read {l} {m} {c} {c2} r q s =
    takes_none r c2 (empty-front (left_in l c) q.brought (sym q.left_is ∙ left-none m c2 q.within s))

-- a line takes a piece of the chunk
module _ {l m : Left} {c c2 : List ℕ} (q : Refills l c m c2) where
  abbrev piece : List ℕ
  piece = take (m.end - m.from) (drop m.from c2)

  piece_is : piece ≡ slice m.from m.end c2
  piece_is = part-is m.from m.end c2 q.within.ordered

  bytes_are : piece ≡ left_in l c ++ q.brought
  bytes_are = piece_is ∙ sym (left-within m c2 q.within) ∙ q.left_is

  pub piece_within : m.from + used piece ≤ m.end
  piece_within = omega (arith, used-part (m.end - m.from) (drop m.from c2), q.within.ordered)

  pub takes_piece : {n : ℕ} {line grown : List ℕ} (r : Input) → Adds (before_feed piece) n line r.len grown → r.whole ≡ has_feed piece
      → r.left.from ≡ m.from + used piece → r.left.end ≡ m.end → Takes l c n line r c2 grown
  unfolding slice
  takes_piece r a w f e =
      let v : Within r.left c2 = record { ordered = rw (f, e) piece_within; ends = rw e q.within.ends } in
      record {
        brought = q.brought;
        unread = λ h. q.unread (feed-some (left_in l c) h);
        line_is = rw bytes_are at a;
        whole_is = rw bytes_are at w;
        left_is = left-within r.left c2 v ∙ rw (f, e, ← drop-drop, ← piece_is, behind-used, bytes_are);
        within = v;
      }

-- a line that has no line feed yet leaves nothing, and takes more
pub takes_all : {l : Left} {r : Input} {c c1 line line1 : List ℕ} {n : ℕ} → Takes l c n line r c1 line1 → r.whole ≡ false → left_in r.left c1 ≡ []
takes_all {l} {c = c} t e = t.left_is ∙ behind-none (left_in l c ++ t.brought) (sym t.whole_is ∙ e)

pub takes-again : {l : Left} {r r2 : Input} {c c1 c2 line line1 line2 : List ℕ} {n : ℕ} → Takes l c n line r c1 line1 → r.whole ≡ false
    → Takes r.left c1 r.len line1 r2 c2 line2 → Takes l c n line r2 c2 line2
takes-again {l} {r} {r2} {c} {c1} t e u =
    let w = left_in l c ++ t.brought in
    let h : has_feed w ≡ false = sym t.whole_is ∙ e in
    let z : left_in r.left c1 ≡ [] = takes_all t e in
    let j : left_in l c ++ (t.brought ++ u.brought) ≡ w ++ u.brought = sym (append_assoc (left_in l c) t.brought u.brought) in
    record {
      brought = t.brought ++ u.brought;
      unread = λ f. absurd (true≢false (sym f ∙ (neither (has_feed (left_in l c)) (has_feed t.brought) (rw feed-append at h)).0));
      line_is = rw (j, before-append w u.brought h) (and_then (rw (before-none w h) at t.line_is) (rw z at u.line_is));
      whole_is = rw (j, feed-append w u.brought, h) (rw z at u.whole_is);
      left_is = rw (j, behind-append w u.brought h) (rw z at u.left_is);
      within = u.within;
    }

-- a line that is whole or at the end is not both
pub when_whole : (whole ended : Bool) → whole ≡ true → (ended ≡ true → whole ≡ false) → ended ≡ not whole
when_whole true true e h = h refl
when_whole true false e h = refl
when_whole false ended e h = absurd (true≢false (sym e))

pub when_ended : (whole ended : Bool) → ended ≡ true → (ended ≡ true → whole ≡ false) → ended ≡ not whole
when_ended whole ended e h = rw (e, h e)
