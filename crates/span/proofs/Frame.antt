-- A field is found where its frame stands and its contents are in form.
use Rattle.std.specs.Prelude.{Err, Result, Ok}
use mathlib.Core.Path.{◌≡◌, refl}
use mathlib.Core.List.{List}
use mathlib.Core.Bool.{Bool, true, false, cond}
use Prim.Native.Nat.{ℕ, ◌*◌, ◌≤◌}
use native.Mathlib.Omega.{arith}
use lib.Dec.{ltb, eqb}
use lib.ListN.{length, take, drop, length-drop}
use borrow.Author.Tests.{ltb-false, le-ltb, eq-eqb, ne_eqb}
use Rattle.digits.specs.Digits.{is_packed}
use Rattle.field.specs.Contents.{size, skip, allowed, fault}
use Rattle.field.specs.declared.Prefix.TheVariants.{Absent}
use Rattle.field.specs.declared.Format.{Format}
use Rattle.field.proofs.Contents.{none-in_form}
use Rattle.span.specs.Span.{count_in, passed_at, contents_at, span_at, sized_at, frame_at, spans}
use Rattle.span.specs.declared.Span.{Span}
use Rattle.span.proofs.Held.{Fits, same_spans, passed_no, passed_yes, passed-held, size-bound}

-- a frame's contents are judged after it
abbrev judged : Format → List ℕ → Result Span ℕ → Result Span ℕ
judged f s (Err e) = Err e
judged f s (Ok x) =
    cond (eqb (fault f.class x.count (take x.size (drop x.skip s))) 0) (Ok x) (Err (fault f.class x.count (take x.size (drop x.skip s))))

judged-cond : (f : Format) (s : List ℕ) (b : Bool) (x y : Result Span ℕ) → judged f s (cond b x y) ≡ cond b (judged f s x) (judged f s y)
judged-cond f s true x y = refl
judged-cond f s false x y = refl

judged-passed : (f : Format) (s : List ℕ) (n : ℕ) (r : List ℕ) → judged f s (passed_at f n r) ≡ passed_at f n r
unfolding passed_at
judged-passed f s n r = rw (judged-cond, judged-cond, none-in_form)

span_frame : (f : Format) (s : List ℕ) → span_at f s ≡ judged f s (frame_at f s)
unfolding span_at contents_at frame_at sized_at
span_frame f s = rw (judged-cond, judged-cond, judged-cond, judged-cond, judged-passed)

module _ (f : Format) (s : List ℕ) where
  pub frame_refused : {e : ℕ} → frame_at f s ≡ Err e → span_at f s ≡ Err e
  frame_refused q = rw (span_frame f s, q)

  module _ {n p z : ℕ} (q : frame_at f s ≡ spans n p z) where
    pub frame_held : fault f.class n (take z (drop p s)) ≡ 0 → span_at f s ≡ spans n p z
    frame_held e = rw (span_frame f s, q, eq-eqb _ _ e)

    pub frame_fault : {e : ℕ} → fault f.class n (take z (drop p s)) ≡ e → (e ≡ 0 → ⊥) → span_at f s ≡ Err e
    frame_fault {e} g k = rw (span_frame f s, q, g, ne_eqb e 0 k)

pub frame_fits : (f : Format) (s : List ℕ) {n p z : ℕ} → frame_at f s ≡ spans n p z → Fits f s p z
unfolding frame_at sized_at
frame_fits f s {n} {p} {z} q =
    let a = passed_no (ltb (length s) k) 3 _ q in
    let b = passed_yes (is_packed (2 * k) (take k s)) 6 _ a.1 in
    go (allowed f m) refl (ltb-false (length s) k a.0) b.1
  where
    k : ℕ
    k = skip f.prefix

    m : ℕ
    m = count_in f.prefix f.high (take k s)

    w : ℕ
    w = size f.class m

    go : (t : Bool) → allowed f m ≡ t → k ≤ length s
        → cond t (cond (ltb (length (drop k s)) w) (Err 3) (spans m k w)) (passed_at f m (drop k s)) ≡ spans n p z → Fits f s p z
    go true t kp q =
        let d = passed_no (ltb (length (drop k s)) w) 3 (spans m k w) q in
        let wr : w ≤ length (drop k s) = ltb-false (length (drop k s)) w d.0 in
        let same = same_spans d.1 in
        let kq : k ≡ p = same.1.0 in
        let zw : w ≡ z = same.1.1 in
        record { within = omega (arith, length-drop k s); placed = rw (← zw) (size-bound f m t) }
    go false t kp q =
        let h = passed-held f m s q kp in
        record { within = omega (arith, h.within, h.size_none); placed = omega (arith, h.size_none) }

-- a field without a length has one count
pub frame_absent : (f : Format) (s : List ℕ) → f.prefix ≡ Absent → frame_at f s ≡ sized_at f f.high s
unfolding frame_at is_packed
frame_absent f s e = rw (e, le-ltb (length s) 0 (omega arith))
