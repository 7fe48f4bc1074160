-- Laws of a message as it is shown.
use Rattle.std.proofs.Common.{List, [], ◌++◌, append_assoc, append-nil, length, get_or, take, drop}
use Rattle.std.proofs.Common.{◌≡◌, refl, ap, ℕ, ◌+◌, ◌-◌, ◌≤◌, arith}
use lib.Seq.{drop-drop}
use Rattle.message.specs.Message.{rooms}
use Rattle.field.specs.declared.Format.{Format}
use Rattle.field.specs.Contents.{room}
use Rattle.field.specs.Table.{formats, rows}
use Rattle.field.proofs.Formats.{drop-formats}
use Rattle.message.proofs.Places.{At, Place, place-part, rooms_of, rooms-formats, first_count}
use Rattle.texts.specs.Text.{Adds}
use Rattle.texts.proofs.Texts.{nothing, and_then}
use Rattle.dump.specs.Shown.{named_line, field_lines}

-- the lines of the fields before place k are added: what the loop over the table keeps
pub record ShownTo (bm cs bs : List ℕ) (n : ℕ) (o : List ℕ) (k at : ℕ) (l : List ℕ) : Type 0 where
  pub text : List ℕ
  pub adds : Adds text n o at l
  pub len : length l ≡ length o
  pub size : length bs ≡ rooms
  pub bound : k ≤ rows
  pub eq : (from : ℕ) → Place bs k from → text ++ field_lines (drop k formats) bm (drop k cs) (drop from bs) ≡ field_lines formats bm cs bs

pub shown-none : (bm cs bs : List ℕ) (n : ℕ) (o : List ℕ) → length bs ≡ rooms → ShownTo bm cs bs n o 0 n o
shown-none bm cs bs n o h =
    record {
      text = [];
      adds = nothing;
      len = refl;
      size = h;
      bound = omega arith;
      eq = λ from p. let e : from ≡ 0 = omega (arith, p.rest, rooms-formats) in rw e;
    }

module _ {bm cs bs : List ℕ} {n : ℕ} {o : List ℕ} {k at : ℕ} {l : List ℕ} (r : ShownTo bm cs bs n o k at l) where
  lines-turn : {f : Format} (from : ℕ) → At k f → field_lines (drop k formats) bm (drop k cs) (drop from bs)
      ≡ named_line f bm (get_or cs k 0) (drop from bs) ++ field_lines (drop (k + 1) formats) bm (drop (k + 1) cs) (drop (from + room f) bs)
  unfolding field_lines
  lines-turn {f} from a = rw (a.turn, first_count, drop-drop 1 k cs, drop-drop (room f) from bs)

  pub shown-more : {f : Format} {from m : ℕ} {e : List ℕ} → At k f → Place bs k from → length e ≡ length l
      → Adds (named_line f bm (get_or cs k 0) (take (rooms - from) (drop from bs))) at l m e → ShownTo bm cs bs n o (k + 1) m e
  shown-more {f} {from} a p h x =
      record {
        text = r.text ++ named_line f bm (get_or cs k 0) (drop from bs);
        adds = and_then r.adds (rw (place-part p) at x);
        len = omega (arith, r.len);
        size = r.size;
        bound = omega (arith, a.below);
        eq = λ to q.
            let e : to ≡ from + room f = omega (arith, p.rest, q.rest, ap rooms_of a.turn) in
            rw (e, append_assoc) (rw (lines-turn from a) at (r.eq from p));
      }

  pub shown-done : rows ≤ k → Adds (field_lines formats bm cs bs) n o at l
  unfolding field_lines
  shown-done h =
      let e : k ≡ rows = omega (arith, r.bound) in
      let z : drop k formats ≡ [] = rw (e, drop-formats) in
      let p : Place bs k rooms = record { len = r.size; bound = r.bound; rest = rw z } in
      let d : r.text ≡ field_lines formats bm cs bs = rw (z, append-nil) at (r.eq rooms p) in
      rw d at r.adds
