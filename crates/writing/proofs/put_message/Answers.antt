-- `writing::put_message` meets its contract.
use Rattle.std.proofs.Common.{rules, arith, ◌≡◌, ◌/◌, ◌%◌, ◌+◌, ◌++◌, length, length-append, ℕ, drop, ap, sym, ◌∙◌}
use Rattle.digits.proofs.Copies.{copied_whole}
use Rattle.writing.specs.Writing.{head}
use Rattle.writing.proofs.Putting.{room-head, put_head, put_after}
use Rattle.writing.proofs.put_message.Goals as goal

pub returns : goal.returns
returns c =
    let m = c.args.m.now in
    let l : length m.bitmap ≡ 8 = search rules in
    let n : length (head m ++ c.args.fields.now) ≡ 10 + length c.args.fields.now = length-append (head m) c.args.fields.now ∙ omega (arith, l) in
    let h = put_head (m.indicator / 256) (m.indicator % 256) m.bitmap c.args.buf.now l (room-head c.args.fields.now c.args.buf.now c.requires) (copied_whole _ _ c.copy.ensures (search rules)) in
    let b = put_after 10 (head m) c.args.fields.now c.args.buf.now (omega (arith, l)) c.requires h (copied_whole _ _ c.copy-2.ensures (search rules)) in
    (sym n, b ∙ ap (λ (k : ℕ). (head m ++ c.args.fields.now) ++ drop k c.args.buf.now) (sym n))
