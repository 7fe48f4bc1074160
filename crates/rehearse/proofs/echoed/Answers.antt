-- `rehearse::echoed` meets its contract.
use Rattle.std.proofs.Common.{refl, []}
use Rattle.texts.proofs.Texts.{start}
use Rattle.rehearse.proofs.Scripts.{echoed-none, echoed_line}
use Rattle.rehearse.proofs.echoed.Goals.{then-not-r-via-then-not-r, then-not-r-via-else-not-r+then-is_too_long, then-not-r-via-else-not-r+else-is_too_long+then-is_empty}
use Rattle.rehearse.proofs.echoed.Goals as goal

pub returns-then-not-r : goal.returns-then-not-r
returns-then-not-r c =
    echoed-none _ _ _ (elim c.then-not-r.branch [
      | then-not-r-via-then-not-r w ↦ rw w.if-not-r.true refl
      | then-not-r-via-else-not-r+then-is_too_long w ↦ rw (w.if-not-r.false, ← w.is_too_long.ensures, w.if-is_too_long.true) refl
      | then-not-r-via-else-not-r+else-is_too_long+then-is_empty w ↦
          rw (w.if-not-r.false, ← w.is_too_long.ensures, w.if-is_too_long.false, ← c.trimmed-words.ensures, ← w.is_empty.ensures) w.if-is_empty.true
    ])

pub returns : goal.returns
returns c =
    echoed_line _ _
    (rw (c.if-not-r.false, ← c.is_too_long.ensures, c.if-is_too_long.false, ← c.trimmed-words.ensures, ← c.is_empty.ensures)
    c.if-is_empty.false)
    (rw c.trimmed-words.ensures at (c.add_echo.ensures [] (start _)))
