-- `rehearse::rehearse_lines` meets its contract.
use Rattle.std.proofs.Common.{◌≡◌, false, ◌<◌, length}
use Rattle.state.specs.Calls.{lend}
use Rattle.rehearse.proofs.Scripts.{Going}
use Rattle.rehearse.proofs.rehearse_lines.Given as goal

abbrev pub invariant-loop : goal.invariant-loop
invariant-loop l =
    Going l.initial.at l.initial.chunk l.initial.rehearsal l.counter l.at l.chunk l.rehearsal (lend l.journal l.message)
    × (0 < l.counter → l.at.ended ≡ false) × (length l.line ≡ 4098) × (length l.chunk ≡ length l.initial.chunk) × (length l.journal ≡ length l.initial.journal)
    × (length l.message ≡ length l.initial.message) × (length l.text ≡ length l.initial.text)
